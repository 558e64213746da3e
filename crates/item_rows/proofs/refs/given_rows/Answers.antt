use Rattle.std.proofs.Common.{[], ◌∙◌, arith}
use Rattle.std.proofs.lemmas.List.{length-map}
use Rattle.item_rows.specs.RowRefs.{row_in, rows_by}
use Rattle.item_rows.proofs.{RowLaws.take_all, RefLaws.within_at, RefLaws.one_taken}
use Rattle.item_rows.proofs.refs.given_rows.Goals as goal

pub of_given-requires : goal.of_given-requires
of_given-requires c =
    within_at 0 c.args.slots.now c.loop-slot.slot-index c.slot-item.result c.requires c.loop-slot-test.true
    c.slot-item.is

pub loop-slot-preserved : goal.loop-slot-preserved
loop-slot-preserved c =
    one_taken [] c.args.slots.now c.loop-slot.slot-index c.loop-slot.rows.items c.push.new.self.items
    c.slot-item.result c.in_ok-of_given.field-0 c.loop-slot.invariant c.loop-slot-test.true c.slot-item.is
    c.in_ok-of_given.ensures c.in_ok-push.ensures.items

pub returns : goal.returns
returns c =
    c.loop-slot.invariant
    ∙ take_all c.loop-slot.slot-index (rows_by [] c.args.slots.now)
    (omega (arith, c.loop-slot-test.false, length-map c.args.slots.now (row_in [])))
