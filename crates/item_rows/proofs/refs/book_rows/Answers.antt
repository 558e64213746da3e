use Rattle.std.proofs.Common.{length, ◌∙◌, arith}
use Rattle.std.proofs.lemmas.List.{length-map}
use Rattle.std.specs.Arc.{arc_value}
use Rattle.item_rows.specs.RowRefs.{row_in, rows_by}
use Rattle.item_rows.proofs.{RowLaws.take_all, RefLaws.within_at, RefLaws.one_taken}
use Rattle.item_rows.proofs.refs.book_rows.Goals as goal

pub of-requires : goal.of-requires
of-requires c =
    let made = arc_value c.args.made.now in
    within_at (length made) c.args.slots.now c.loop-slot.slot-index c.slot-item.result c.requires c.loop-slot-test.true
    c.slot-item.is

pub loop-slot-preserved : goal.loop-slot-preserved
loop-slot-preserved c =
    one_taken (arc_value c.args.made.now) c.args.slots.now c.loop-slot.slot-index c.loop-slot.rows.items
    c.push.new.self.items c.slot-item.result c.in_ok-of.field-0 c.loop-slot.invariant c.loop-slot-test.true
    c.slot-item.is c.in_ok-of.ensures c.in_ok-push.ensures.items

pub returns : goal.returns
returns c =
    let rows = rows_by (arc_value c.args.made.now) c.args.slots.now in
    c.loop-slot.invariant
    ∙ take_all c.loop-slot.slot-index rows
    (omega (arith, c.loop-slot-test.false, length-map c.args.slots.now (row_in (arc_value c.args.made.now))))
