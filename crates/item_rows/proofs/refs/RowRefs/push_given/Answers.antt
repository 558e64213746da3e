use Rattle.std.proofs.Common.{List, ◌++◌, ◌∷◌, [], length, sym, ap, subst, ◌∙◌, arith}
use Rattle.log_spec.specs.{declared.row.Row.Row, Logs.row_of}
use Rattle.helpers.specs.Emitted.{excerpt_in}
use Rattle.item_rows.specs.declared.refs.SlotParts.TheVariants as slot_parts
use Rattle.item_rows.specs.{declared.refs.Slot.Slot, RowRefs.rows_by, RowRefs.AreWithin}
use Rattle.item_rows.proofs.RefLaws.{given_more, one_within, none_made}
use Rattle.item_rows.proofs.refs.RowRefs.push_given.Goals as goal

pub invariant_of-self-2 : goal.invariant_of-self-2
invariant_of-self-2 c =
    let inside = c.self.inside in
    let count = length inside.made.items in
    subst (λ (ss : List Slot). AreWithin count ss) (sym c.in_ok-push.ensures.items)
    (one_within count count inside.slots.items c.slot_for.result (omega arith) c.self.invariant
    (none_made count c.slot_for.result.parts c.args.excerpt c.slot_for.ensures.parts.1))

pub returns : goal.returns
returns c =
    let inside = c.self.inside in let made = inside.made.items in let slot = c.slot_for.result in let row =
    row_of c.args.place.now c.args.number in let given = c.args.given.now in
    ap (rows_by made) c.in_ok-push.ensures.items
    ∙ (given_more made inside.slots.items slot given (slot_parts.Given c.args.excerpt) row
    c.slot_for.ensures.parts.0 c.slot_for.ensures.parts.1 c.slot_for.ensures.row
    ∙ ap (λ (rs : List Row). rs ++ row (excerpt_in given c.args.excerpt) ∷ []) c.self.view_is)
