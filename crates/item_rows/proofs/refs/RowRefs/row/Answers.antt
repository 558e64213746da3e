use Rattle.std.proofs.Common.{◌≡◌, ◌<◌, List, length, slice_get, Some, sym, ap, subst, ◌∙◌, arith}
use Rattle.std.proofs.lemmas.List.{length-map}
use Rattle.machine_spec.specs.declared.outcome.Emission.{Emission}
use Rattle.log_spec.specs.declared.row.Row.{Row}
use Rattle.item_rows.specs.{RowParts.IsWithin, RowRefs.row_in, RowRefs.rows_by}
use Rattle.item_rows.proofs.{RowLaws.if_ok, RefLaws.within_at, RefLaws.row_at}
use Rattle.item_rows.proofs.refs.RowRefs.row.Goals as goal

pub row_of_slot-requires : goal.row_of_slot-requires
row_of_slot-requires c =
    let made = c.self.inside.made.items in let slots = c.self.inside.slots.items in
    let slot = c.index-slot.result.now in
    let lt : c.args.index < length slots =
    omega (arith, c.requires, ap length c.self.view_is, length-map slots (row_in made)) in
    subst (λ (es : List Emission). IsWithin (length es) slot.parts) (sym c.deref.ensures.value)
    (within_at (length made) slots c.args.index slot c.self.invariant lt c.index-slot.ensures)

pub returns : goal.returns
returns c =
    let made = c.self.inside.made.items in let slots = c.self.inside.slots.items in
    let slot = c.index-slot.result.now in
    let lt : c.args.index < length slots =
    omega (arith, c.requires, ap length c.self.view_is, length-map slots (row_in made)) in
    let here : slice_get (rows_by made slots) c.args.index ≡ Some (row_in made slot) =
    row_at made slots c.args.index slot lt c.index-slot.ensures in
    if_ok c.row_of_slot.result (λ (row : Row). row ≡ row_in c.deref.result.now slot)
    (λ (row : Row). slice_get c.args.self.now c.args.index ≡ Some row) c.row_of_slot.ensures
    (λ row is. subst (λ (rs : List Row). slice_get rs c.args.index ≡ Some row) c.self.view_is
    (here ∙ ap Some (ap (λ (es : List Emission). row_in es slot) (sym c.deref.ensures.value) ∙ sym is)))
