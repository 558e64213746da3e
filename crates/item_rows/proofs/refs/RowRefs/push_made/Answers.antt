use Rattle.std.proofs.Common.{◌≡◌, ℕ, ◌+◌, List, ◌++◌, ◌∷◌, [], length, sym, ap, subst, ◌∙◌, arith}
use Rattle.std.proofs.lemmas.List.{length-append}
use Rattle.log_spec.specs.{declared.row.Row.Row, Logs.row_of}
use Rattle.machine_spec.specs.declared.outcome.Emission.{Emission}
use Rattle.item_rows.specs.declared.refs.SlotParts.TheVariants as slot_parts
use Rattle.item_rows.specs.{declared.refs.Slot.Slot, RowRefs.rows_by, RowRefs.AreWithin}
use Rattle.item_rows.proofs.RefLaws.{made_more, one_within, all_within, last_made}
use Rattle.item_rows.proofs.refs.RowRefs.push_made.Goals as goal

pub invariant_of-self-in_err-push-2 : goal.invariant_of-self-in_err-push-2
invariant_of-self-in_err-push-2 c =
    let inside = c.self.inside in let end = length inside.made.items in
    let more : length c.push.new.self.items ≡ end + 1 = ap length c.in_ok-push.ensures.items
    ∙ (length-append c.make_room.new.made.items (c.new.result ∷ [])
    ∙ ap (λ (es : List Emission). length es + 1) c.make_room.ensures) in
    subst (λ (ss : List Slot). AreWithin (length c.push.new.self.items) ss) (sym c.in_err-push-2.ensures.items)
    (all_within end (length c.push.new.self.items) inside.slots.items (omega (arith, more)) c.self.invariant)

pub invariant_of-self-2 : goal.invariant_of-self-2
invariant_of-self-2 c =
    let inside = c.self.inside in let end = length inside.made.items in
    let more : length c.push.new.self.items ≡ end + 1 = ap length c.in_ok-push.ensures.items
    ∙ (length-append c.make_room.new.made.items (c.new.result ∷ [])
    ∙ ap (λ (es : List Emission). length es + 1) c.make_room.ensures) in
    let last : c.len-made.result ≡ end = omega (arith, c.len-made.ensures, inside.made.ok.0) in
    subst (λ (ss : List Slot). AreWithin (length c.push.new.self.items) ss) (sym c.in_ok-push-2.ensures.items)
    (subst (λ (n : ℕ). AreWithin n (inside.slots.items ++ c.slot_for.result ∷ [])) (sym more)
    (one_within end (end + 1) inside.slots.items c.slot_for.result (omega arith) c.self.invariant
    (last_made end c.slot_for.result.parts (c.slot_for.ensures.parts.1 ∙ ap slot_parts.Made last))))

pub returns : goal.returns
returns c =
    let inside = c.self.inside in let made = inside.made.items in let slots = inside.slots.items in let slot =
    c.slot_for.result in let row = row_of c.args.place.now c.args.number in let emission = c.new.result in
    let last : c.len-made.result ≡ length made = omega (arith, c.len-made.ensures, inside.made.ok.0) in
    ap (λ (es : List Emission). rows_by es c.push-2.new.self.items)
    (c.in_ok-push.ensures.items ∙ ap (λ (es : List Emission). es ++ emission ∷ []) c.make_room.ensures)
    ∙ (ap (rows_by (made ++ emission ∷ [])) c.in_ok-push-2.ensures.items
    ∙ (made_more made slots slot emission row c.self.invariant
    (c.slot_for.ensures.parts.1 ∙ ap slot_parts.Made last) c.slot_for.ensures.row
    ∙ (ap (λ (rs : List Row). rs ++ row emission ∷ []) c.self.view_is
    ∙ ap (λ (e : Emission). c.args.self.now ++ row e ∷ []) c.new.ensures)))
