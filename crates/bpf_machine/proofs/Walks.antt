-- A walk over the first slots of an image, and bytes written one after the other.
use Rattle.std.proofs.Common.{◌≡◌, ◌≢◌, ℕ, zero, suc, ◌+◌, ◌<◌, ◌≤◌, Bool, true, false, ◌||◌, ◌==◌, List, length}
use Rattle.std.proofs.Common.{slice_set, replicate, Option, Some, refl, sym, ap, ◌∙◌, subst, ⊎_elim, arith, slice_get}
use Rattle.std.proofs.Common.{option_and_then, slice_index}
use Rattle.std.specs.Prelude.{unwrap_or}
use Rattle.std.specs.List.{list_any}
use Rattle.std.proofs.{Math.Bool.or-false, lemmas.Option.slice_get-get_or}
use Rattle.std.proofs.lemmas.Bool.{lt-ltb, le-ltb, eq-eqb, ne_eqb, or_left, or_right, cases_eq}
use Rattle.machine_spec.specs.Image.{slot_count, slot_after, first_slots_from, first_slots, is_first_slot}
use Rattle.bpf_machine.specs.Views.{stack_of, is_marked}
use Rattle.bpf_machine.proofs.Pieces.{get-set_same}
use Rattle.machine_spec.proofs.Slots.{set_other}

module _ (image : List ℕ) (target : ℕ) where
  -- whether a walk from a slot on, of at most `steps` steps, comes to the target
  abbrev pub comes : ℕ → ℕ → Bool
  comes steps slot = list_any (λ first. first == target) (first_slots_from image steps slot)

  pub comes_first : comes (slot_count image) 0 ≡ is_first_slot image target
  unfolding first_slots
  comes_first = refl

  pub comes_past : (steps slot : ℕ) → slot_count image ≤ slot → comes steps slot ≡ false
  comes_past zero slot past = refl
  comes_past (suc steps) slot past = rw (le-ltb slot (slot_count image) past) refl

  pub comes_here : (left slot : ℕ) → 0 < left → slot < slot_count image → slot ≡ target → comes left slot ≡ true
  comes_here zero slot some within same = absurd (omega arith)
  comes_here (suc steps) slot some within same =
      rw (lt-ltb slot (slot_count image) within, eq-eqb slot target same) refl

  pub comes_later : (steps left slot : ℕ) → left ≡ suc steps → slot < slot_count image → slot ≢ target →
      comes left slot ≡ comes steps (slot_after image slot)
  comes_later steps left slot more within other =
      ap (λ n. comes n slot) more ∙ rw (lt-ltb slot (slot_count image) within, ne_eqb slot target other) refl

  -- a slot is marked, or a walk from a slot on comes to it
  abbrev marked_or_comes : List Bool → ℕ → ℕ → Bool
  marked_or_comes marks steps slot = is_marked marks target || comes steps slot

  -- a walk marks the slot that it is at and goes on
  pub marks_on : (marks : List Bool) (steps left slot : ℕ) → left ≡ suc steps → slot < slot_count image
      → slot < length marks → marked_or_comes marks left slot ≡ is_first_slot image target
      → marked_or_comes (slice_set marks slot true) steps (slot_after image slot) ≡ is_first_slot image target
  marks_on marks steps left slot more within inside before = ⊎_elim
      (λ (same : slot ≡ target).
      let is_set = subst (λ q. is_marked (slice_set marks slot true) q ≡ true) same
      (ap (λ m. unwrap_or m false) (get-set_same marks slot true inside)) in
      or_left _ _ is_set ∙ sym (or_right _ _ (comes_here left slot (omega (arith, more)) within same)) ∙ before)
      (λ (other : slot ≢ target).
      ap (λ m. unwrap_or m false || comes steps (slot_after image slot)) (set_other marks slot target true other)
      ∙ ap (λ b. is_marked marks target || b) (sym (comes_later steps left slot more within other)) ∙ before)
      (cases_eq slot target)

  -- where a walk does not come to a slot any more, it is marked if it is a first slot
  pub marks_all : (marks : List Bool) (steps slot : ℕ) → comes steps slot ≡ false
      → marked_or_comes marks steps slot ≡ is_first_slot image target →
      is_marked marks target ≡ is_first_slot image target
  marks_all marks steps slot past is =
      sym (ap (λ b. is_marked marks target || b) past ∙ or-false (is_marked marks target)) ∙ is

-- no slot is marked by these
pub none_marked : (count slot : ℕ) → is_marked (replicate count false) slot ≡ false
none_marked zero slot = refl
none_marked (suc count) zero = refl
none_marked (suc count) (suc slot) = none_marked count slot

-- the first k of some bytes have been written from a place on
pub record Wrote (old new : List (Option ℕ)) (start : ℕ) (bytes : List ℕ) (k : ℕ) : Type 0 where
  pub size : length new ≡ length old
  pub inside : (j : ℕ) → j < k → stack_of new (start + j) ≡ slice_get bytes j
  pub outside : (place : ℕ) → ((j : ℕ) → j < k → place ≢ start + j) → stack_of new place ≡ stack_of old place

abbrev flat : Option (Option ℕ) → Option ℕ
flat o = option_and_then (λ byte. byte) o

pub Wrote-more : (old new : List (Option ℕ)) (start : ℕ) (bytes : List ℕ) (k : ℕ) → Wrote old new start bytes k →
    k < length bytes → start + k < length new →
    length (slice_set new (start + k) (Some (slice_index bytes k))) ≡ length new →
    Wrote old (slice_set new (start + k) (Some (slice_index bytes k))) start bytes (k + 1)
Wrote-more old new start bytes k wrote below within kept = record {
  size = kept ∙ wrote.size;
  inside = λ j less. ⊎_elim
      (λ (same : j ≡ k). subst (λ (i : ℕ). stack_of (slice_set new (start + k) (Some (slice_index bytes k))) (start + i)
      ≡ slice_get bytes i) (sym same)
      (ap flat (get-set_same new (start + k) (Some (slice_index bytes k)) within)
      ∙ sym (slice_get-get_or bytes k 0 below)))
      (λ (other : j ≢ k). ap flat (set_other new (start + k) (start + j) (Some (slice_index bytes k))
      (λ e. other (omega arith))) ∙ wrote.inside j (omega arith))
      (cases_eq j k);
  outside = λ place apart. ap flat (set_other new (start + k) place (Some (slice_index bytes k))
      (λ e. apart k (omega arith) (sym e))) ∙ wrote.outside place (λ j less. apart j (omega arith));
}
