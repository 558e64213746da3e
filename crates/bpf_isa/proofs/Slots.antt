-- How many slots an image has, and how many instructions begin in them.
use Rattle.std.proofs.Common.{◌≡◌, ℕ, zero, suc, ◌*◌, ◌%◌, ◌<◌, ◌≤◌, true, List, length, ap, arith}
use Rattle.std.proofs.lemmas.Bool.{eqb-true, leb-true, and_parts, cond_both}
use Rattle.std.proofs.lemmas.List.{length-map}
use Rattle.machine_spec.specs.declared.{instruction.Placed.Placed, limits.TheConstants.MAX_SLOTS}
use Rattle.machine_spec.specs.Image.{slot_count, slot_after, first_slots_from, first_slots, has_size, IsCodeOf}
use Rattle.machine_spec.proofs.Slots.{number_of_zero, number_below}

-- what the test of an image's size says
pub record IsSized (image : List ℕ) : Type 0 where
  pub whole : length image ≡ 8 * slot_count image
  pub some : 1 ≤ slot_count image
  pub few : slot_count image ≤ MAX_SLOTS

pub sized : (image : List ℕ) → has_size image ≡ true → IsSized image
sized image h =
    let both = and_parts _ _ h in
    let first = and_parts _ _ both.0 in
    let rest : length image % 8 ≡ 0 = eqb-true _ _ first.0 in
    record { whole = omega arith; some = leb-true _ _ first.1; few = leb-true _ _ both.1 }

-- there are no more instructions than steps
pub slots_few : (image : List ℕ) (steps slot : ℕ) → length (first_slots_from image steps slot) ≤ steps
slots_few image zero slot = omega arith
slots_few image (suc steps) slot =
    grind (arith, cond_both, slots_few image steps (slot_after image slot))

pub code_some : (image : List ℕ) (code : List Placed) → IsCodeOf image code → 0 < length code
code_some image code is = number_below code 0 0 (number_of_zero image code is)

pub code_few : (image : List ℕ) (code : List Placed) → IsCodeOf image code → length code ≤ MAX_SLOTS
unfolding first_slots
code_few image code is =
    omega (
      arith,
      (sized image is.size).few,
      slots_few image (slot_count image) 0,
      ap length is.slots,
      length-map code (λ placed. placed.slot),
    )
