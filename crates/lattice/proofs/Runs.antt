-- Runs of places in a set of stack places.
use Rattle.std.proofs.Common.{◌≡◌, ℕ, zero, suc, ◌+◌, ◌-◌, ◌<◌, true, false, bit_or, refl, arith, sub-one, add-one}
use Rattle.std.specs.Int.Bits.{or_zero_r}
use Rattle.verifier_spec.specs.{declared.state.StackSet.StackSet, Checks.are_set}
use Rattle.verifier_spec.specs.StackSets.{is_set, with_place, with_places}

-- a run is its first place and the places after it
pub are_set_first : (set : StackSet) (place count : ℕ) → 0 < count → is_set set place ≡ true →
    are_set set (place + 1) (count - 1) ≡ are_set set place count
are_set_first set place zero more first = absurd (omega arith)
are_set_first set place (suc count) more first = rw (first, sub-one) refl

pub are_set_not : (set : StackSet) (place count : ℕ) → 0 < count → is_set set place ≡ false →
    are_set set place count ≡ false
are_set_not set place zero more first = absurd (omega arith)
are_set_not set place (suc count) more first = rw first refl

pub are_set_none : (set : StackSet) (place count : ℕ) → count ≡ 0 → are_set set place count ≡ true
are_set_none set place count none = rw none

-- ---- places that are added

pub no_bit : (word : ℕ) → bit_or word 0 ≡ word
no_bit word = or_zero_r word

pub with_none : (set : StackSet) (place : ℕ) → with_places set place 0 ≡ set
with_none set place = refl

-- `count` places and the next one
next_place : (set : StackSet) (place count : ℕ) →
    with_places set place (suc count) ≡ with_place (with_places set place count) (place + count)
next_place set place zero = let e : place + 0 ≡ place = omega arith in rw e
next_place set place (suc count) =
    let e : place + suc count ≡ (place + 1) + count = omega arith in
    rw e (next_place (with_place set place) (place + 1) count)

pub with_next : (set : StackSet) (place count : ℕ) →
    with_places set place (count + 1) ≡ with_place (with_places set place count) (place + count)
with_next set place count = rw add-one (next_place set place count)
