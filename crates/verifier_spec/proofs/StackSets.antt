-- Sets of stack places: their words, an intersection, and places added.
use Rattle.std.proofs.Common.{◌≡◌, ◌≢◌, ℕ, zero, suc, ◌+◌, ◌/◌, ◌%◌, ◌^◌, ◌<◌, ◌≤◌, min, max, ◌==◌, true, if◌then◌else◌}
use Rattle.std.proofs.Common.{bit_and, bit_or, ◌⊎◌, refl, ap, ◌∙◌, inl, inr, ⊎_elim, arith}
use Rattle.std.specs.Int.{bit_at}
use Rattle.std.proofs.lemmas.Bool.{eqb-true, eq-eqb, cases_Bool, cases_eq}
use Rattle.std.proofs.lemmas.Nat.Bits.{bit_at_and, bit_at_or, bit_at-lt, bit_at-zero, bit_at-pow_same, bit_at-pow_other}
use Rattle.verifier_spec.specs.declared.state.StackSet.{StackSet}
use Rattle.verifier_spec.specs.StackSets.{word_of, set_of, is_set, no_places, intersection, with_place, with_places}

-- ---- words

pub word_at : (f : ℕ → ℕ) (w : ℕ) → w < 8 → word_of (set_of f) w ≡ f w
word_at f (suc (suc (suc (suc (suc (suc (suc (suc w)))))))) low = absurd (omega arith)
word_at f w low = refl

-- the bit of a place is that of its word
bit_is : (f : ℕ → ℕ) (q : ℕ) → q < 512 → bit_at (word_of (set_of f) (q / 64)) (q % 64) ≡ bit_at (f (q / 64)) (q % 64)
bit_is f q low = ap (λ x. bit_at x (q % 64)) (word_at f (q / 64) (omega arith))

pub nothing_set : (place : ℕ) → place < 512 → is_set no_places place ≡ true → ⊥
nothing_set place low h =
    let none = bit_is (λ number. 0) place low in
    let zero_bit = bit_at-zero (place % 64) in
    grind arith

-- ---- the places that are in both sets

common_bit : (a b : StackSet) (q : ℕ) → q < 512 →
    bit_at (word_of (intersection a b) (q / 64)) (q % 64)
    ≡ min (bit_at (word_of a (q / 64)) (q % 64)) (bit_at (word_of b (q / 64)) (q % 64))
common_bit a b q low =
    bit_is (λ number. bit_and (word_of a number) (word_of b number)) q low
    ∙ bit_at_and (word_of a (q / 64)) (word_of b (q / 64)) (q % 64)

pub in_both : (a b : StackSet) (q : ℕ) → q < 512 → is_set (intersection a b) q ≡ true →
    (is_set a q ≡ true) × (is_set b q ≡ true)
in_both a b q low h =
    let common = common_bit a b q low in
    let left = bit_at-lt (word_of a (q / 64)) (q % 64) in
    let right = bit_at-lt (word_of b (q / 64)) (q % 64) in
    (grind arith, grind arith)

pub in_intersection : (a b : StackSet) (q : ℕ) → q < 512 → is_set a q ≡ true → is_set b q ≡ true →
    is_set (intersection a b) q ≡ true
in_intersection a b q low h g = let common = common_bit a b q low in grind arith

-- ---- one place added

-- the bit of a place in word w
abbrev bit_in : ℕ → ℕ → ℕ
bit_in place w = if w == place / 64 then 2 ^ (place % 64) else 0

bit_same : (place : ℕ) → bit_at (bit_in place (place / 64)) (place % 64) ≡ 1
bit_same place = rw (eq-eqb _ _ refl) (bit_at-pow_same (place % 64))

bit_other : (place q : ℕ) → q ≢ place → bit_at (bit_in place (q / 64)) (q % 64) ≡ 0
bit_other place q apart = elim (cases_Bool (q / 64 == place / 64)) [
  | inl same ↦
      let word : q / 64 ≡ place / 64 = eqb-true _ _ same in
      rw same (bit_at-pow_other (place % 64) (q % 64) (λ bit. apart (omega arith)))
  | inr other ↦ rw other (bit_at-zero (q % 64))
]

bits : (set : StackSet) (place q : ℕ) → q < 512 →
    bit_at (word_of (with_place set place) (q / 64)) (q % 64)
    ≡ max (bit_at (word_of set (q / 64)) (q % 64)) (bit_at (bit_in place (q / 64)) (q % 64))
bits set place q low =
    bit_is (λ number. bit_or (word_of set number) (bit_in place number)) q low
    ∙ bit_at_or (word_of set (q / 64)) (bit_in place (q / 64)) (q % 64)

place_set : (set : StackSet) (place : ℕ) → place < 512 → is_set (with_place set place) place ≡ true
place_set set place low =
    let bit = bits set place place low in
    let small = bit_at-lt (word_of set (place / 64)) (place % 64) in
    let one = bit_same place in
    grind arith

place_kept : (set : StackSet) (place q : ℕ) → q < 512 → is_set set q ≡ true → is_set (with_place set place) q ≡ true
place_kept set place q low h =
    let bit = bits set place q low in
    let small = bit_at-lt (bit_in place (q / 64)) (q % 64) in
    grind arith

place_only : (set : StackSet) (place q : ℕ) → q < 512 → q ≢ place → is_set (with_place set place) q ≡ true →
    is_set set q ≡ true
place_only set place q low apart h =
    let bit = bits set place q low in
    let none = bit_other place q apart in
    grind arith

-- ---- `count` places from one on

pub places_kept : (set : StackSet) (from count q : ℕ) → q < 512 → is_set set q ≡ true →
    is_set (with_places set from count) q ≡ true
places_kept set from zero q low h = h
places_kept set from (suc count) q low h =
    places_kept (with_place set from) (from + 1) count q low (place_kept set from q low h)

pub places_set : (set : StackSet) (from count q : ℕ) → q < 512 → from ≤ q → q < from + count →
    is_set (with_places set from count) q ≡ true
places_set set from zero q low above below = absurd (omega arith)
places_set set from (suc count) q low above below =
    ⊎_elim (λ same. places_kept (with_place set from) (from + 1) count q low (rw same (place_set set q low)))
    (λ apart. places_set (with_place set from) (from + 1) count q low (omega arith) (omega arith)) (cases_eq from q)

-- no others are
pub places_only : (set : StackSet) (from count q : ℕ) → q < 512 → is_set (with_places set from count) q ≡ true
    → (is_set set q ≡ true) ⊎ ((from ≤ q) × (q < from + count))
places_only set from zero q low h = inl h
places_only set from (suc count) q low h =
    ⊎_elim
    (λ before. ⊎_elim (λ same. inr (omega arith, omega arith)) (λ apart. inl (place_only set from q low apart before))
    (cases_eq q from))
    (λ inside. inr (omega arith, omega arith)) (places_only (with_place set from) (from + 1) count q low h)
