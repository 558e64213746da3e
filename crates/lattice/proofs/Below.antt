-- Tests of each number below one, and of sets of places by their words.
use Rattle.std.proofs.Common.{◌≡◌, ℕ, ◌+◌, ◌*◌, ◌/◌, ◌%◌, ◌^◌, ◌<◌, ◌||◌, ◌==◌, not, Bool, true, false, List}
use Rattle.std.proofs.Common.{slice_index, bit_and, refl, ap, add-one, arith}
use Rattle.std.specs.Int.{bit_at}
use Rattle.std.proofs.lemmas.Bool.{and_from}
use Rattle.std.proofs.lemmas.{Nat.and_le_r, Nat.Bits.bit_at_and, Nat.Bits.bit_at-lt, Nat.Bits.same_from_bits_below}
use Rattle.verifier_spec.specs.States.{each_below}
use Rattle.verifier_spec.proofs.Order.{each_below_at, each_below_from}

pub each_below_none : (test : ℕ → Bool) → each_below 0 test ≡ true
unfolding each_below
each_below_none test = refl

pub each_below_more : (n : ℕ) (test : ℕ → Bool) → each_below n test ≡ true → test n ≡ true →
    each_below (n + 1) test ≡ true
unfolding each_below
each_below_more n test below here = rw add-one (and_from (each_below n test) (test n) below here)

pub each_below_fails : (n : ℕ) (test : ℕ → Bool) (k : ℕ) → k < n → test k ≡ false → each_below n test ≡ false
each_below_fails n test k under fails =
    let each = λ (h : each_below n test ≡ true). each_below_at n test h k under in grind arith

-- ---- sets of places by their words

-- a place is set in words
abbrev pub has : List ℕ → ℕ → Bool
has words place = bit_at (slice_index words (place / 64)) (place % 64) == 1

-- a place that is set in the second is set in the first
abbrev pub covers : List ℕ → List ℕ → ℕ → Bool
covers inner outer place = not (has outer place) || has inner place

-- a word has the bits of another
abbrev pub HasBits : List ℕ → List ℕ → ℕ → Type 0
HasBits inner outer w = bit_and (slice_index inner w) (slice_index outer w) ≡ slice_index outer w

pub words_cover : (inner outer : List ℕ) → ((w : ℕ) → w < 8 → HasBits inner outer w) →
    each_below 512 (covers inner outer) ≡ true
words_cover inner outer all = each_below_from 512 (covers inner outer) (λ place under.
    let i = slice_index inner (place / 64) in
    let o = slice_index outer (place / 64) in
    let same = ap (λ n. bit_at n (place % 64)) (all (place / 64) (omega arith)) in
    let both = bit_at_and i o (place % 64) in
    let low = bit_at-lt i (place % 64) in
    grind arith)

pub word_covers : (inner outer : List ℕ) (w : ℕ) → w < 8 → slice_index outer w < 2 ^ 64 →
    each_below 512 (covers inner outer) ≡ true → HasBits inner outer w
word_covers inner outer w under fits each =
    let i = slice_index inner w in
    let o = slice_index outer w in
    same_from_bits_below 64 (bit_and i o) o (omega (arith, and_le_r i o)) fits (λ k low.
    let word : (64 * w + k) / 64 ≡ w = omega arith in
    let bit : (64 * w + k) % 64 ≡ k = omega arith in
    let here = rw (word, bit) at (each_below_at 512 (covers inner outer) each (64 * w + k) (omega arith)) in
    grind (arith, bit_at_and, bit_at-lt))
