-- The number that digits spell, capped.
use Rattle.std.proofs.Common.{◌≡◌, ℕ, zero, suc, ◌+◌, ◌-◌, ◌*◌, ◌^◌, ◌<◌, ◌≤◌, Bool, true, List, [], ◌∷◌, length, get_or, drop}
use Rattle.std.proofs.Common.{min, ◌∙◌, arith, add-one, subst}
use Rattle.std.proofs.{Math.Seq.drop-cons}
use Rattle.std.specs.{List.list_all, Str.Parse.digits_value_after, Char.digit_value, Char.is_digit}
use Rattle.std.proofs.lemmas.Bool.{and_parts, ltb-true}

-- one more digit to capped numbers that are the same is the same capped
value_capped : (base : ℕ) (digits : List ℕ) (m n : ℕ) → min m (2 ^ 64) ≡ min n (2 ^ 64) →
    min (digits_value_after (base + 1) m digits) (2 ^ 64) ≡ min (digits_value_after (base + 1) n digits) (2 ^ 64)
value_capped base [] m n same = same
value_capped base (d ∷ digits) m n same =
    value_capped base digits (m * (base + 1) + digit_value d) (n * (base + 1) + digit_value d)
    (grown base m n (digit_value d) same)
  where
    grown : (base m n d : ℕ) → min m (2 ^ 64) ≡ min n (2 ^ 64) →
        min (m * (base + 1) + d) (2 ^ 64) ≡ min (n * (base + 1) + d) (2 ^ 64)
    grown base m n d same = grind arith

pub all_at : (p : ℕ → Bool) (xs : List ℕ) (k : ℕ) → list_all p xs ≡ true → k < length xs → p (get_or xs k 0) ≡ true
all_at p (x ∷ xs) zero h l = (and_parts (p x) (list_all p xs) h).0
all_at p (x ∷ xs) (suc k) h l = all_at p xs k (and_parts (p x) (list_all p xs) h).1 (omega arith)
all_at p [] k h l = absurd (omega arith)

-- a digit's value is below the base
pub digit_below : (base : ℕ) (digits : List ℕ) (k : ℕ) → list_all (λ d. is_digit d base) digits ≡ true →
    k < length digits → digit_value (get_or digits k 0) < base
digit_below base digits k all within = ltb-true _ _ (all_at (λ d. is_digit d base) digits k all within)

-- the number so far with one more digit, and what is left of the digits
value_on : (base : ℕ) (digits : List ℕ) (k number new : ℕ) (whole : ℕ) → k < length digits →
    new ≡ min (number * (base + 1) + digit_value (get_or digits k 0)) (2 ^ 64) →
    min (digits_value_after (base + 1) number (drop k digits)) (2 ^ 64) ≡ whole →
    min (digits_value_after (base + 1) new (drop (k + 1) digits)) (2 ^ 64) ≡ whole
value_on base digits k number new whole within is before =
    let here : drop k digits ≡ get_or digits k 0 ∷ drop (k + 1) digits = rw add-one (drop-cons digits k 0 within) in
    value_capped base (drop (k + 1) digits) new (number * (base + 1) + digit_value (get_or digits k 0)) (omega arith)
    ∙ rw here at before

pub value_more : (base : ℕ) (digits : List ℕ) (k number new : ℕ) (whole : ℕ) → 1 ≤ base → k < length digits →
    new ≡ min (number * base + digit_value (get_or digits k 0)) (2 ^ 64) →
    min (digits_value_after base number (drop k digits)) (2 ^ 64) ≡ whole →
    min (digits_value_after base new (drop (k + 1) digits)) (2 ^ 64) ≡ whole
value_more base digits k number new whole some =
    let back : base - 1 + 1 ≡ base = omega arith in
    subst (λ (b : ℕ). k < length digits → new ≡ min (number * b + digit_value (get_or digits k 0)) (2 ^ 64) →
    min (digits_value_after b number (drop k digits)) (2 ^ 64) ≡ whole →
    min (digits_value_after b new (drop (k + 1) digits)) (2 ^ 64) ≡ whole) back
    (value_on (base - 1) digits k number new whole)
