-- Numbers by their decimal digits.
use Rattle.std.proofs.Common.{◌≡◌, ℕ, zero, suc, ◌+◌, ◌-◌, ◌*◌, ◌^◌, ◌<◌, ◌≤◌, true, List, length, get_or, take, refl, arith}
use Rattle.std.proofs.Math.Nat.{pow-suc}
use Rattle.std.specs.{Char.is_ascii_digit, Char.digit_value, List.list_all, Str.Parse.digits_value}
use Rattle.std.proofs.lemmas.{List.Folds.list_all_more, Int.Digits.digits_value_more, Bool.and_from}

ten_rises : (i k : ℕ) → 10 ^ i ≤ 10 ^ (i + k)
ten_rises i zero = let none : i + 0 ≡ i = omega arith in rw none (omega arith)
ten_rises i (suc k) =
    let more : i + suc k ≡ suc (i + k) = omega arith in
    rw (more, pow-suc 10 (i + k)) (omega (arith, ten_rises i k))

-- more digits write greater numbers
pub tens : (i j : ℕ) → i ≤ j → 10 ^ i ≤ 10 ^ j
tens i j below = let all : i + (j - i) ≡ j = omega arith in rw all at (ten_rises i (j - i))

-- what is known of a number after its first digits
pub record IsNumberOf (bytes : List ℕ) (i number : ℕ) : Type 0 where
  pub digits : list_all is_ascii_digit (take i bytes) ≡ true
  pub number_is : number ≡ digits_value 10 (take i bytes)
  pub small : number < 10 ^ i

-- one more digit
pub next_digit : (bytes : List ℕ) (i number : ℕ) → i < length bytes → IsNumberOf bytes i number →
    is_ascii_digit (get_or bytes i 0) ≡ true → digit_value (get_or bytes i 0) ≡ get_or bytes i 0 - 48 →
    get_or bytes i 0 - 48 < 10 → IsNumberOf bytes (i + 1) (number * 10 + (get_or bytes i 0 - 48))
next_digit bytes i number within is digit worth below =
    let more : i + 1 ≡ suc i = omega arith in record {
      digits = rw (list_all_more is_ascii_digit bytes i 0 within) (and_from _ _ is.digits digit);
      number_is = rw (digits_value_more 10 bytes i within, worth, ← is.number_is);
      small = rw (more, pow-suc 10 i) (omega (arith, is.small));
    }
