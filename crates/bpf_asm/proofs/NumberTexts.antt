-- Numbers and distances read back as they were written.
use Rattle.std.proofs.Common.{◌≡◌, ℕ, zero, suc, ◌^◌, ◌<◌, ℤ, pos, negsuc, true, ◌||◌, ◌==◌, not, min, List, [], ◌∷◌}
use Rattle.std.proofs.Common.{length, get_or, Some, refl, ap, arith, slice_index, decimal}
use Rattle.std.specs.{Int.IsInRange, List.list_all, Char.is_ascii_digit, Fmt.signed_decimal, Str.Parse.AllDigits}
use Rattle.std.specs.Str.Parse.{digits_value}
use Rattle.std.proofs.lemmas.Bool.{le-leb, lt-ltb, ne_eqb, or_right}
use Rattle.std.proofs.lemmas.Fmt.{decimal_is_IsNumeral, decimal_digit, first_decimal}
use Rattle.std.proofs.lemmas.Str.Parse.{digit_from_value, digit_at}
use Rattle.bpf_asm.specs.Numbers.{is_digits, natural, negative, written_number, distance_of, distance_text}

-- ---- digits

digit_is : (c : ℕ) → IsInRange 48 57 c → is_ascii_digit c ≡ true
digit_is c range = grind (arith, le-leb)

all_digits : (ds : List ℕ) → AllDigits 10 ds → list_all is_ascii_digit ds ≡ true
all_digits [] all = refl
all_digits (c ∷ ds) all = rw (digit_is c (digit_from_value c all.0), all_digits ds all.1)

pub decimal_digits : (n : ℕ) → n < 2 ^ 64 → is_digits (decimal n) ≡ true
decimal_digits n small =
    let numeral = (decimal_is_IsNumeral n small).0 in
    rw (lt-ltb 0 (length (decimal n)) numeral.0, all_digits (decimal n) numeral.1)

pub decimal_first : (n : ℕ) → n < 2 ^ 64 → IsInRange 48 57 (get_or (decimal n) 0 0)
decimal_first n small = let numeral = (decimal_is_IsNumeral n small).0 in digit_at (decimal n) 0 numeral.1 numeral.0

-- the first digit is 0 only where it is alone
decimal_natural : (n : ℕ) → n < 2 ^ 64 → ((length (decimal n) == 1) || not (slice_index (decimal n) 0 == 48)) ≡ true
decimal_natural zero small = rw (decimal_digit 0 (omega arith))
decimal_natural (suc n) small =
    let first = first_decimal (suc n) (omega arith) small in
    let other = ne_eqb (get_or (decimal (suc n)) 0 0) 48 (λ e. omega arith) in
    or_right (length (decimal (suc n)) == 1) _ (ap not other)

pub natural_decimal : (n : ℕ) → n < 2 ^ 64 → natural (decimal n) ≡ Some n
natural_decimal n small =
    let value : digits_value 10 (decimal n) ≡ n = (decimal_is_IsNumeral n small).1 in
    let capped : min (digits_value 10 (decimal n)) (2 ^ 64) ≡ n = omega arith in
    rw (decimal_digits n small, decimal_natural n small, capped)

-- ---- signs

-- from -m to m - 1
abbrev pub Fits : ℕ → ℤ → Type 0
Fits m (pos n) = n < m
Fits m (negsuc n) = n < m

pub natural_again : (n : ℕ) → n < 2 ^ 64 → written_number (decimal n) ≡ Some (pos n)
natural_again n small =
    let first = (decimal_first n small).0 in
    rw (ne_eqb (get_or (decimal n) 0 0) 45 (λ e. omega arith), natural_decimal n small)

negative_some : (n : ℕ) → negative (Some (suc n)) ≡ Some (negsuc n)
negative_some n = rw (ne_eqb (suc n) 0 (λ e. omega arith))

pub number_again : (m : ℕ) (z : ℤ) → m < 2 ^ 64 → Fits m z → written_number (signed_decimal z) ≡ Some z
number_again m (pos n) below fits = natural_again n (omega arith)
number_again m (negsuc n) below fits = rw (natural_decimal (suc n) (omega arith)) (negative_some n)

pub distance_again : (m : ℕ) (z : ℤ) → m < 2 ^ 64 → Fits m z → distance_of (distance_text z) ≡ Some z
distance_again m (pos n) below fits = rw (natural_decimal n (omega arith))
distance_again m (negsuc n) below fits = rw (natural_decimal (suc n) (omega arith)) (negative_some n)
