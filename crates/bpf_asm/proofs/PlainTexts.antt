-- Texts in which no byte parts a line: no space, no comma and no line feed.
use Rattle.std.proofs.Common.{◌≡◌, ℕ, suc, ◌^◌, ◌<◌, ◌≤◌, ℤ, pos, negsuc, Bool, true, false, ◌&&◌, ◌==◌, not, List, []}
use Rattle.std.proofs.Common.{◌∷◌, ◌++◌, length, refl, arith, decimal}
use Rattle.std.specs.{Char.is_ascii_digit, Fmt.signed_decimal, List.list_all, List.position_or_len}
use Rattle.std.proofs.lemmas.Bool.{and_parts, ne_eqb, leb-true}
use Rattle.std.proofs.{lemmas.List.Folds.list_all-append, lemmas.Fmt.decimal_nonempty}
use Rattle.bpf_asm.specs.Numbers.{distance_text}
use Rattle.bpf_asm.specs.Operands.{register_text, place_text, is_sign}
use Rattle.bpf_asm.proofs.NumberTexts.{Fits, decimal_digits}

-- ---- bytes that fail a test

abbrev pub fails : (ℕ → Bool) → List ℕ → Bool
fails p text = list_all (λ b. not (p b)) text

pub first_at : (p : ℕ → Bool) (xs : List ℕ) (y : ℕ) (ys : List ℕ) → fails p xs ≡ true → p y ≡ true →
    position_or_len p (xs ++ y ∷ ys) ≡ length xs
first_at p [] y ys e is = rw is
first_at p (x ∷ xs) y ys e is = grind (arith, and_parts, first_at p xs y ys)

pub first_none : (p : ℕ → Bool) (xs : List ℕ) → fails p xs ≡ true → position_or_len p xs ≡ length xs
first_none p [] e = refl
first_none p (x ∷ xs) e = grind (arith, and_parts, first_none p xs)

-- a test that holds of each byte of which another one does
pub implied : (p q : ℕ → Bool) → ((b : ℕ) → p b ≡ true → q b ≡ true) → (xs : List ℕ) → list_all p xs ≡ true →
    list_all q xs ≡ true
implied p q h [] e = refl
implied p q h (x ∷ xs) e = grind (arith, and_parts, implied p q h xs, h x)

-- a byte at most 47 is no digit
digit_other : (c b : ℕ) → c ≤ 47 → is_ascii_digit b ≡ true → (b == c) ≡ false
digit_other c b low digit = grind (arith, and_parts, leb-true, ne_eqb)

digit_unsigned : (b : ℕ) → is_ascii_digit b ≡ true → not (is_sign b) ≡ true
digit_unsigned b digit = rw (digit_other 43 b (omega arith) digit, digit_other 45 b (omega arith) digit)

digits_of : (n : ℕ) → n < 2 ^ 64 → list_all is_ascii_digit (decimal n) ≡ true
digits_of n small = (and_parts _ (list_all is_ascii_digit (decimal n)) (decimal_digits n small)).1

pub register_unsigned : (r : ℕ) → r < 2 ^ 64 → fails is_sign (register_text r) ≡ true
register_unsigned r small = implied is_ascii_digit (λ b. not (is_sign b)) digit_unsigned (decimal r) (digits_of r small)

-- ---- plain texts

abbrev pub is_plain : ℕ → Bool
is_plain b = (not (b == 32) && not (b == 44)) && not (b == 10)

abbrev pub are_plain : List ℕ → Bool
are_plain text = list_all is_plain text

-- a text of an operand has a byte, and no space, comma or line feed
pub record IsOperand (text : List ℕ) : Type 0 where
  pub plain : are_plain text ≡ true
  pub some : 0 < length text

digit_plain : (b : ℕ) → is_ascii_digit b ≡ true → is_plain b ≡ true
digit_plain b digit =
    let other = λ (c : ℕ) (low : c ≤ 47). digit_other c b low digit in
    rw (other 32 (omega arith), other 44 (omega arith), other 10 (omega arith))

plain_digits : (n : ℕ) → n < 2 ^ 64 → are_plain (decimal n) ≡ true
plain_digits n small = implied is_ascii_digit is_plain digit_plain (decimal n) (digits_of n small)

pub natural_operand : (n : ℕ) → n < 2 ^ 64 → IsOperand (decimal n)
natural_operand n small = record { plain = plain_digits n small; some = decimal_nonempty n small }

pub register_operand : (r : ℕ) → r ≤ 10 → IsOperand (register_text r)
register_operand r small = record { plain = plain_digits r (omega arith); some = omega arith }

pub number_operand : (z : ℤ) → Fits (2 ^ 31) z → IsOperand (signed_decimal z)
number_operand (pos n) fits = natural_operand n (omega arith)
number_operand (negsuc n) fits = record { plain = plain_digits (suc n) (omega arith); some = omega arith }

plain_distance : (m : ℕ) (z : ℤ) → m < 2 ^ 64 → Fits m z → are_plain (distance_text z) ≡ true
plain_distance m z below fits = grind (arith, plain_digits)

pub distance_operand : (m : ℕ) (z : ℤ) → m < 2 ^ 64 → Fits m z → IsOperand (distance_text z)
distance_operand m z below fits = record { plain = plain_distance m z below fits; some = grind arith }

pub both_plain : (xs ys : List ℕ) → are_plain xs ≡ true → are_plain ys ≡ true → are_plain (xs ++ ys) ≡ true
both_plain xs ys one other = rw (list_all-append is_plain xs ys, one, other)

pub place_operand : (base : ℕ) (offset : ℤ) → base ≤ 10 → Fits (2 ^ 15) offset → IsOperand (place_text base offset)
place_operand base offset small fits =
    let register = plain_digits base (omega arith) in
    let distance = plain_distance (2 ^ 15) offset (omega arith) fits in
    record {
      plain = both_plain (register_text base) _ register (both_plain (distance_text offset) (93 ∷ []) distance refl);
      some = omega arith;
    }
