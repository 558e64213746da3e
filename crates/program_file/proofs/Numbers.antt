-- The decimal text of a number, and the number that a word says.
use Rattle.std.proofs.Common.{◌≡◌, ℕ, zero, suc, ◌^◌, ◌<◌, ◌≤◌, Bool, true, false, ◌&&◌, ◌==◌, nat_lt, List, length}
use Rattle.std.proofs.Common.{get_or, Some, None, Result, Ok, Err, refl, sym, ap, ◌∙◌, arith, decimal}
use Rattle.std.specs.Str.Parse.{digits_value, AllDigits, ParsesUnsigned}
use Rattle.std.specs.{Str.IsUtf8, Str.bytes_eq, Result.result_ok}
use Rattle.std.proofs.lemmas.Bool.{and_parts, or_parts, false_from_ne_true, lt-ltb, ltb-true, ltb-false, ne_eqb, eq-eqb}
use Rattle.std.proofs.lemmas.Bool.{eqb-false}
use Rattle.std.proofs.lemmas.{List.get_or_past, Str.IsUtf8-from_ascii, Fmt.IsAscii-decimal}
use Rattle.std.proofs.lemmas.Fmt.{decimal_is_IsNumeral, decimal_digit, first_decimal, decimal-digits_value}
use Rattle.std.proofs.lemmas.{Option.cond_some, Slice.Eq.bytes_eq-Decides}
use Rattle.std.proofs.lemmas.Str.Parse.{IsNumeralModel, numerals_by_value, tells_digits, parse_plain}
use Rattle.program_file.specs.Reading.{is_padded, slot_named}

-- a word that is said is the decimal text of the number
pub record IsSlot (word : List ℕ) (n : ℕ) : Type 0 where
  pub small : n < 2 ^ 32
  pub text : word ≡ decimal n

pub slot_is : (word : List ℕ) (n : ℕ) → slot_named word ≡ Some n → IsSlot word n
slot_is word n e =
    let is = cond_some _ _ n e in
    let both = and_parts _ _ is.0 in
    let small : digits_value 10 word < 2 ^ 32 = ltb-true _ _ both.0 in
    let text : decimal (digits_value 10 word) ≡ word = (bytes_eq-Decides _ word).0 both.1 in
    record { small = rw is.1 at small; text = sym (rw is.1 at text) }

pub slot_of : (word : List ℕ) (n : ℕ) → IsSlot word n → slot_named word ≡ Some n
slot_of word n is =
    let value : digits_value 10 (decimal n) ≡ n = (decimal_is_IsNumeral n (omega (arith, is.small))).1 in
    let same = (bytes_eq-Decides (decimal n) (decimal n)).1 refl in
    rw (is.text, value, lt-ltb n (2 ^ 32) is.small, same)

-- a word that is no number's decimal text says none
pub slot_none : (word : List ℕ) → ((n : ℕ) → IsSlot word n → ⊥) → None ≡ slot_named word
slot_none word none =
    let fails = false_from_ne_true
    (nat_lt (digits_value 10 word) (2 ^ 32) && bytes_eq (decimal (digits_value 10 word)) word) (λ e.
    let both = and_parts _ _ e in
    none (digits_value 10 word) (record {
      small = ltb-true _ _ both.0;
      text = sym ((bytes_eq-Decides _ word).0 both.1);
    })) in
    rw fails

pub decimal_padded : (n : ℕ) → n < 2 ^ 64 → is_padded (decimal n) ≡ false
decimal_padded zero small = rw (decimal_digit 0 (omega arith))
decimal_padded (suc n) small =
    let first = first_decimal (suc n) (omega arith) small in
    let sign = ne_eqb (get_or (decimal (suc n)) 0 0) 43 (λ e. omega arith) in
    let zero = ne_eqb (get_or (decimal (suc n)) 0 0) 48 (λ e. omega arith) in
    let some = (decimal_is_IsNumeral (suc n) small).0.0 in
    rw (sign, zero, lt-ltb 0 (length (decimal (suc n))) some)

own : IsNumeralModel (AllDigits 10) (digits_value 10)
own = numerals_by_value _ tells_digits

-- a word that is not padded has no sign, and a 0 before nothing
record IsPlain (word : List ℕ) : Type 0 where
  sign : get_or word 0 0 ≡ 43 → ⊥
  zero : get_or word 0 0 ≡ 48 → 0 < length word → length word ≡ 1

plain_cases : (word : List ℕ) (some : Bool) → nat_lt 0 (length word) ≡ some → is_padded word ≡ false → IsPlain word
plain_cases word false none plain =
    let empty : length word ≤ 0 = ltb-false 0 (length word) none in
    record { sign = λ e. omega (arith, get_or_past word 0 0 empty); zero = λ e some. absurd (omega arith) }
plain_cases word true some plain =
    let either = or_parts (get_or word 0 0 == 43) ((get_or word 0 0 == 48) && nat_lt 1 (length word))
    (rw some at plain) in
    record {
      sign = eqb-false _ _ either.0;
      zero = λ e long.
          let alone : nat_lt 1 (length word) ≡ false = rw (eq-eqb (get_or word 0 0) 48 e) at either.1 in
          omega (arith, ltb-false 1 (length word) alone);
    }

-- what `parse` reads of a word that is not padded
pub slot_parsed : {E : Type 0} (word : List ℕ) (r : Result ℕ E) → ParsesUnsigned 32 10 word r →
    is_padded word ≡ false → result_ok r ≡ slot_named word
slot_parsed {E = E} word (Ok n) h plain =
    let is = plain_cases word _ refl plain in
    let read = parse_plain own {E = E} 32 word (Ok n) h is.sign in
    let value : n ≡ digits_value 10 word = read.1 in
    let small : digits_value 10 word < 2 ^ 32 = read.0.2 in
    let text = decimal-digits_value own word read.0.0 read.0.1 (λ e. is.zero e read.0.1) (omega arith) in
    sym (slot_of word n (record { small = omega arith; text = rw (← value) at (sym text) }))
slot_parsed {E = E} word (Err e) h plain =
    let is = plain_cases word _ refl plain in
    let unread = parse_plain own {E = E} 32 word (Err e) h is.sign in
    slot_none word (λ n slot.
    let numeral = decimal_is_IsNumeral n (omega (arith, slot.small)) in
    let digits : AllDigits 10 word = rw (← slot.text) at numeral.0.1 in
    let some : 0 < length word = rw (← slot.text) at numeral.0.0 in
    let value : digits_value 10 word ≡ n = rw (← slot.text) at numeral.1 in
    unread (digits, some, omega (arith, slot.small)))

-- a word that is padded, or no UTF-8, is no number's decimal text
pub slot_padded : (word : List ℕ) → is_padded word ≡ true → None ≡ slot_named word
slot_padded word padded =
    slot_none word (λ n slot.
    let plain = decimal_padded n (omega (arith, slot.small)) in
    let both : true ≡ false = sym padded ∙ ap is_padded slot.text ∙ plain in cc)

pub slot_ascii : (word : List ℕ) → (IsUtf8 word → ⊥) → None ≡ slot_named word
slot_ascii word other =
    slot_none word (λ n slot.
    let ascii = IsAscii-decimal n (omega (arith, slot.small)) in
    other (rw slot.text (IsUtf8-from_ascii (decimal n) ascii)))
