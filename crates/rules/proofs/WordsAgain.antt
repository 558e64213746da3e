-- Words, numbers and texts are read again as they were printed.
use Rattle.std.proofs.Common.{◌≡◌, ℕ, zero, suc, ◌+◌, ◌*◌, ◌/◌, ◌%◌, ◌^◌, ◌<◌, Bool, true, false, not, ◌&&◌, ◌||◌}
use Rattle.std.proofs.Common.{◌==◌, nat_eq, nat_le, nat_lt, List, [], ◌∷◌, ◌++◌, length, drop, Option, Some, None}
use Rattle.std.proofs.Common.{Ok, refl, sym, ap, subst, ◌∙◌, arith, append_assoc, decimal}
use Rattle.std.specs.Prelude.{codes}
use Rattle.std.specs.{List.list_all, List.flat_map, List.position_or_len, List.starts_with, List.AllByRecursion}
use Rattle.std.specs.{Str.bytes_eq, Str.Parse.AllDigits, Str.Parse.digits_value, Char.is_digit, Char.digit_value}
use Rattle.std.specs.{Char.digit_char}
use Rattle.std.proofs.lemmas.Bool.{and_parts, and_from, and_right, or_parts, eqb-true, ne_eqb, lt-ltb, le-leb}
use Rattle.std.proofs.lemmas.List.{take_at, drop_at}
use Rattle.std.proofs.{lemmas.Fmt.decimal_is_IsNumeral, lemmas.Str.Parse.digit_from_value, lemmas.Str.digit_value-digit_char}
use Rattle.rules.specs.Numbers.{digits_number}
use Rattle.rules.specs.Limits.{IsFrom, IsText}
use Rattle.rules.specs.Scanning.{skipped, is_word_byte, unexpected, word_at, behind_word}
use Rattle.rules.specs.Scanning.{after_word, after_sign, word_expected, is_number, number_of, number_before, number_at, number_in}
use Rattle.rules.specs.Scanning.{after_quote, char_at, quoted, text_at}
use Rattle.rules.specs.Writing.{byte_text, quoted_text}

-- ---- words

-- a text that doesn't go on with a word
abbrev pub is_apart : List ℕ → Bool
is_apart [] = true
is_apart (byte ∷ text) = not (is_word_byte byte)

-- bytes of words, one at least
abbrev pub is_word : List ℕ → Bool
is_word [] = false
is_word (byte ∷ word) = is_word_byte byte && list_all is_word_byte word

word_front : (word rest : List ℕ) → list_all is_word_byte word ≡ true → is_apart rest ≡ true →
    position_or_len (λ byte. not (is_word_byte byte)) (word ++ rest) ≡ length word
word_front [] [] all apart = refl
word_front [] (byte ∷ rest) all apart = rw apart refl
word_front (byte ∷ word) rest all apart =
    let parts = and_parts (is_word_byte byte) (list_all is_word_byte word) all in
    rw (parts.0, word_front word rest parts.1 apart) (omega arith)

-- a byte of a word is none that is of no word
word_differs : (c byte : ℕ) → is_word_byte c ≡ false → is_word_byte byte ≡ true → (byte == c) ≡ false
word_differs c byte isnt is = ne_eqb byte c (λ e.
    let too : is_word_byte c ≡ true = subst (λ (b : ℕ). is_word_byte b ≡ true) e is in cc)

skip_word : (byte : ℕ) (text : List ℕ) → is_word_byte byte ≡ true → skipped (byte ∷ text) ≡ byte ∷ text
skip_word byte text is = rw (word_differs 32 byte refl is, word_differs 9 byte refl is, word_differs 13 byte refl is) refl

-- a text begins with a word, which ends there
pub record HasFront (text word rest : List ℕ) : Type 0 where
  pub word_is : word_at text ≡ word
  pub rest_is : behind_word text ≡ rest

pub word_again : (word rest : List ℕ) → is_word word ≡ true → is_apart rest ≡ true → HasFront (word ++ rest) word rest
unfolding word_at behind_word
word_again [] rest is apart = absurd cc
word_again (byte ∷ word) rest is apart =
    let parts = and_parts (is_word_byte byte) (list_all is_word_byte word) is in
    let skip : skipped (byte ∷ (word ++ rest)) ≡ byte ∷ (word ++ rest) = skip_word byte (word ++ rest) parts.0 in
    let size : position_or_len (λ b. not (is_word_byte b)) (byte ∷ (word ++ rest)) ≡ length (byte ∷ word) =
    word_front (byte ∷ word) rest is apart in
    let front : word_at (byte ∷ (word ++ rest)) ≡ byte ∷ word =
    rw (skip, size) (take_at (byte ∷ word) rest (length (byte ∷ word)) refl) in
    let behind : drop (length (byte ∷ word)) (skipped (byte ∷ (word ++ rest))) ≡ rest =
    rw skip (drop_at (byte ∷ word) rest (length (byte ∷ word)) refl) in
    record {
      word_is = front;
      rest_is = ap (λ (w : List ℕ). drop (length w) (skipped (byte ∷ (word ++ rest)))) front ∙ behind;
    }

pub same_word : (word rest : List ℕ) → is_word word ≡ true → is_apart rest ≡ true → bytes_eq word word ≡ true →
    after_word word (word ++ rest) ≡ Some rest
unfolding after_word
same_word word rest is apart same =
    let front = word_again word rest is apart in
    rw (front.word_is, same, front.rest_is) refl

pub other_word : (word other rest : List ℕ) → is_word word ≡ true → is_apart rest ≡ true → bytes_eq word other ≡ false →
    after_word other (word ++ rest) ≡ None
unfolding after_word
other_word word other rest is apart differ =
    let front = word_again word rest is apart in
    rw (front.word_is, differ) refl

pub word_space : (word text : List ℕ) → after_word word (32 ∷ text) ≡ after_word word text
unfolding after_word word_at behind_word
word_space word text = refl

pub named_space : (text : List ℕ) → word_at (32 ∷ text) ≡ word_at text
unfolding word_at
named_space text = refl

pub word_is_there : (word text rest : List ℕ) → after_word word text ≡ Some rest → word_expected word text ≡ Ok rest
unfolding word_expected
word_is_there word text rest is = rw is refl

-- ---- numbers

digit_is_of_word : (c : ℕ) → digit_value c < 10 → is_word_byte c ≡ true
digit_is_of_word c small =
    let range = digit_from_value c small in
    rw (le-leb 48 c range.0, le-leb c 57 range.1) refl

digits_are_of_words : (ds : List ℕ) → AllDigits 10 ds → list_all is_word_byte ds ≡ true
digits_are_of_words [] all = refl
digits_are_of_words (c ∷ ds) all = and_from _ _ (digit_is_of_word c all.0) (digits_are_of_words ds all.1)

digits_are_a_word : (ds : List ℕ) → 0 < length ds → AllDigits 10 ds → is_word ds ≡ true
digits_are_a_word [] some all = absurd (omega arith)
digits_are_a_word (c ∷ ds) some all = digits_are_of_words (c ∷ ds) all

digits_begin : (ds : List ℕ) → 0 < length ds → AllDigits 10 ds → is_number ds ≡ true
digits_begin [] some all = absurd (omega arith)
digits_begin (c ∷ ds) some all = lt-ltb (digit_value c) 10 all.0

all_are_digits : (ds : List ℕ) → AllDigits 10 ds → list_all (λ d. is_digit d 10) ds ≡ true
all_are_digits [] all = refl
all_are_digits (c ∷ ds) all = and_from _ _ (lt-ltb (digit_value c) 10 all.0) (all_are_digits ds all.1)

-- a digit is not a letter
digit_differs : (c d : ℕ) → nat_lt (digit_value c) 10 ≡ false → digit_value d < 10 → (c == d) ≡ false
digit_differs c d isnt small = ne_eqb c d (λ e.
    let yes : nat_lt (digit_value c) 10 ≡ true = subst (λ (b : ℕ). nat_lt (digit_value b) 10 ≡ true) (sym e)
    (lt-ltb (digit_value d) 10 small) in cc)

not_hex : (ds : List ℕ) → AllDigits 10 ds → starts_with nat_eq ds (codes "0x") ≡ false
not_hex [] all = refl
not_hex (a ∷ []) all = and_right (48 == a) false refl
not_hex (a ∷ b ∷ ds) all = and_right (48 == a) ((120 == b) && true) (ap (λ (t : Bool). t && true)
    (digit_differs 120 b refl all.1.0))

-- what a number's digits are
record IsSpelled (n : ℕ) : Type 0 where
  word : is_word (decimal n) ≡ true
  number : is_number (decimal n) ≡ true
  value : number_of (decimal n) ≡ Some n
  all : AllDigits 10 (decimal n)
  some : 0 < length (decimal n)

spelled : (n : ℕ) → n < 2 ^ 64 → IsSpelled n
spelled n small =
    let numeral = decimal_is_IsNumeral n small in
    let all = numeral.0.1 in
    let some = numeral.0.0 in
    let below : nat_lt (digits_value 10 (decimal n)) (2 ^ 64) ≡ true =
    lt-ltb (digits_value 10 (decimal n)) (2 ^ 64) (omega arith) in
    let digits : digits_number 10 (decimal n) ≡ Some n =
    rw (lt-ltb 0 (length (decimal n)) some, all_are_digits (decimal n) all, below) (ap Some numeral.1) in
    record {
      word = digits_are_a_word (decimal n) some all;
      number = digits_begin (decimal n) some all;
      value = rw (not_hex (decimal n) all) digits;
      all = all;
      some = some;
    }

pub number_word : (n : ℕ) (rest : List ℕ) → n < 2 ^ 64 → is_apart rest ≡ true → is_number (word_at (decimal n ++ rest)) ≡ true
number_word n rest small apart =
    let is = spelled n small in
    rw (word_again (decimal n) rest is.word apart).word_is is.number

pub number_again : (n : ℕ) (rest : List ℕ) → n < 2 ^ 64 → is_apart rest ≡ true → number_at (decimal n ++ rest) ≡ Ok (n, rest)
unfolding number_at
number_again n rest small apart =
    let is = spelled n small in
    let front = word_again (decimal n) rest is.word apart in
    rw (front.word_is, is.number, is.value, front.rest_is) refl

pub in_again : (low high n : ℕ) (rest : List ℕ) → IsFrom low high n → n < 2 ^ 64 → is_apart rest ≡ true →
    number_in low high (decimal n ++ rest) ≡ Ok (n, rest)
unfolding number_in
in_again low high n rest is small apart =
    rw (number_again n rest small apart, le-leb low n is.low_is, le-leb n high is.high_is) refl

before_space : (n : Option ℕ) (rest text : List ℕ) → number_before n rest (32 ∷ text) ≡ number_before n rest text
before_space (Some n) rest text = refl
before_space None rest text = refl

number_space : (text : List ℕ) → number_at (32 ∷ text) ≡ number_at text
unfolding number_at word_at behind_word unexpected
number_space text = rw (before_space (number_of (word_at text)) (behind_word text) text) refl

pub in_space : (low high : ℕ) (text : List ℕ) → number_in low high (32 ∷ text) ≡ number_in low high text
unfolding number_in
in_space low high text = rw (number_space text) refl

-- a number is no word of letters
differs_from : (letter : ℕ) (letters ds : List ℕ) → nat_lt (digit_value letter) 10 ≡ false → AllDigits 10 ds →
    bytes_eq ds (letter ∷ letters) ≡ false
differs_from letter letters [] isnt all = refl
differs_from letter letters (d ∷ ds) isnt all = ap (λ (t : Bool). t && bytes_eq ds letters) (ne_eqb d letter (λ e.
    let yes : nat_lt (digit_value letter) 10 ≡ true = subst (λ (b : ℕ). nat_lt (digit_value b) 10 ≡ true) e
    (lt-ltb (digit_value d) 10 all.0) in cc))

pub number_is_no_word : (letter : ℕ) (letters : List ℕ) (n : ℕ) (rest : List ℕ) → nat_lt (digit_value letter) 10 ≡ false →
    n < 2 ^ 64 → is_apart rest ≡ true → after_word (letter ∷ letters) (decimal n ++ rest) ≡ None
number_is_no_word letter letters n rest isnt small apart =
    let is = spelled n small in
    other_word (decimal n) (letter ∷ letters) rest is.word apart (differs_from letter letters (decimal n) isnt is.all)

-- a number begins with no sign
no_sign_of_digits : (sign : ℕ) (ds rest : List ℕ) → nat_lt (digit_value sign) 10 ≡ false → 0 < length ds →
    AllDigits 10 ds → after_sign (sign ∷ []) (ds ++ rest) ≡ None
unfolding after_sign
no_sign_of_digits sign [] rest isnt some all = absurd (omega arith)
no_sign_of_digits sign (d ∷ ds) rest isnt some all =
    let skip : skipped (d ∷ (ds ++ rest)) ≡ d ∷ (ds ++ rest) = skip_word d (ds ++ rest) (digit_is_of_word d all.0) in
    rw (skip, digit_differs sign d isnt all.0) refl

pub no_sign_of_number : (sign : ℕ) (n : ℕ) (rest : List ℕ) → nat_lt (digit_value sign) 10 ≡ false → n < 2 ^ 64 →
    after_sign (sign ∷ []) (decimal n ++ rest) ≡ None
no_sign_of_number sign n rest isnt small =
    let is = spelled n small in no_sign_of_digits sign (decimal n) rest isnt is.some is.all

-- ---- texts

-- a byte of a text, as a text within quotes has it
record IsByteRead (byte : ℕ) (more : List ℕ) : Type 0 where
  open_is : after_quote (byte_text byte ++ more) ≡ None
  byte_is : char_at (byte_text byte ++ more) ≡ Some (byte, more)

marked_again : (byte : ℕ) (more : List ℕ) (b : Bool) → (byte == 34) ≡ b → ((byte == 34) || (byte == 92)) ≡ true →
    IsByteRead byte more
unfolding char_at
marked_again byte more true e q = subst (λ (c : ℕ). IsByteRead c more) (sym (eqb-true byte 34 e))
    (record { open_is = refl; byte_is = refl })
marked_again byte more false e q =
    let slash : (byte == 92) ≡ true = rw e at q in
    subst (λ (c : ℕ). IsByteRead c more) (sym (eqb-true byte 92 slash)) (record { open_is = refl; byte_is = refl })

-- by the tests that decide how a byte is printed
byte_again : (byte : ℕ) (more : List ℕ) (quote line tab plain : Bool) → byte < 256 →
    ((byte == 34) || (byte == 92)) ≡ quote → (byte == 10) ≡ line → (byte == 9) ≡ tab →
    (nat_le 32 byte && nat_lt byte 127) ≡ plain → IsByteRead byte more
unfolding char_at
byte_again byte more true line tab plain small q l t p = marked_again byte more (byte == 34) refl q
byte_again byte more false true tab plain small q l t p =
    subst (λ (c : ℕ). IsByteRead c more) (sym (eqb-true byte 10 l)) (record { open_is = refl; byte_is = refl })
byte_again byte more false false true plain small q l t p =
    subst (λ (c : ℕ). IsByteRead c more) (sym (eqb-true byte 9 t)) (record { open_is = refl; byte_is = refl })
byte_again byte more false false false true small q l t p =
    let parts = or_parts (byte == 34) (byte == 92) q in
    record {
      open_is = rw (q, l, t, p, parts.0) refl;
      byte_is = rw (q, l, t, p, parts.1) refl;
    }
byte_again byte more false false false false small q l t p =
    let high : digit_value (digit_char (byte / 16)) ≡ byte / 16 = digit_value-digit_char (byte / 16) (omega arith) in
    let low : digit_value (digit_char (byte % 16)) ≡ byte % 16 = digit_value-digit_char (byte % 16) (omega arith) in
    let high_is : nat_lt (digit_value (digit_char (byte / 16))) 16 ≡ true = lt-ltb _ _ (omega arith) in
    let low_is : nat_lt (digit_value (digit_char (byte % 16))) 16 ≡ true = lt-ltb _ _ (omega arith) in
    let value : digit_value (digit_char (byte / 16)) * 16 + digit_value (digit_char (byte % 16)) ≡ byte = omega arith in
    record {
      open_is = rw (q, l, t, p) refl;
      byte_is = rw (q, l, t, p, high_is, low_is, value) refl;
    }

byte_is_read : (byte : ℕ) (more : List ℕ) → byte < 256 → IsByteRead byte more
byte_is_read byte more small = byte_again byte more _ _ _ _ small refl refl refl refl

quoted_again : (room at : ℕ) (text rest : List ℕ) → length text < room → AllByRecursion (λ byte. byte < 256) text →
    quoted room at ((flat_map byte_text text ++ 34 ∷ []) ++ rest) ≡ Ok (text, rest)
unfolding quoted
quoted_again zero at text rest few bytes = absurd (omega arith)
quoted_again (suc room) at [] rest few bytes = refl
quoted_again (suc room) at (byte ∷ text) rest few bytes =
    let more = (flat_map byte_text text ++ 34 ∷ []) ++ rest in
    let regrouped : ((byte_text byte ++ flat_map byte_text text) ++ 34 ∷ []) ++ rest ≡ byte_text byte ++ more =
    ap (λ (t : List ℕ). t ++ rest) (append_assoc (byte_text byte) (flat_map byte_text text) (34 ∷ []))
    ∙ append_assoc (byte_text byte) (flat_map byte_text text ++ 34 ∷ []) rest in
    let is = byte_is_read byte more bytes.0 in
    let others : quoted room at more ≡ Ok (text, rest) = quoted_again room at text rest (omega arith) bytes.1 in
    let one : quoted (suc room) at (byte_text byte ++ more) ≡ Ok (byte ∷ text, rest) =
    rw (is.open_is, is.byte_is, others) refl in
    ap (quoted (suc room) at) regrouped ∙ one

pub text_again : (text rest : List ℕ) → IsText text → text_at (quoted_text text ++ rest) ≡ Ok (text, rest)
unfolding text_at quoted_text
text_again text rest is =
    quoted_again 256 (length (quoted_text text ++ rest)) text rest (omega (arith, is.few)) is.bytes

pub text_space : (text : List ℕ) → text_at (32 ∷ text) ≡ text_at text
unfolding text_at unexpected
text_space text = refl
