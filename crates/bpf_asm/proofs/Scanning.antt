-- Walking over a text byte by byte.
use Rattle.std.proofs.Common.{◌≡◌, ℕ, zero, suc, ◌+◌, ◌-◌, ◌*◌, ◌^◌, ◌<◌, ◌≤◌, Bool, true, false, map, Some, None, List}
use Rattle.std.proofs.Common.{[], ◌∷◌, ◌++◌, length, get_or, drop, take, min, refl, sym, ap, ◌∙◌, arith, reverse}
use Rattle.std.proofs.Common.{add-one}
use Rattle.std.proofs.{Math.Seq.drop-cons, Math.ListN.drop_of_length-le, lemmas.List.Splits.slice_split_first}
use Rattle.std.proofs.lemmas.Str.{digit_value_digit}
use Rattle.std.specs.List.{position_or_len, slice_split, list_all}
use Rattle.std.specs.{Str.Parse.digits_value_after, Char.digit_value, Char.is_ascii_digit}
use Rattle.std.proofs.lemmas.List.{take_more, reverse-append, reverse-reverse, drop-take}
use Rattle.std.proofs.lemmas.Bool.{and_parts, leb-true, eq-eqb}
use Rattle.bpf_asm.specs.Operands.{read_between, read_place}
use Rattle.bpf_asm.specs.Reading.{is_space, is_comma, after_spaces, before_spaces, operands_in, single, is_empty}

-- ---- the first byte that passes a test

-- all before place k fail
abbrev pub Passed : (ℕ → Bool) → List ℕ → ℕ → Type 0
Passed p text k = position_or_len p text ≡ k + position_or_len p (drop k text)

front_of : (text : List ℕ) (k : ℕ) → k < length text → drop k text ≡ get_or text k 0 ∷ drop (k + 1) text
front_of text k h = rw add-one (drop-cons text k 0 h)

pub passed_more : (p : ℕ → Bool) (text : List ℕ) (k : ℕ) → k < length text → p (get_or text k 0) ≡ false →
    Passed p text k → Passed p text (k + 1)
passed_more p text k h fails before = grind (arith, front_of)

pub passed_here : (p : ℕ → Bool) (text : List ℕ) (k : ℕ) → k < length text → p (get_or text k 0) ≡ true →
    Passed p text k → position_or_len p text ≡ k
passed_here p text k h passes before = grind (arith, front_of)

pub passed_all : (p : ℕ → Bool) (text : List ℕ) (k : ℕ) → length text ≤ k → Passed p text k → position_or_len p text ≡ k
passed_all p text k h before = grind (arith, drop_of_length-le)

-- ---- spaces before a text

pub spaces_more : (text : List ℕ) (k : ℕ) → k < length text → get_or text k 0 ≡ 32 →
    after_spaces text ≡ after_spaces (drop k text) → after_spaces text ≡ after_spaces (drop (k + 1) text)
spaces_more text k h space before = rw (before, front_of text k h, space)

pub spaces_end : (text : List ℕ) (k : ℕ) → k < length text → is_space (get_or text k 0) ≡ false →
    after_spaces text ≡ after_spaces (drop k text) → after_spaces text ≡ drop k text
spaces_end text k h other before = rw (before, front_of text k h, other)

-- ---- spaces at the end of a text

before_space : (xs : List ℕ) → before_spaces (xs ++ 32 ∷ []) ≡ before_spaces xs
before_space xs = rw (reverse-append xs (32 ∷ []))

pub before_other : (xs : List ℕ) (b : ℕ) → is_space b ≡ false → before_spaces (xs ++ b ∷ []) ≡ xs ++ b ∷ []
before_other xs b other =
    let back = reverse-append xs (b ∷ []) in
    rw (back, other) (ap reverse (sym back) ∙ reverse-reverse (xs ++ b ∷ []))

pub last_of : (text : List ℕ) (end : ℕ) → 0 < end → end ≤ length text →
    take end text ≡ take (end - 1) text ++ get_or text (end - 1) 0 ∷ []
last_of text end some within =
    let back : end - 1 + 1 ≡ end = omega arith in
    rw back at (take_more text (end - 1) 0 (omega arith))

pub ends_in_space : (text : List ℕ) (end : ℕ) → 0 < end → end ≤ length text → get_or text (end - 1) 0 ≡ 32 →
    before_spaces (take end text) ≡ before_spaces text → before_spaces (take (end - 1) text) ≡ before_spaces text
ends_in_space text end some within space before =
    sym (before_space (take (end - 1) text)) ∙ rw (last_of text end some within, space) at before

pub ends_in_other : (text : List ℕ) (end : ℕ) → 0 < end → end ≤ length text →
    is_space (get_or text (end - 1) 0) ≡ false → before_spaces (take end text) ≡ before_spaces text →
    take end text ≡ before_spaces text
ends_in_other text end some within other before =
    let last = last_of text end some within in
    last ∙ rw (last, before_other (take (end - 1) text) (get_or text (end - 1) 0) other) at before

-- ---- pieces

-- a text without such a byte is one piece
pub split_whole : (p : ℕ → Bool) (xs : List ℕ) → length xs ≤ position_or_len p xs → slice_split p xs ≡ xs ∷ []
split_whole p [] h = refl
split_whole p (x ∷ xs) h = grind (arith, split_whole p xs)

-- ---- the number that digits spell, capped

-- one more digit to capped numbers that are the same is the same capped
pub value_capped : (digits : List ℕ) (m n : ℕ) → min m (2 ^ 64) ≡ min n (2 ^ 64) →
    min (digits_value_after 10 m digits) (2 ^ 64) ≡ min (digits_value_after 10 n digits) (2 ^ 64)
value_capped [] m n same = same
value_capped (d ∷ digits) m n same =
    value_capped digits (m * 10 + digit_value d) (n * 10 + digit_value d) (omega arith)

pub all_at : (p : ℕ → Bool) (xs : List ℕ) (k : ℕ) → list_all p xs ≡ true → k < length xs → p (get_or xs k 0) ≡ true
all_at p (x ∷ xs) zero h l = (and_parts (p x) (list_all p xs) h).0
all_at p (x ∷ xs) (suc k) h l = all_at p xs k (and_parts (p x) (list_all p xs) h).1 (omega arith)
all_at p [] k h l = absurd (omega arith)

digit_value_is : (d : ℕ) → is_ascii_digit d ≡ true → digit_value d + 48 ≡ d
digit_value_is d h = grind (arith, and_parts, digit_value_digit, leb-true)

-- the number so far with one more digit, and what is left of the digits
pub value_more : (digits : List ℕ) (k number new : ℕ) (whole : ℕ) → k < length digits →
    list_all is_ascii_digit digits ≡ true → new ≡ min (10 * number + (get_or digits k 0 - 48)) (2 ^ 64) →
    min (digits_value_after 10 number (drop k digits)) (2 ^ 64) ≡ whole →
    min (digits_value_after 10 new (drop (k + 1) digits)) (2 ^ 64) ≡ whole
value_more digits k number new whole within all is before =
    let d = get_or digits k 0 in
    let value = digit_value_is d (all_at is_ascii_digit digits k all within) in
    value_capped (drop (k + 1) digits) new (number * 10 + digit_value d) (omega arith)
    ∙ rw (front_of digits k within) at before

-- ---- operands

-- a text has one operand at least
some_operand : (text : List ℕ) → operands_in (Some text) ≡ [] → ⊥
some_operand [] e = cc
some_operand (x ∷ text) e = grind arith

pub single_no : (operand text : List ℕ) → None ≡ single (operand ∷ operands_in (Some text))
single_no operand text = grind (arith, some_operand text)

pub some_operands : (text : List ℕ) → is_empty (operands_in (Some text)) ≡ false
some_operands text = grind (arith, some_operand text)

pub first_operand : (text operand rest : List ℕ) (end : ℕ) → end < length text → end ≡ position_or_len is_comma text →
    operand ≡ after_spaces (take end text) → rest ≡ drop (end + 1) text →
    operands_in (Some text) ≡ operand ∷ operands_in (Some rest)
first_operand text operand rest end within place is left =
    rw (is, left, slice_split_first is_comma text 0 (omega arith), place)

pub last_operand : (text : List ℕ) (end : ℕ) → length text ≤ end → end ≡ position_or_len is_comma text →
    operands_in (Some text) ≡ after_spaces text ∷ []
last_operand text end past place = ap (map after_spaces) (split_whole is_comma text (omega arith))

-- ---- places in memory

pub place_is : (text : List ℕ) → 2 ≤ length text → get_or text 0 0 ≡ 91 → get_or text (length text - 1) 0 ≡ 93 →
    read_between (take (length text - 1 - 1) (drop 1 text)) ≡ read_place text
place_is text long opens closes =
    let size : 1 + (length text - 1 - 1) ≡ length text - 1 = omega arith in
    let last = eq-eqb (get_or text (length text - 1) 0) 93 closes in
    rw (eq-eqb (get_or text 0 0) 91 opens, last, ← drop-take 1 (length text - 1 - 1) text, size)
