-- Laws of the words that spell numbers and bytes.
use Rattle.std.proofs.Common.{◌≡◌, ℕ, ◌+◌, ◌-◌, ◌*◌, suc, ◌^◌, ◌<◌, ◌≤◌, Bool, true, List, [], ◌∷◌, ◌++◌, length}
use Rattle.std.proofs.Common.{get_or, drop, min, nat_lt, not, ◌&&◌, ◌||◌, ◌==◌, slice_index, if◌then◌else◌, refl, Bor}
use Rattle.std.proofs.Common.{sym, ap, subst, ◌∙◌, arith, Option, Some, None, Result, Ok, Err, append_assoc}
use Rattle.std.proofs.{Math.Seq.drop-cons, Math.ListN.drop_of_length-le, lemmas.Bool.and_parts, lemmas.Bool.ltb-true}
use Rattle.std.specs.{List.list_all, Char.is_ascii_digit, Str.all_ascii_digits, Str.Parse.ParsesUnsigned}
use Rattle.std.specs.{Str.Parse.digits_value, Result.OkIff, Result.result_unwrap_or}
use Rattle.std.proofs.lemmas.Str.Parse.{IsNumeralModel, numerals_by_value, tells_all_ascii_digits, parse_digits}
use Rattle.script.specs.Commands.{command_from}
use Rattle.script.specs.Words.{texts, hex_digit, pair_of, before_bytes, hex_bytes, is_number, decimal_of}

-- ---- numbers

pub list_all-ascii_digits : (xs : List ℕ) → list_all is_ascii_digit xs ≡ all_ascii_digits xs
list_all-ascii_digits [] = refl
list_all-ascii_digits (x ∷ xs) = rw (list_all-ascii_digits xs) refl

numerals : IsNumeralModel (λ ds. all_ascii_digits ds ≡ true) (digits_value 10)
numerals = numerals_by_value _ tells_all_ascii_digits

capped : {E : Type 0} (r : Result ℕ E) (n v : ℕ) → 0 < n → OkIff r ((0 < n) × (v < 2 ^ 64)) v →
    result_unwrap_or r (2 ^ 64 - 1) ≡ min v (2 ^ 64 - 1)
capped (Ok x) n v some h = omega (arith, h.0.1, h.1)
capped (Err e) n v some h = let past : 2 ^ 64 ≤ v = omega (arith, λ (low : v < 2 ^ 64). h (some, low)) in omega arith

-- what `parse` reads of digits, or the greatest number of 64 bits
pub parse-capped : {E : Type 0} (word : List ℕ) (r : Result ℕ E) → ParsesUnsigned 64 10 word r →
    all_ascii_digits word ≡ true → 0 < length word →
    result_unwrap_or r (2 ^ 64 - 1) ≡ min (digits_value 10 word) (2 ^ 64 - 1)
parse-capped word r h digits some =
    capped r (length word) (digits_value 10 word) some (parse_digits numerals 64 word r h digits)

pub number-read : {E : Type 0} (word : List ℕ) (r : Result ℕ E) → ParsesUnsigned 64 10 word r → is_number word ≡ true →
    Some (result_unwrap_or r (2 ^ 64 - 1)) ≡ decimal_of word
number-read word r h number =
    let start = and_parts (nat_lt 0 (length word)) (list_all is_ascii_digit word
    && ((length word == 1) || not (slice_index word 0 == 48))) number in
    let rest = and_parts (list_all is_ascii_digit word) ((length word == 1) || not (slice_index word 0 == 48))
    start.1 in
    let some : 0 < length word = ltb-true 0 (length word) start.0 in
    let digits : all_ascii_digits word ≡ true = sym (list_all-ascii_digits word) ∙ rest.0 in
    let most = min (digits_value 10 word) (2 ^ 64 - 1) in
    ap Some (parse-capped word r h digits some) ∙ ap (λ (b : Bool). if b then Some most else None) (sym number)

-- ---- bytes

-- these bytes before the others, if there are others
abbrev pub prepended : List ℕ → Option (List ℕ) → Option (List ℕ)
prepended v (Some bytes) = Some (v ++ bytes)
prepended v None = None

pub hex_bytes-drop : (text : List ℕ) (i : ℕ) → 2 * i + 1 < length text →
    hex_bytes (drop (2 * i) text) ≡ before_bytes (pair_of (hex_digit (get_or text (2 * i) 0))
    (hex_digit (get_or text (2 * i + 1) 0))) (hex_bytes (drop (2 * (i + 1)) text))
hex_bytes-drop text i h =
    let one : suc (2 * i) ≡ 2 * i + 1 = omega arith in
    let two : suc (2 * i + 1) ≡ 2 * (i + 1) = omega arith in
    let first : drop (2 * i) text ≡ get_or text (2 * i) 0 ∷ drop (2 * i + 1) text
    = subst (λ k. drop (2 * i) text ≡ get_or text (2 * i) 0 ∷ drop k text) one
    (drop-cons text (2 * i) 0 (omega arith)) in
    let second : drop (2 * i + 1) text ≡ get_or text (2 * i + 1) 0 ∷ drop (2 * (i + 1)) text
    = subst (λ k. drop (2 * i + 1) text ≡ get_or text (2 * i + 1) 0 ∷ drop k text) two
    (drop-cons text (2 * i + 1) 0 h) in
    ap hex_bytes (first ∙ ap (λ t. get_or text (2 * i) 0 ∷ t) second)

before-prepended : (v : List ℕ) (b : ℕ) (rest : Option (List ℕ)) →
    prepended v (before_bytes (Some b) rest) ≡ prepended (v ++ b ∷ []) rest
before-prepended v b (Some bytes) = ap Some (sym (append_assoc v (b ∷ []) bytes))
before-prepended v b None = refl

-- one more pair
pub pair-read : (text v : List ℕ) (i b : ℕ) → 2 * i + 1 < length text →
    hex_bytes text ≡ prepended v (hex_bytes (drop (2 * i) text)) →
    Some b ≡ pair_of (hex_digit (get_or text (2 * i) 0)) (hex_digit (get_or text (2 * i + 1) 0)) →
    hex_bytes text ≡ prepended (v ++ b ∷ []) (hex_bytes (drop (2 * (i + 1)) text))
pair-read text v i b h before read =
    before ∙ ap (prepended v) (hex_bytes-drop text i h
    ∙ ap (λ p. before_bytes p (hex_bytes (drop (2 * (i + 1)) text))) (sym read))
    ∙ before-prepended v b (hex_bytes (drop (2 * (i + 1)) text))

-- one digit is left over
pub pairs-odd : (text v : List ℕ) (i : ℕ) → length text ≡ 2 * i + 1 →
    hex_bytes text ≡ prepended v (hex_bytes (drop (2 * i) text)) → None ≡ hex_bytes text
pairs-odd text v i h before =
    let first : drop (2 * i) text ≡ get_or text (2 * i) 0 ∷ drop (suc (2 * i)) text =
    drop-cons text (2 * i) 0 (omega arith) in
    let none : drop (suc (2 * i)) text ≡ [] = drop_of_length-le text {i = suc (2 * i)} (omega arith) in
    sym (before ∙ ap (λ t. prepended v (hex_bytes t)) (first ∙ ap (λ t. get_or text (2 * i) 0 ∷ t) none))

-- ---- words

pub no_words : (words : List (Bor (List ℕ))) → length words ≡ 0 → None ≡ command_from (texts words)
no_words [] h = refl
no_words (word ∷ words) h = absurd (omega arith)
