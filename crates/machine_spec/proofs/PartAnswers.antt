-- The greatest numbers that the helpers over parts of a record answer.
use Rattle.std.proofs.Common.{◌≡◌, ℕ, zero, suc, ◌+◌, ◌-◌, ◌≤◌, ◌<◌, ◌^◌, Bool, true, if◌then◌else◌, List}
use Rattle.std.proofs.Common.{[], ◌∷◌, length, Option, Some, None, refl, sym, subst, ◌∙◌, arith, unwrap_or}
use Rattle.std.proofs.Common.{option_map, ⊎_elim}
use Rattle.std.specs.Prelude.{slice_get, nat_lt}
use Rattle.std.specs.{Char.is_ascii_digit, Char.digit_value, List.list_all, Str.Parse.digits_value, Str.Parse.AllDigits}
use Rattle.std.specs.{Option.option_map_or}
use Rattle.std.proofs.lemmas.Bool.{and_parts, leb-true, ltb-true, cases_Bool, cond-true, cond-false, cond_both}
use Rattle.std.proofs.lemmas.{Int.Digits.digits_value-lt, Option.same_Some}
use Rattle.wire_spec.specs.declared.limits.TheConstants.{MAX_KEY, MAX_VALUE}
use Rattle.wire_spec.specs.declared.limits.TheConstants.{MAX_HEADERS}
use Rattle.wire_spec.specs.declared.{record.Header.Header, record.Record.Record}
use Rattle.machine_spec.specs.declared.part.Part.{Part}
use Rattle.machine_spec.specs.declared.part.Part.TheVariants.{Value, Key, HeaderKey, HeaderValue}
use Rattle.machine_spec.specs.Parts.{part_in, part_bytes, part_length, length_answer, header_answer}
use Rattle.machine_spec.specs.{Places.stand_at, Places.least_place, Places.find_answer, Places.cut_of}
use Rattle.machine_spec.specs.Numbers.{are_digits, decimal_of, decimal_answer}
use Rattle.machine_spec.specs.Hashes.{hash_of, hash_answer}
use Rattle.machine_spec.specs.Machine.{bytes_of, key_bytes, value_bytes}
use Rattle.machine_spec.specs.Meaning.{AreShortHeaders}

-- a record's key, value and headers are no longer than the limits of the message format's profile
pub record IsShort (given : Record) : Type 0 where
  pub key : length (bytes_of given.key) ≤ MAX_KEY
  pub value : length (bytes_of given.value) ≤ MAX_VALUE
  pub headers : AreShortHeaders given.headers

-- ---- parts

pub key_part : (header : Option Header) →
    unwrap_or (unwrap_or (option_map (λ h. Some h.key) header) None) [] ≡ key_bytes header
key_part (Some h) = refl
key_part None = refl

pub value_part : (header : Option Header) →
    unwrap_or (unwrap_or (option_map (λ h. h.value) header) None) [] ≡ value_bytes header
value_part (Some h) = refl
value_part None = refl

-- no part is longer than a value may be
pub part_short : (given : Record) → IsShort given → (part : Part) → length (part_bytes given part) ≤ MAX_VALUE
part_short given short Value = short.value
part_short given short Key = let key = short.key in omega (arith, key)
part_short given short (HeaderKey at) =
    let few = short.headers.keys at in
    let is = key_part (slice_get given.headers at) in rw is (omega (arith, few))
part_short given short (HeaderValue at) =
    let few = short.headers.values at in
    let is = value_part (slice_get given.headers at) in rw is (omega (arith, few))

length_small : (part : Option (Option (List ℕ))) → length (unwrap_or (unwrap_or part None) []) ≤ MAX_VALUE →
    length_answer part ≤ MAX_VALUE + 2
length_small None few = omega arith
length_small (Some None) few = omega arith
length_small (Some (Some bytes)) few = omega (arith, few)

pub part_length_small : (given : Record) → IsShort given → (part : Part) → part_length given part ≤ MAX_VALUE + 2
part_length_small given short part = length_small (part_in given part) (part_short given short part)

-- ---- places

-- a test holds at the least place at which it does
pub holds_at_least : (test : ℕ → Bool) (place count p : ℕ) → least_place test place count ≡ Some p → test p ≡ true
unfolding least_place
holds_at_least test place zero p is = absurd (cc is)
holds_at_least test place (suc count) p is = ⊎_elim
    (λ here. subst (λ q. test q ≡ true) (same_Some place p (sym (cond-true _ _ _ here) ∙ is)) here)
    (λ not_here. holds_at_least test (place + 1) count p (sym (cond-false _ _ _ not_here) ∙ is))
    (cases_Bool (test place))

found_small : (part bytes : List ℕ) → length part ≤ MAX_VALUE → (found : Option ℕ) →
    ((p : ℕ) → found ≡ Some p → stand_at part bytes p ≡ true) → option_map_or (λ p. p + 1) found 0 ≤ MAX_VALUE + 1
found_small part bytes few None there = omega arith
found_small part bytes few (Some p) there =
    let within = leb-true p (length part) (and_parts _ _ (there p refl)).0 in omega (arith, within, few)

pub find_small : (part bytes : List ℕ) (place : ℕ) → length part ≤ MAX_VALUE →
    find_answer part bytes place ≤ MAX_VALUE + 1
find_small part bytes place few =
    found_small part bytes few (least_place (stand_at part bytes) place 4096)
    (λ p is. holds_at_least (stand_at part bytes) place 4096 p is)

-- ---- numbers

digit_small : (c : ℕ) → is_ascii_digit c ≡ true → digit_value c < 10
digit_small c is = grind (arith, and_parts, leb-true)

all_digits : (bytes : List ℕ) → list_all is_ascii_digit bytes ≡ true → AllDigits 10 bytes
all_digits [] all = tt
all_digits (c ∷ bytes) all =
    let parts = and_parts _ _ all in (digit_small c parts.0, all_digits bytes parts.1)

ten_rises : (i k : ℕ) → 10 ^ i ≤ 10 ^ (i + k)
ten_rises i zero = let none : i + 0 ≡ i = omega arith in rw none (omega arith)
ten_rises i (suc k) =
    let more : i + suc k ≡ suc (i + k) = omega arith in
    rw more (omega (arith, ten_rises i k))

digits_small : (bytes : List ℕ) → are_digits bytes ≡ true → digits_value 10 bytes + 1 ≤ 10 ^ 18
digits_small bytes are =
    let parts = and_parts _ _ are in
    let more = and_parts _ _ parts.1 in
    let few : length bytes ≤ 18 = leb-true _ _ more.0 in
    let less = digits_value-lt 10 bytes (all_digits bytes more.1) in
    let all : length bytes + (18 - length bytes) ≡ 18 = omega (arith, few) in
    let most = rw all at (ten_rises (length bytes) (18 - length bytes)) in
    omega (arith, less, most)

pub decimal_small : (part : List ℕ) (place count : ℕ) → decimal_answer part place count ≤ 10 ^ 18
decimal_small part place count = from (cut_of part place count)
  where
    from : (cut : Option (List ℕ)) → decimal_of cut ≤ 10 ^ 18
    from None = omega arith
    from (Some bytes) =
        cond_both (are_digits bytes) (digits_value 10 bytes + 1) 0 (λ n. n ≤ 10 ^ 18) (λ are. digits_small bytes are)
        (λ none. omega arith)

-- ---- hashes and headers

pub hash_small : (given : Record) (part : Part) → hash_answer given part ≤ 2 ^ 31 - 1
hash_small given part = from (part_in given part)
  where
    from : (text : Option (Option (List ℕ))) → hash_of text ≤ 2 ^ 31 - 1
    from None = omega arith
    from (Some None) = omega arith
    from (Some (Some bytes)) = omega arith

first_small : (n count : ℕ) → n ≤ MAX_HEADERS →
    option_map_or (λ k. k + 1) (if nat_lt count n then Some count else None) 0 ≤ MAX_HEADERS
first_small n count few = grind (arith, cases_Bool, ltb-true, few)

pub header_small : (given : Record) → AreShortHeaders given.headers → (key : List ℕ) →
    header_answer given key ≤ MAX_HEADERS
header_small given short key = first_small (length given.headers) _ short.few
