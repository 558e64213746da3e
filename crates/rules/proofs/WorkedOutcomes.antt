-- What becomes of records by small texts of rules, worked out by computing: what the definitions say of them is what a
-- reader of the rules expects. tools/dev/rules_meaning.py has the same rows.
use Rattle.std.proofs.Common.{◌≡◌, ℕ, List, [], ◌∷◌, map, replicate, Option, Some, None, Result, Ok, Err, codes, pos}
use Rattle.std.proofs.Common.{refl}
use Rattle.std.specs.{Char.encode_utf8, Str.chars, Str.is_utf8}
use Rattle.wire_spec.specs.declared.record.Header.{Header}
use Rattle.machine_spec.specs.declared.outcome.Outcome.{Outcome}
use Rattle.machine_spec.specs.declared.outcome.Outcome.TheVariants.{Kept, Rejected}
use Rattle.machine_spec.specs.Machine.{Input}
use Rattle.machine_spec.specs.Hashes.{after_bytes, murmur2}
use Rattle.rules.specs.declared.fault.RuleFault.{RuleFault}
use Rattle.rules.specs.{Lines.Line, Outcomes.outcome_of_rules}
use Rattle.rules.specs.Scanning.{unexpected, word_at, behind_word, after_word, after_sign, word_expected}
use Rattle.rules.specs.Scanning.{sign_expected, number_at, number_in, char_at, quoted, text_at}
use Rattle.rules.specs.Reading.{part_at, argument_at, place_at, count_at, length_at, number_term_at, decimal_at}
use Rattle.rules.specs.Reading.{layout_term_at, term_at, comparison_at, comparing_at, is_at, equal_at, begins_at}
use Rattle.rules.specs.Reading.{has_at, asked_at, test_at, condition_at, drop_at, tombstone_at, hashed_at, from_at}
use Rattle.rules.specs.Reading.{to_at, cut_end_at, cut_at, changed_at, form_at, output_at, header_at, added_at}
use Rattle.rules.specs.Reading.{outputs_at, action_at, when_at, rule_of, rule_in, rules_of}

-- ---- records and what becomes of them

abbrev header : (key value : List ℕ) → Header
header key value = record { key = key; value = Some value }

abbrev region : Header
region = header (codes "region") (codes "eu")

abbrev by : Header
by = header (codes "by") []

-- a record with headers, where there are two output partitions
abbrev with_headers : List Header → (key value : Option (List ℕ)) → Input
with_headers headers key value = record {
  given = record { timestamp_delta = pos 0; key = key; value = value; headers = headers };
  place = record { partition = 3; offset = 5; timestamp = 7; outputs = 2 };
}

-- the same with one header
abbrev given : (key value : Option (List ℕ)) → Input
given key value = with_headers (region ∷ []) key value

-- one record is emitted
abbrev emitted : ℕ → (key value : Option (List ℕ)) → List Header → Outcome
emitted out key value headers = Kept (record { out = out; key = key; value = value; headers = headers } ∷ [])

-- the same with the header of the record
abbrev kept : ℕ → (key value : Option (List ℕ)) → Outcome
kept out key value = emitted out key value (region ∷ [])

abbrev k : Option (List ℕ)
k = Some (codes "k")

abbrev v : Option (List ℕ)
v = Some (codes "v")

abbrev abcd : Option (List ℕ)
abcd = Some (codes "abcd")

-- ---- a text of rules, a record, and what becomes of it

abbrev Row : Type 0
Row = List ℕ × Input × Outcome

-- what rules that are read make of a record
abbrev outcome_read : Result (List Line) RuleFault → Input → Option Outcome
outcome_read (Ok lines) input = Some (outcome_of_rules lines input)
outcome_read (Err e) input = None

-- each text has rules, which make of the record what the row says
abbrev AreAsSaid : List Row → Type 0
AreAsSaid rows = map (λ row. outcome_read (rules_of row.0) row.1) rows ≡ map (λ row. Some row.2) rows

abbrev rows : List Row
rows =
    -- the first rule whose condition holds decides, and a record that none takes is kept
    (codes "# nothing", given k v, Kept [])
    ∷ (codes "drop", given k v, Rejected 10)
    ∷ (codes "drop 1\ndrop 2", given k v, Rejected 1)
    ∷ (codes "drop 1 when offset = 6\ndrop 2 when offset = 5", given k v, Rejected 2)
    ∷ (codes "drop 7 when key is null", given None v, Rejected 7)
    ∷ (codes "drop 7 when key is null", given k v, Kept [])
    -- outputs; there are two
    ∷ (codes "output 1", given k v, kept 1 k v)
    ∷ (codes "output 1", given None None, kept 1 None None)
    ∷ (codes "output 2", given k v, Rejected 1)
    ∷ (codes "tombstone 0", given k v, emitted 0 k None [])
    ∷ (codes "tombstone 63", given k v, Rejected 1)
    -- hashes that Kafka's clients make: 479470107 of `abc`, and 1173551340 of `21`; 0 of null
    ∷ (codes "output hash(key) % 2", given (Some (codes "abc")) v, kept 1 (Some (codes "abc")) v)
    ∷ (codes "output hash(value) % 64", given k (Some (codes "21")), Rejected 1)
    ∷ (codes "output hash(value) % 5", given k (Some (codes "21")), kept 0 k (Some (codes "21")))
    ∷ (codes "output hash(key) % 64", given None v, kept 0 None v)
    -- bytes of a part
    ∷ (codes "output 0 value[1..3]", given k abcd, kept 0 k (Some (codes "bc")))
    ∷ (codes "output 0 value[1..]", given k abcd, kept 0 k (Some (codes "bcd")))
    ∷ (codes "output 0 value[4..]", given k abcd, kept 0 k (Some []))
    ∷ (codes "output 0 value[5..]", given k abcd, Rejected 4)
    ∷ (codes "output 0 value[1..5]", given k abcd, Rejected 4)
    ∷ (codes "output 2 value[1..5]", given k abcd, Rejected 1)
    ∷ (codes "output 0 key[0..]", given None abcd, kept 0 None (Some []))
    ∷ (codes "output 0 header \"region\"[0..1]", given k None, kept 0 k (Some (codes "e")))
    -- other bytes in the value
    ∷ (codes "output 0 with value[1..3] = \"x\"", given k abcd, kept 0 k (Some (codes "axd")))
    ∷ (codes "output 0 with value[4..4] = \"!\"", given k abcd, kept 0 k (Some (codes "abcd!")))
    ∷ (codes "output 0 with value[1..5] = \"x\"", given k abcd, Rejected 4)
    ∷ (codes "output 0 with value[0..0] = \"new\"", given k None, kept 0 k (Some (codes "new")))
    -- headers
    ∷ (codes "output 0 and header \"by\" = \"\"", given k v, emitted 0 k v (region ∷ by ∷ []))
    ∷ (codes "output 0 value[9..] and header \"by\" = \"\"", given k v, Rejected 4)
    ∷ (codes "output 2 and header \"\\xff\" = \"\"", given k v, Rejected 2)
    ∷ (codes "output 2 and header \"by\" = \"\"", with_headers (replicate 16 region) k v, Rejected 1)
    ∷ []

rows_hold : AreAsSaid rows
unfolding is_utf8 chars encode_utf8 unexpected word_at behind_word after_word after_sign word_expected sign_expected
    number_at number_in char_at quoted text_at part_at argument_at place_at count_at length_at number_term_at
    decimal_at layout_term_at term_at comparison_at comparing_at is_at equal_at begins_at has_at asked_at
    test_at condition_at drop_at tombstone_at hashed_at from_at to_at cut_end_at cut_at changed_at form_at
    output_at header_at added_at outputs_at action_at when_at rule_of rule_in rules_of after_bytes murmur2
rows_hold = refl
