-- What rules make of a record: the truth of their conditions, and which rule takes it.
use Rattle.std.specs.Prelude.{ℕ, ◌+◌, Bool, true, false, not, ◌&&◌, ◌||◌, ◌==◌, nat_eq, nat_lt, nat_le, List, [], ◌∷◌}
use Rattle.std.specs.Prelude.{length, take, slice_index, slice_range, Option, Some, None, is_none, find, option_map}
use Rattle.std.specs.Prelude.{if◌then◌else◌}
use Rattle.std.specs.{Int.w16, Int.w32, Int.w64, Int.from_be_bytes, Int.from_le_bytes, List.starts_with}
use Rattle.std.specs.{Str.bytes_eq}
use Rattle.wire_spec.specs.declared.{record.Header.Header, record.Record.Record}
use Rattle.machine_spec.specs.declared.outcome.Place.{Place}
use Rattle.rules.specs.declared.{rule.Part.Part, rule.Layout.Layout, rule.Term.Term, rule.Comparison.Comparison}
use Rattle.rules.specs.declared.rule.Test.{Test}
use Rattle.rules.specs.Numbers.{digits_number}
use Rattle.rules.specs.Formulas.{Formula, Single, Negated, Both, Either}
use Rattle.rules.specs.Lines.{Line}
use Rattle.rules.specs.declared.rule.Part.TheVariants as part
use Rattle.rules.specs.declared.rule.Layout.TheVariants.{Byte, U16Be, U32Be, U64Be, U16Le, U32Le, U64Le}
use Rattle.rules.specs.declared.rule.Term.TheVariants as term
use Rattle.rules.specs.declared.rule.Comparison.TheVariants as comparison
use Rattle.rules.specs.declared.rule.Test.TheVariants as test

-- ---- parts

-- the first header with a key
abbrev pub header_named : List ℕ → List Header → Option Header
header_named key headers = find (λ h. bytes_eq h.key key) headers

-- the value of a header, if there is one and it is not null
abbrev pub header_bytes : Option Header → Option (List ℕ)
header_bytes (Some h) = h.value
header_bytes None = None

-- the bytes of a part; none where it is null or absent
abbrev pub part_bytes : Part → Record → Option (List ℕ)
part_bytes part.Value given = given.value
part_bytes part.Key given = given.key
part_bytes (part.Header key) given = header_bytes (header_named key given.headers)

-- the record has no such header; its value and its key are null at most
abbrev pub is_absent : Part → Record → Bool
is_absent part.Value given = false
is_absent part.Key given = false
is_absent (part.Header key) given = is_none (header_named key given.headers)

-- the part is there and null
abbrev pub is_null : Part → Record → Bool
is_null p given = not (is_absent p given) && is_none (part_bytes p given)

-- ---- terms

-- how many bytes a layout has
abbrev pub layout_size : Layout → ℕ
layout_size Byte = 1
layout_size U16Be = 2
layout_size U32Be = 4
layout_size U64Be = 8
layout_size U16Le = 2
layout_size U32Le = 4
layout_size U64Le = 8

-- the number that so many bytes are
abbrev pub layout_number : Layout → List ℕ → ℕ
layout_number Byte bytes = slice_index bytes 0
layout_number U16Be bytes = from_be_bytes w16 bytes
layout_number U32Be bytes = from_be_bytes w32 bytes
layout_number U64Be bytes = from_be_bytes w64 bytes
layout_number U16Le bytes = from_le_bytes w16 bytes
layout_number U32Le bytes = from_le_bytes w32 bytes
layout_number U64Le bytes = from_le_bytes w64 bytes

-- the number from a byte on, if all its bytes are there
abbrev pub number_at : Layout → ℕ → List ℕ → Option ℕ
number_at layout place bytes = if nat_le (place + layout_size layout) (length bytes)
    then Some (layout_number layout (slice_range bytes place (place + layout_size layout))) else None

-- the number that so many digits spell, from a byte on, if they are all there
abbrev pub decimal_at : (place count : ℕ) → List ℕ → Option ℕ
decimal_at place count bytes = if nat_le (place + count) (length bytes)
    then digits_number 10 (slice_range bytes place (place + count)) else None

-- a number of some bytes, if these are there
abbrev pub in_bytes : (List ℕ → Option ℕ) → Option (List ℕ) → Option ℕ
in_bytes number (Some bytes) = number bytes
in_bytes number None = None

-- the value of a term, if the record has it
abbrev pub term_value : Term → Record → Place → Option ℕ
term_value (term.Length p) given place = option_map length (part_bytes p given)
term_value (term.Number layout p at) given place = in_bytes (number_at layout at) (part_bytes p given)
term_value (term.Decimal p at count) given place = in_bytes (decimal_at at count) (part_bytes p given)
term_value term.Offset given place = Some place.offset
term_value term.Timestamp given place = Some place.timestamp
term_value term.Partition given place = Some place.partition
term_value term.Headers given place = Some (length given.headers)

-- ---- tests

-- one number compared with another
abbrev pub compares : Comparison → (one other : ℕ) → Bool
compares comparison.Equal one other = one == other
compares comparison.NotEqual one other = not (one == other)
compares comparison.Less one other = nat_lt one other
compares comparison.LessOrEqual one other = nat_le one other
compares comparison.Greater one other = nat_lt other one
compares comparison.GreaterOrEqual one other = nat_le other one

-- the same of a number that may not be there: then the test is false
abbrev pub compares_if : Comparison → Option ℕ → ℕ → Bool
compares_if how (Some one) other = compares how one other
compares_if how None other = false

-- a text stands somewhere in bytes
abbrev pub occurs : (text bytes : List ℕ) → Bool
occurs text [] = starts_with nat_eq [] text
occurs text (byte ∷ bytes) = starts_with nat_eq (byte ∷ bytes) text || occurs text bytes

-- the bytes that `has` looks at
abbrev pub looked_at_of : List ℕ → List ℕ
looked_at_of bytes = take 65536 bytes

-- bytes that are there pass a test; none pass no test
abbrev pub passes_if : (List ℕ → Bool) → Option (List ℕ) → Bool
passes_if passes (Some bytes) = passes bytes
passes_if passes None = false

-- a part is a text
abbrev pub test_equals : Part → List ℕ → Record → Bool
test_equals p text given = passes_if (λ bytes. bytes_eq bytes text) (part_bytes p given)

-- a part begins with a text
abbrev pub test_begins : Part → List ℕ → Record → Bool
test_begins p text given = passes_if (λ bytes. starts_with nat_eq bytes text) (part_bytes p given)

-- a text stands in a part, within the bytes that are looked at
abbrev pub test_has : Part → List ℕ → Record → Bool
test_has p text given = passes_if (λ bytes. occurs text (looked_at_of bytes)) (part_bytes p given)

-- a test of a record holds
abbrev pub test_holds : Test → Record → Place → Bool
test_holds (test.Null p) given place = is_null p given
test_holds (test.Absent p) given place = is_absent p given
test_holds (test.Equal p text) given place = test_equals p text given
test_holds (test.Begins p text) given place = test_begins p text given
test_holds (test.Has p text) given place = test_has p text given
test_holds (test.Compare t how number) given place = compares_if how (term_value t given place) number

-- ---- conditions and rules

-- a condition holds of a record
abbrev pub holds : Formula → Record → Place → Bool
holds (Single t) given place = test_holds t given place
holds (Negated inner) given place = not (holds inner given place)
holds (Both one other) given place = holds one given place && holds other given place
holds (Either one other) given place = holds one given place || holds other given place

-- one that is not there holds
abbrev pub holds_if : Option Formula → Record → Place → Bool
holds_if (Some c) given place = holds c given place
holds_if None given place = true

-- a rule takes a record
abbrev pub takes : Line → Record → Place → Bool
takes line given place = holds_if line.condition given place

-- the rule that takes a record: the first whose condition holds, if there is one
abbrev pub chosen : List Line → Record → Place → Option Line
chosen lines given place = find (λ line. takes line given place) lines
