-- The parts of a record, each of which a number names.
use Rattle.std.specs.Prelude.{ℕ, ◌+◌, ◌-◌, ◌*◌, ◌/◌, ◌%◌, ◌==◌, if◌then◌else◌, List, [], length, slice_get, position}
use Rattle.std.specs.Prelude.{Option, Some, None, unwrap_or, option_map}
use Rattle.std.specs.{Option.option_map_or, Str.bytes_eq}
use Rattle.wire_spec.specs.declared.{record.Header.Header, record.Record.Record}
use Rattle.machine_spec.specs.declared.part.Part.{Part}
use Rattle.machine_spec.specs.declared.part.Part.TheVariants.{Value, Key, HeaderKey, HeaderValue}

-- the number of a part
abbrev pub number_of : Part → ℕ
number_of Value = 0
number_of Key = 1
number_of (HeaderKey position) = 2 + 2 * position
number_of (HeaderValue position) = 3 + 2 * position

-- the part with a number
abbrev pub part_numbered : ℕ → Part
part_numbered number =
    if number == 0 then Value else
    if number == 1 then Key else
    if number % 2 == 0 then HeaderKey (number / 2 - 1) else HeaderValue (number / 2 - 1)

-- A part of a record: none where the record hasn't such a header, else its bytes, or `None` of a null one.
abbrev pub part_in : Record → Part → Option (Option (List ℕ))
part_in given Value = Some given.value
part_in given Key = Some given.key
part_in given (HeaderKey position) = option_map (λ header. Some header.key) (slice_get given.headers position)
part_in given (HeaderValue position) = option_map (λ header. header.value) (slice_get given.headers position)

-- the bytes of a part; a null one has none, and so has one that isn't there
abbrev pub part_bytes : Record → Part → List ℕ
part_bytes given part = unwrap_or (unwrap_or (part_in given part) None) []

-- 0 of a part that isn't there, 1 of a null one, else its length plus 2
abbrev pub length_answer : Option (Option (List ℕ)) → ℕ
length_answer None = 0
length_answer (Some None) = 1
length_answer (Some (Some bytes)) = length bytes + 2

-- the same of a record's part
abbrev pub part_length : Record → Part → ℕ
part_length given part = length_answer (part_in given part)

-- the position plus 1 of the first header with this key, else 0
abbrev pub header_answer : Record → List ℕ → ℕ
header_answer given key =
    option_map_or (λ k. k + 1) (position (λ (header : Header). bytes_eq header.key key) given.headers) 0
