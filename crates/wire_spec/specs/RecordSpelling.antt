-- The one spelling of a record (Apache Kafka documentation, "Message Format": "Record" and "Record Header").
use Rattle.std.specs.Prelude.{ℕ, ◌≤◌, ℤ, pos, negsuc, List, ◌∷◌, ◌++◌, length, Option, Some, None, IfSome, FitsSigned}
use Rattle.std.specs.Prelude.{IsUtf8}
use Rattle.std.specs.{List.flat_map, List.AllByRecursion, Int.w64}
use Rattle.wire_spec.specs.declared.limits.TheConstants.{MAX_KEY, MAX_VALUE, MAX_HEADERS, MAX_HEADER_KEY}
use Rattle.wire_spec.specs.declared.limits.TheConstants.{MAX_HEADER_VALUE}
use Rattle.wire_spec.specs.{declared.record.Header.Header, declared.record.Record.Record, Varint.varint, Varint.varlong}

-- a header that has a spelling: its key is UTF-8 of at most 255 bytes, its value null or of at most 4,096
pub record HeaderFits (h : Header) : Type 0 where
  pub key : length h.key ≤ MAX_HEADER_KEY
  pub text : IsUtf8 h.key
  pub value : IfSome h.value (λ v. length v ≤ MAX_HEADER_VALUE)

-- a record that has a spelling: its parts are within the limits, and its timestamp delta has 64 bits
pub record RecordFits (r : Record) : Type 0 where
  pub timestamp : FitsSigned w64 r.timestamp_delta
  pub key : IfSome r.key (λ k. length k ≤ MAX_KEY)
  pub value : IfSome r.value (λ v. length v ≤ MAX_VALUE)
  pub count : length r.headers ≤ MAX_HEADERS
  pub headers : AllByRecursion HeaderFits r.headers

-- ---- The bytes

-- bytes after their length
abbrev pub string : List ℕ → List ℕ
string bytes = varint (pos (length bytes)) ++ bytes

-- the same of bytes that may be null, which has the length -1
abbrev pub nullable : Option (List ℕ) → List ℕ
nullable None = varint (negsuc 0)
nullable (Some bytes) = string bytes

-- a header: its key, and its value, which may be null
abbrev pub header : Header → List ℕ
header h = string h.key ++ nullable h.value

-- key, value, and the headers after their number
abbrev pub record_parts : Option (List ℕ) → Option (List ℕ) → List Header → List ℕ
record_parts key value headers =
    nullable key ++ (nullable value ++ (varint (pos (length headers)) ++ flat_map header headers))

-- what follows a record's length: attributes, timestampDelta, offsetDelta, and its parts
abbrev pub record_body : ℤ → Record → List ℕ
record_body delta r = 0 ∷ (varlong r.timestamp_delta ++ (varint delta ++ record_parts r.key r.value r.headers))

-- a record with this offset delta
abbrev pub record_spelling : ℤ → Record → List ℕ
record_spelling delta r = string (record_body delta r)
