-- Records whose parts are places in a buffer.
use Rattle.std.specs.Prelude.{◌≡◌, ℕ, List, length, drop, option_map, ⊤}
use Rattle.wire_spec.specs.{declared.record.Header.Header, declared.record.Record.Record, RecordSpelling.record_parts}
use Rattle.kafka_record.specs.declared.{spans.Span.Span, by_ref.Source.Source}
use Rattle.kafka_record.specs.declared.by_ref.Source.TheVariants as source
use Rattle.kafka_record.specs.Extents.{extent_bytes, IsExtentWithin, IsPartWithin}
use Rattle.kafka_record.specs.SpelledHeaders.{headers_in, AreSpelled}

-- the headers of a record that has its parts in these bytes
abbrev pub span_headers : List ℕ → Span → List Header
span_headers bytes span = headers_in span.count (drop span.headers bytes)

-- a record whose parts are in these bytes
abbrev pub spanned : List ℕ → Span → Record
spanned bytes span = record {
  timestamp_delta = span.timestamp_delta;
  key = option_map (extent_bytes bytes) span.key;
  value = option_map (extent_bytes bytes) span.value;
  headers = span_headers bytes span;
}

-- its key, its value and its headers are in these bytes, and so are its parts as a record spells them
pub record IsSpanOf (bytes : List ℕ) (span : Span) : Type 0 where
  pub key : IsPartWithin (length bytes) span.key
  pub value : IsPartWithin (length bytes) span.value
  pub parts : IsExtentWithin (length bytes) span.parts
  pub headers : AreSpelled bytes span.headers span.parts.end span.count
  pub spelled : extent_bytes bytes span.parts
      ≡ record_parts (option_map (extent_bytes bytes) span.key) (option_map (extent_bytes bytes) span.value)
      (span_headers bytes span)

-- the record that is somewhere
abbrev pub record_in : Source → Record
record_in (source.Whole given) = given.now
record_in (source.Packed bytes span) = spanned bytes.now span.now

-- its parts are there
abbrev pub IsThere : Source → Type 0
IsThere (source.Whole given) = ⊤
IsThere (source.Packed bytes span) = IsSpanOf bytes.now span.now
