-- Headers as a record spells them, one after the other in a buffer.
use Rattle.std.specs.Prelude.{◌≡◌, ℕ, ◌<◌, ◌≤◌, ◌^◌, List, [], length, drop, Option, Some, None, option_map}
use Rattle.wire_spec.specs.declared.{record.Header.Header, limits.TheConstants.MAX_HEADER_KEY}
use Rattle.wire_spec.specs.declared.limits.TheConstants.{MAX_HEADER_VALUE}
use Rattle.wire_spec.specs.RecordReading.{◌>>=◌, string_at, nullable_at, headers_at}
use Rattle.kafka_record.specs.{declared.spans.HeaderSpan.HeaderSpan, Extents.extent_bytes}

-- a header whose key and value are in these bytes
abbrev pub spanned_header : List ℕ → HeaderSpan → Header
spanned_header bytes span = record {
  key = extent_bytes bytes span.key;
  value = option_map (extent_bytes bytes) span.value;
}

-- a header at the front of the bytes, whose key may be no UTF-8, and the bytes after it
unfoldable pub any_header_at : List ℕ → Option (Header × List ℕ)
any_header_at bytes = do
  key ← string_at MAX_HEADER_KEY bytes
  value ← nullable_at MAX_HEADER_VALUE key.1
  Some (record { key = key.0; value = value.0 }, value.1)

-- the headers that were read, if they were
abbrev pub read_headers : Option (List Header × List ℕ) → List Header
read_headers (Some x) = x.0
read_headers None = []

-- so many headers at the front of the bytes; none where there are not so many
abbrev pub headers_in : ℕ → List ℕ → List Header
headers_in count bytes = read_headers (headers_at count bytes)

-- so many headers are between these places of a buffer
pub record AreSpelled (bytes : List ℕ) (start end count : ℕ) : Type 0 where
  pub small : length bytes < 2 ^ 32
  pub order : start ≤ end
  pub within : end ≤ length bytes
  pub read : headers_at count (drop start bytes) ≡ Some (headers_in count (drop start bytes), drop end bytes)
