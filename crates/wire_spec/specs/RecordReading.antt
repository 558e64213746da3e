-- Reading a record from left to right (Apache Kafka documentation, "Message Format": "Record"). What can't be read
-- gives `None`; else a value comes with the bytes after it.
use Rattle.std.specs.Prelude.{ℕ, zero, suc, ◌-◌, ℤ, pos, negsuc, List, [], ◌∷◌, length, take, drop, Option, Some, None}
use Rattle.std.specs.Prelude.{Result, Ok, Err, nat_lt, ◌||◌, if◌then◌else◌}
use Rattle.std.specs.{Ordering.int_eq, Str.is_utf8}
use Rattle.wire_spec.specs.declared.{fault.VarintFault.VarintFault, record.Header.Header, record.Record.Record}
use Rattle.wire_spec.specs.Varint.{read_varint, read_varlong}
use Rattle.wire_spec.specs.declared.limits.TheConstants.{MAX_KEY, MAX_VALUE, MAX_HEADERS, MAX_HEADER_KEY}
use Rattle.wire_spec.specs.declared.limits.TheConstants.{MAX_HEADER_VALUE}

-- a reading, and the next one with its result; where one gives none, there is none of both
infixl 10 ◌>>=◌
abbrev pub ◌>>=◌ : {A B : Type 0} → Option A → (A → Option B) → Option B
(Some x) >>= f = f x
None >>= f = None

-- a number that was read, and the bytes after it
abbrev pub with_rest : List ℕ → Result (ℤ × ℕ) VarintFault → Option (ℤ × List ℕ)
with_rest bytes (Ok x) = Some (x.0, drop x.1 bytes)
with_rest bytes (Err f) = None

-- the signed number of 32 bits at the front of the bytes, and the bytes after it
abbrev pub varint_at : List ℕ → Option (ℤ × List ℕ)
varint_at bytes = with_rest bytes (read_varint bytes)

-- the signed number of 64 bits at the front of the bytes, and the bytes after it
abbrev pub varlong_at : List ℕ → Option (ℤ × List ℕ)
varlong_at bytes = with_rest bytes (read_varlong bytes)

-- this number of bytes, if there are as many and they are no more than the limit; a negative number is refused
abbrev pub bytes_at : ℕ → ℤ → List ℕ → Option (List ℕ × List ℕ)
bytes_at limit (pos n) bytes =
    if nat_lt limit n || nat_lt (length bytes) n then None else Some (take n bytes, drop n bytes)
bytes_at limit (negsuc n) bytes = None

-- the same, or null for the length -1
abbrev pub nullable_bytes_at : ℕ → ℤ → List ℕ → Option (Option (List ℕ) × List ℕ)
nullable_bytes_at limit (negsuc zero) bytes = Some (None, bytes)
nullable_bytes_at limit (negsuc (suc n)) bytes = None
nullable_bytes_at limit (pos n) bytes = do
  x ← bytes_at limit (pos n) bytes
  Some (Some x.0, x.1)

-- bytes after their length, at most the limit
unfoldable pub string_at : ℕ → List ℕ → Option (List ℕ × List ℕ)
string_at limit bytes = do
  n ← varint_at bytes
  bytes_at limit n.0 n.1

-- the same of bytes that may be null
unfoldable pub nullable_at : ℕ → List ℕ → Option (Option (List ℕ) × List ℕ)
nullable_at limit bytes = do
  n ← varint_at bytes
  nullable_bytes_at limit n.0 n.1

-- a header: its key, which is UTF-8, and its value, which may be null
unfoldable pub header_at : List ℕ → Option (Header × List ℕ)
header_at bytes = do
  key ← string_at MAX_HEADER_KEY bytes
  value ← nullable_at MAX_HEADER_VALUE key.1
  if is_utf8 key.0 then Some (record { key = key.0; value = value.0 }, value.1) else None

-- this number of headers, one after the other
unfoldable pub headers_at : ℕ → List ℕ → Option (List Header × List ℕ)
headers_at zero bytes = Some ([], bytes)
headers_at (suc n) bytes = do
  first ← header_at bytes
  others ← headers_at n first.1
  Some (first.0 ∷ others.0, others.1)

-- this number of headers, if it is 0 to 16
abbrev pub counted_at : ℤ → List ℕ → Option (List Header × List ℕ)
counted_at (pos n) bytes = if nat_lt MAX_HEADERS n then None else headers_at n bytes
counted_at (negsuc n) bytes = None

-- the attributes, a byte that is 0, and the bytes after it
abbrev pub attributes_at : List ℕ → Option (List ℕ)
attributes_at [] = None
attributes_at (zero ∷ bytes) = Some bytes
attributes_at (suc b ∷ bytes) = None

-- the offset delta, which is the expected one, and the bytes after it
unfoldable pub delta_at : ℤ → List ℕ → Option (List ℕ)
delta_at delta bytes = do
  n ← varint_at bytes
  if int_eq n.0 delta then Some n.1 else None

-- what follows a record's length: its fields, in their order
unfoldable pub body_at : ℤ → List ℕ → Option (Record × List ℕ)
body_at delta bytes = do
  after_attributes ← attributes_at bytes
  timestamp ← varlong_at after_attributes
  after_delta ← delta_at delta timestamp.1
  key ← nullable_at MAX_KEY after_delta
  value ← nullable_at MAX_VALUE key.1
  count ← varint_at value.1
  headers ← counted_at count.0 count.1
  Some (record { timestamp_delta = timestamp.0; key = key.0; value = value.0; headers = headers.0 }, headers.1)

-- a record with this offset delta, whose fields fill the stated length exactly
unfoldable pub record_at : ℤ → List ℕ → Option (Record × List ℕ)
record_at delta bytes = do
  len ← varint_at bytes
  body ← body_at delta len.1
  if int_eq len.0 (pos (length len.1 - length body.1)) then Some body else None
