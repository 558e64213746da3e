-- Why bytes begin with no batch, in words. The bytes are the first of those, as many as show that: a batch by its
-- length, or its header where that is refused by its length.
use Rattle.std.specs.Prelude.{ℕ, zero, suc, ◌-◌, ◌/◌, ◌%◌, ℤ, pos, negsuc, Bool, true, false, ◌==◌, ◌&&◌, nat_lt}
use Rattle.std.specs.Prelude.{if◌then◌else◌, List, ◌++◌, length, drop, Option, Some, None, Result, Ok, Err, codes}
use Rattle.std.specs.Prelude.{decimal}
use Rattle.std.specs.{Int.w32, Int.cast_signed, List.list_all, Fmt.signed_decimal}
use Rattle.batch_text.specs.{Lines.count_field, Lines.field, declared.sizes.Sizes.Sizes, declared.sizes.Past.Past}
use Rattle.wire_spec.specs.declared.{fault.BatchFault.BatchFault, fault.VarintFault.VarintFault}
use Rattle.wire_spec.specs.declared.fault.BatchFault.TheVariants as fault
use Rattle.wire_spec.specs.declared.fault.VarintFault.TheVariants as varint
use Rattle.wire_spec.specs.declared.limits.TheConstants.{MAX_KEY, MAX_VALUE, MAX_HEADERS}
use Rattle.wire_spec.specs.{Checksum.checksum, Varint.read_varint}
use Rattle.wire_spec.specs.RecordReading.{◌>>=◌, varint_at, varlong_at}
use Rattle.wire_spec.specs.BatchReading.{batch_length, magic, crc, attributes, last_offset_delta, base_timestamp}
use Rattle.wire_spec.specs.BatchReading.{max_timestamp, record_count}

-- ---- the header

-- the file ends within the header or after it
abbrev pub short_cause : List ℕ → List ℕ
short_cause bytes =
    if nat_lt (length bytes) 61
    then codes "the file ends after " ++ (decimal (length bytes) ++ codes " of the 61 bytes of its header")
    else codes "the file ends after " ++ (decimal (length bytes) ++ (codes " bytes, and batchLength is "
    ++ signed_decimal (batch_length bytes)))

-- bytes that are all 0
abbrev pub are_zeros : List ℕ → Bool
are_zeros bytes = list_all (λ b. b == 0) bytes

-- an older format, where the bytes reach its field magic
abbrev pub is_old : List ℕ → Bool
is_old bytes = nat_lt 16 (length bytes) && nat_lt (magic bytes) 2

-- the field magic where it is not 2: a lower one is of an older format, and a higher one no Kafka writes
abbrev pub magic_cause : List ℕ → List ℕ
magic_cause bytes =
    codes "magic " ++ (decimal (magic bytes)
    ++ (if nat_lt (magic bytes) 2 then codes ", a message set of Kafka before 0.11" else codes
    ", which no Kafka writes"))

-- why batchLength is below 49: the bytes are zeros, or of an older format; else the number that it is
abbrev pub length_cause : List ℕ → List ℕ
length_cause bytes =
    if are_zeros bytes then codes "zeros, as at the end of a preallocated segment" else
    if is_old bytes then magic_cause bytes else
    codes "batchLength is " ++ (signed_decimal (batch_length bytes) ++ codes ", and 49 is the least")

-- why batchLength is above 4,194,292: the bytes are of an older format; else the number that it is
abbrev pub large_cause : List ℕ → List ℕ
large_cause bytes =
    if is_old bytes then magic_cause bytes else
    codes "batchLength is " ++ (signed_decimal (batch_length bytes) ++ codes ", and 4194292 is the most")

-- a field crc and the sum of the bytes that it is compared with, in words
abbrev pub crc_words : ℕ → ℕ → List ℕ
crc_words crc sum = codes "crc is " ++ (decimal crc ++ (codes ", and the sum of the bytes is " ++ decimal sum))

-- the field crc of these bytes and the checksum of the bytes after it, in words
abbrev pub crc_cause : List ℕ → List ℕ
crc_cause bytes = crc_words (crc bytes) (checksum (drop 21 bytes))

-- what the field attributes says, by its bits: the kind of compression in the lowest three, and the others one by one;
-- the first that applies
abbrev pub attribute_cause : ℕ → List ℕ
attribute_cause n =
    if n % 8 == 1 then codes "compressed with gzip" else
    if n % 8 == 2 then codes "compressed with snappy" else
    if n % 8 == 3 then codes "compressed with lz4" else
    if n % 8 == 4 then codes "compressed with zstd" else
    if nat_lt 0 (n % 8) then codes "compressed in an unknown way" else
    if n / 8 % 2 == 1 then codes "has the time of its append" else
    if n / 16 % 2 == 1 then codes "part of a transaction" else
    if n / 32 % 2 == 1 then codes "a control batch" else
    if n / 64 % 2 == 1 then codes "has a delete horizon" else codes "has unknown attributes"

-- the number of records and the lastOffsetDelta that the header states, read as signed, in words
abbrev pub count_cause : List ℕ → List ℕ
count_cause bytes = field (codes "the number of records is ") (cast_signed w32 (record_count bytes))
    ++ field (codes ", and lastOffsetDelta ") (cast_signed w32 (last_offset_delta bytes))

-- the baseTimestamp and the maxTimestamp that the header states, in words
abbrev pub timestamp_cause : List ℕ → List ℕ
timestamp_cause bytes = field (codes "baseTimestamp is ") (base_timestamp bytes)
    ++ field (codes ", maxTimestamp ") (max_timestamp bytes)

-- ---- a record

-- the bytes after a part of this length; null takes none
abbrev pub after_part : ℤ → List ℕ → List ℕ
after_part (pos n) bytes = drop n bytes
after_part (negsuc n) bytes = bytes

-- a length, 0 where it is negative
abbrev pub at_least_0 : ℤ → ℕ
at_least_0 (pos n) = n
at_least_0 (negsuc n) = 0

-- the bytes after the record at the front, by its length
unfoldable pub after_record : List ℕ → Option (List ℕ)
after_record bytes = do
  len ← varint_at bytes
  Some (after_part len.0 len.1)

-- the bytes after this number of records
unfoldable pub after_records : ℕ → List ℕ → Option (List ℕ)
after_records zero bytes = Some bytes
after_records (suc n) bytes = do
  rest ← after_record bytes
  after_records n rest

-- the lengths of its key and value, 0 for null, and the number of headers that a record states, whether or not it has
-- as many bytes
unfoldable pub sizes_at : List ℕ → Option Sizes
sizes_at bytes = do
  len ← varint_at bytes
  timestamp ← varlong_at (drop 1 len.1)
  delta ← varint_at timestamp.1
  key ← varint_at delta.1
  value ← varint_at (after_part key.0 key.1)
  headers ← varint_at (after_part value.0 value.1)
  Some (record {
    key = at_least_0 key.0;
    value = at_least_0 value.0;
    headers = at_least_0 headers.0;
  })

-- `record N has ..`
abbrev pub named : ℕ → List ℕ → List ℕ
named number text = codes "record " ++ (decimal number ++ text)

-- the part of a record that is past its limit, if one is; the first that applies
abbrev pub past_of : Sizes → Past
past_of sizes =
    if nat_lt MAX_KEY sizes.key then Past.Key else if nat_lt MAX_VALUE sizes.value then Past.Value else
    if nat_lt MAX_HEADERS sizes.headers then Past.Headers else Past.Other

-- the size of the part that is past its limit, and the limit; where no part is, that the record has another form
abbrev pub past_cause : Sizes → Past → List ℕ
past_cause sizes Past.Key = count_field (codes " has a key of ") sizes.key ++ codes " bytes, 4096 at most"
past_cause sizes Past.Value = count_field (codes " has a value of ") sizes.value ++ codes " bytes, 1048576 at most"
past_cause sizes Past.Headers = count_field (codes " has ") sizes.headers ++ codes " headers, 16 at most"
past_cause sizes Past.Other = codes " has another form"

-- the same of sizes that a record may not state
unfoldable pub sizes_cause : Option Sizes → List ℕ
sizes_cause None = codes " has another form"
sizes_cause (Some sizes) = past_cause sizes (past_of sizes)

-- bytes of this number end inside the record at their front, by how its length reads: inside the length, or before as
-- many bytes as it says
abbrev pub ends_inside : ℕ → Result (ℤ × ℕ) VarintFault → Bool
ends_inside size (Ok x) = nat_lt (size - x.1) (at_least_0 x.0)
ends_inside size (Err varint.Short) = true
ends_inside size (Err varint.Long) = false
ends_inside size (Err varint.NotShortest) = false

-- the record at the front is cut
abbrev pub is_cut : List ℕ → Bool
is_cut bytes = ends_inside (length bytes) (read_varint bytes)

-- what is wrong with the record at the front of these bytes, which there are unless a length before it can't be read
abbrev pub fault_cause : Option (List ℕ) → List ℕ
fault_cause None = codes " has another form"
fault_cause (Some bytes) = if is_cut bytes then codes " is cut" else sizes_cause (sizes_at bytes)

-- the record with this number, from 0
abbrev pub record_cause : ℕ → List ℕ → List ℕ
record_cause number bytes =
    if number == record_count bytes then codes "bytes follow the last record" else
    count_field (codes "record ") number ++ fault_cause (after_records number (drop 61 bytes))

-- ---- all

-- the words of a fault of bytes that have a header
abbrev pub whole_cause : BatchFault → List ℕ → List ℕ
whole_cause fault.Short bytes = short_cause bytes
whole_cause fault.Length bytes = length_cause bytes
whole_cause fault.TooLarge bytes = large_cause bytes
whole_cause fault.Magic bytes = magic_cause bytes
whole_cause fault.Crc bytes = crc_cause bytes
whole_cause fault.Attributes bytes = attribute_cause (attributes bytes)
whole_cause fault.Count bytes = count_cause bytes
whole_cause (fault.Record number) bytes = record_cause number bytes
whole_cause fault.Timestamp bytes = timestamp_cause bytes
whole_cause fault.Memory bytes = codes "memory"

-- the words of a fault of bytes that reach the end of batchLength: where it is none of the length, they are too few
abbrev pub front_cause : BatchFault → List ℕ → List ℕ
front_cause fault.Length bytes = length_cause bytes
front_cause fault.TooLarge bytes = large_cause bytes
front_cause fault.Short bytes = short_cause bytes
front_cause fault.Magic bytes = short_cause bytes
front_cause fault.Crc bytes = short_cause bytes
front_cause fault.Attributes bytes = short_cause bytes
front_cause fault.Count bytes = short_cause bytes
front_cause (fault.Record number) bytes = short_cause bytes
front_cause fault.Timestamp bytes = short_cause bytes
front_cause fault.Memory bytes = short_cause bytes

-- the words of a fault of bytes that are fewer than a header has
abbrev pub header_cause : BatchFault → List ℕ → List ℕ
header_cause fault bytes = if nat_lt (length bytes) 12 then short_cause bytes else front_cause fault bytes

-- the words of a fault
abbrev pub cause : BatchFault → List ℕ → List ℕ
cause fault bytes = if nat_lt (length bytes) 61 then header_cause fault bytes else whole_cause fault bytes
