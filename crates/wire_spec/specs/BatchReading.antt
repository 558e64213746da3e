-- Reading a record batch (Apache Kafka documentation, "Message Format": "Record Batch"): the batch at the front of the
-- bytes, and how many of them it takes, or the first refusal. Numbers are big-endian.
use Rattle.std.specs.Prelude.{◌≡◌, ℕ, zero, suc, ◌+◌, ℤ, pos, negsuc, int_lt, int_le, List, [], ◌∷◌, length, take}
use Rattle.std.specs.Prelude.{drop, slice_index, Option, Some, None, Result, Ok, Err, Bool, nat_lt, ◌==◌, ◌&&◌, ◌||◌}
use Rattle.std.specs.Prelude.{not, if◌then◌else◌}
use Rattle.std.specs.{List.list_all, Ordering.int_eq}
use Rattle.std.specs.Int.{Width, w16, w32, w64, from_be_bytes, cast_signed}
use Rattle.wire_spec.specs.declared.limits.TheConstants.{TIMESTAMP_END, MAX_BATCH, MAX_RECORDS}
use Rattle.wire_spec.specs.declared.{fault.BatchFault.BatchFault, record.Record.Record, record.Batch.Batch}
use Rattle.wire_spec.specs.{Checksum.checksum, RecordReading.record_at, BatchSpelling.timestamps}
use Rattle.wire_spec.specs.BatchSpelling.{greatest}

-- the unsigned number that begins at a place of the bytes, counted from 0; bytes past the end count as 0
abbrev pub number_at : Width → ℕ → List ℕ → ℕ
number_at w at bytes = from_be_bytes w (drop at bytes)

-- the same number read as signed, in two's complement
abbrev pub signed_at : Width → ℕ → List ℕ → ℤ
signed_at w at bytes = cast_signed w (number_at w at bytes)

-- ---- The fields of the header, by their places; all but batchLength are read of 61 bytes or more

-- baseOffset, 64 bits: the first record's offset as the sender numbers it, which no log uses
abbrev pub base_offset : List ℕ → ℤ
base_offset bytes = signed_at w64 0 bytes

-- batchLength, 32 bits: how many bytes follow it
abbrev pub batch_length : List ℕ → ℤ
batch_length bytes = signed_at w32 8 bytes

-- partitionLeaderEpoch, 32 bits, kept as it came
abbrev pub leader_epoch : List ℕ → ℤ
leader_epoch bytes = signed_at w32 12 bytes

-- magic, 8 bits: the version of the format, here 2
abbrev pub magic : List ℕ → ℕ
magic bytes = slice_index bytes 16

-- crc, 32 bits: the CRC-32C of the bytes from 21 to the end
abbrev pub crc : List ℕ → ℕ
crc bytes = number_at w32 17 bytes

-- attributes, 16 bits: compression, the kind of timestamps, transactional, control; 0 here
abbrev pub attributes : List ℕ → ℕ
attributes bytes = number_at w16 21 bytes

-- lastOffsetDelta, 32 bits read without a sign: the last record's offset delta
abbrev pub last_offset_delta : List ℕ → ℕ
last_offset_delta bytes = number_at w32 23 bytes

-- baseTimestamp, 64 bits, in milliseconds: what each record's timestamp delta is added to
abbrev pub base_timestamp : List ℕ → ℤ
base_timestamp bytes = signed_at w64 27 bytes

-- maxTimestamp, 64 bits, in milliseconds: the greatest timestamp of the records
abbrev pub max_timestamp : List ℕ → ℤ
max_timestamp bytes = signed_at w64 35 bytes

-- producerId, 64 bits, kept as it came; -1 names no producer
abbrev pub producer_id : List ℕ → ℤ
producer_id bytes = signed_at w64 43 bytes

-- producerEpoch, 16 bits, kept as it came
abbrev pub producer_epoch : List ℕ → ℤ
producer_epoch bytes = signed_at w16 51 bytes

-- baseSequence, 32 bits: the producer's number of the first record, kept as it came
abbrev pub base_sequence : List ℕ → ℤ
base_sequence bytes = signed_at w32 53 bytes

-- the number of records, 32 bits read without a sign
abbrev pub record_count : List ℕ → ℕ
record_count bytes = number_at w32 57 bytes

-- how many bytes a batch of this batchLength has: 12 are before what it counts; 0 of a negative one, which `size_at`
-- refuses
abbrev pub with_front : ℤ → ℕ
with_front (pos n) = n + 12
with_front (negsuc n) = 0

-- how many bytes the batch at the front has, by its batchLength
abbrev pub batch_size : List ℕ → ℕ
batch_size bytes = with_front (batch_length bytes)

-- ---- What is wrong with the bytes

-- the number of records is not 1 to 10,000, or lastOffsetDelta is not one less (-1 counts as 2^32 - 1, which is above
-- 10,000)
abbrev pub is_miscounted : List ℕ → Bool
is_miscounted bytes =
    record_count bytes == 0 || (nat_lt MAX_RECORDS (record_count bytes) || not
    (last_offset_delta bytes + 1 == record_count bytes))

-- a whole number of milliseconds from 0 to 2^62 - 1
abbrev pub is_timestamp : ℤ → Bool
is_timestamp t = int_le (pos 0) t && int_lt t (pos TIMESTAMP_END)

-- the base timestamp or a record's is out of range, or maxTimestamp is not the greatest of the records'
abbrev pub is_mistimed : List ℕ → List Record → Bool
is_mistimed bytes rs =
    not (is_timestamp (base_timestamp bytes))
    || (not (list_all is_timestamp (timestamps (base_timestamp bytes) rs))
    || not (int_eq (max_timestamp bytes) (greatest (timestamps (base_timestamp bytes) rs))))

-- ---- Reading

-- a reading, and the next one with its result; the first refusal ends them
infixl 10 ◌>>=◌
abbrev pub ◌>>=◌ : {A B : Type 0} → Result A BatchFault → (A → Result B BatchFault) → Result B BatchFault
(Ok x) >>= f = f x
(Err e) >>= f = Err e

-- a record, or the refusal that names its place in the batch, from 0
abbrev pub record_or : ℕ → Option (Record × List ℕ) → Result (Record × List ℕ) BatchFault
record_or place None = Err (BatchFault.Record place)
record_or place (Some x) = Ok x

-- this number of records, of which the first has this place and offset delta, and which fill the bytes
unfoldable pub records_at : ℕ → ℕ → List ℕ → Result (List Record) BatchFault
records_at zero place [] = Ok []
records_at zero place (b ∷ bytes) = Err (BatchFault.Record place)
records_at (suc n) place bytes = do
  first ← record_or place (record_at (pos place) bytes)
  others ← records_at n (suc place) first.1
  Ok (first.0 ∷ others)

-- how many records a batch of these bytes has, as its header says, or the refusal of the header
unfoldable pub count_at : List ℕ → Result ℕ BatchFault
count_at bytes =
    if not (magic bytes == 2) then Err BatchFault.Magic
    else if not (crc bytes == checksum (drop 21 bytes)) then Err BatchFault.Crc
    else if not (attributes bytes == 0) then Err BatchFault.Attributes
    else if is_miscounted bytes then Err BatchFault.Count
    else Ok (record_count bytes)

-- the batch of this header and these records, or the refusal of its timestamps
unfoldable pub timed_at : List ℕ → List Record → Result Batch BatchFault
timed_at bytes rs =
    if is_mistimed bytes rs then Err BatchFault.Timestamp
    else Ok (record {
      base_offset = base_offset bytes;
      leader_epoch = leader_epoch bytes;
      base_timestamp = base_timestamp bytes;
      producer_id = producer_id bytes;
      producer_epoch = producer_epoch bytes;
      base_sequence = base_sequence bytes;
      records = rs;
    })

-- the batch that has exactly these bytes, or the first refusal of its header, its records (which follow the 61 bytes of
-- the header) and its timestamps
unfoldable pub whole_at : List ℕ → Result Batch BatchFault
whole_at bytes = do
  count ← count_at bytes
  rs ← records_at count 0 (drop 61 bytes)
  timed_at bytes rs

-- how many bytes the batch at the front takes, or the refusal of its length
unfoldable pub size_at : List ℕ → Result ℕ BatchFault
size_at bytes =
    if nat_lt (length bytes) 12 then Err BatchFault.Short
    else if int_lt (batch_length bytes) (pos 49) then Err BatchFault.Length
    else if nat_lt MAX_BATCH (batch_size bytes) then Err BatchFault.TooLarge
    else if nat_lt (length bytes) (batch_size bytes) then Err BatchFault.Short
    else Ok (batch_size bytes)

-- The bytes are a part of a batch: with more bytes after them they may be a whole one.
abbrev pub IsPart : List ℕ → Type 0
IsPart bytes = size_at bytes ≡ Err BatchFault.Short

-- the batch at the front of the bytes and how many of them it takes, or the first refusal
unfoldable pub batch_at : List ℕ → Result (Batch × ℕ) BatchFault
batch_at bytes = do
  size ← size_at bytes
  b ← whole_at (take size bytes)
  Ok (b, size)
