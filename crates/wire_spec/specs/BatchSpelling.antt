-- The one spelling of a record batch (Apache Kafka documentation, "Message Format": "Record Batch",
-- magic 2, without compression, transactions or control records).
use Rattle.std.specs.Prelude.{ℕ, suc, ◌+◌, ◌-◌, ◌<◌, ◌≤◌, ℤ, pos, ◌+ℤ◌, ◌≤ℤ◌, ◌<ℤ◌, List, [], ◌∷◌, ◌++◌, length}
use Rattle.std.specs.Prelude.{map, fold, FitsSigned}
use Rattle.std.specs.List.{AllByRecursion}
use Rattle.std.specs.Int.{Width, w16, w32, w64, to_be_bytes, cast_unsigned, int_max}
use Rattle.wire_spec.specs.declared.{record.Record.Record, record.Batch.Batch}
use Rattle.wire_spec.specs.declared.limits.TheConstants.{TIMESTAMP_END, MAX_BATCH, MAX_RECORDS}
use Rattle.wire_spec.specs.{Checksum.checksum, RecordSpelling.RecordFits, RecordSpelling.record_spelling}

-- ---- Timestamps

-- the timestamps of records in milliseconds: the batch's base timestamp plus each record's delta, as whole numbers
abbrev pub timestamps : ℤ → List Record → List ℤ
timestamps base rs = map (λ r. base +ℤ r.timestamp_delta) rs

-- the greatest of timestamps, none of which is negative; 0 of none, which no batch has
abbrev pub greatest : List ℤ → ℤ
greatest ts = fold int_max (pos 0) ts

-- a whole number of milliseconds from 0 to 2^62 - 1
abbrev pub IsTimestamp : ℤ → Type 0
IsTimestamp t = (pos 0 ≤ℤ t) × (t <ℤ pos TIMESTAMP_END)

-- ---- The bytes

-- a signed number in two's complement, its highest byte first
abbrev pub signed : Width → ℤ → List ℕ
signed w z = to_be_bytes w (cast_unsigned w z)

-- records one after the other, the first with this offset delta
abbrev pub records_spelling : ℕ → List Record → List ℕ
records_spelling delta [] = []
records_spelling delta (r ∷ rs) = record_spelling (pos delta) r ++ records_spelling (suc delta) rs

-- what the checksum covers: attributes, lastOffsetDelta, baseTimestamp, maxTimestamp, producerId, producerEpoch,
-- baseSequence, the number of records, and the records. (A batch that fits has a record, so lastOffsetDelta is at least
-- 0.)
abbrev pub checksummed_bytes : Batch → List ℕ
checksummed_bytes b =
    to_be_bytes w16 0 ++ (to_be_bytes w32 (length b.records - 1)
    ++ (signed w64 b.base_timestamp ++ (signed w64 (greatest (timestamps b.base_timestamp b.records))
    ++ (signed w64 b.producer_id ++ (signed w16 b.producer_epoch ++ (signed w32 b.base_sequence
    ++ (to_be_bytes w32 (length b.records) ++ records_spelling 0 b.records)))))))

-- those bytes and what is before them: baseOffset, batchLength (how many bytes follow it), partitionLeaderEpoch, magic
-- and crc
abbrev pub bytes_from_epoch : Batch → List ℕ → List ℕ
bytes_from_epoch b rest =
    signed w64 b.base_offset ++ (to_be_bytes w32 (9 + length rest)
    ++ (signed w32 b.leader_epoch ++ (2 ∷ (to_be_bytes w32 (checksum rest) ++ rest))))

-- the bytes of a batch
unfoldable pub batch_spelling : Batch → List ℕ
batch_spelling b = bytes_from_epoch b (checksummed_bytes b)

-- A batch that has a spelling: its fields are in their widths, it has 1 to MAX_RECORDS records, each of which has a
-- spelling, its timestamps are in range, and it has at most MAX_BATCH bytes.
pub record BatchFits (b : Batch) : Type 0 where
  pub base_offset : FitsSigned w64 b.base_offset
  pub leader_epoch : FitsSigned w32 b.leader_epoch
  pub producer_id : FitsSigned w64 b.producer_id
  pub producer_epoch : FitsSigned w16 b.producer_epoch
  pub base_sequence : FitsSigned w32 b.base_sequence
  pub some_records : 0 < length b.records
  pub few_records : length b.records ≤ MAX_RECORDS
  pub records : AllByRecursion RecordFits b.records
  pub base_timestamp : IsTimestamp b.base_timestamp
  pub each_timestamp : AllByRecursion IsTimestamp (timestamps b.base_timestamp b.records)
  pub few_bytes : length (batch_spelling b) ≤ MAX_BATCH
