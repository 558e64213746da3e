-- The line of a batch, and the lines of its records.
use Rattle.std.specs.Prelude.{ℕ, ℤ, unsigned_abs, ◌==◌, if◌then◌else◌, List, [], ◌∷◌, ◌++◌, length, codes, decimal}
use Rattle.std.specs.{List.flat_map, Fmt.signed_decimal}
use Rattle.wire_spec.specs.{declared.record.Record.Record, declared.record.Batch.Batch, BatchSpelling.batch_spelling}
use Rattle.wire_spec.specs.BatchReading.{base_offset, leader_epoch, base_timestamp, max_timestamp, producer_id}
use Rattle.wire_spec.specs.BatchReading.{producer_epoch, base_sequence, record_count}
use Rattle.log_spec.specs.{declared.row.Row.Row, Logs.timestamp_of}
use Rattle.row_batch.specs.RowBatches.{batch_of}
use Rattle.script.specs.Texts.{bytes_text, hex_text}

-- a number after its name
unfoldable pub count_field : List ℕ → ℕ → List ℕ
count_field name number = name ++ decimal number

-- a signed number after its name
unfoldable pub field : List ℕ → ℤ → List ℕ
field name number = name ++ signed_decimal number

-- ---- a batch

-- where a batch is, and how large
unfoldable pub place_part : ℕ → List ℕ → List ℕ
place_part position bytes =
    count_field (codes "position: ") position
    ++ (field (codes " baseOffset: ") (base_offset bytes)
    ++ (count_field (codes " count: ") (record_count bytes) ++ count_field (codes " size: ") (length bytes)))

-- the timestamps that its records' count from, and the greatest of these
unfoldable pub time_part : List ℕ → List ℕ
time_part bytes = field (codes " baseTimestamp: ") (base_timestamp bytes)
    ++ field (codes " maxTimestamp: ") (max_timestamp bytes)

-- where it comes from
unfoldable pub producer_part : List ℕ → List ℕ
producer_part bytes =
    field (codes " partitionLeaderEpoch: ") (leader_epoch bytes)
    ++ (field (codes " producerId: ") (producer_id bytes)
    ++ (field (codes " producerEpoch: ") (producer_epoch bytes)
    ++ field (codes " baseSequence: ") (base_sequence bytes)))

-- The line of a batch with these bytes that begins at a position of a file. All but the position and the size are
-- fields of its header, by their names in Kafka's message format.
abbrev pub batch_line : ℕ → List ℕ → List ℕ
batch_line position bytes = place_part position bytes ++ (time_part bytes ++ (producer_part bytes ++ 10 ∷ []))

-- ---- a record

-- a record of a batch as a row; where it comes from is not shown
abbrev pub row_of : Batch → Record → Row
row_of batch given = record {
  input = 0;
  offset = 0;
  number = 0;
  timestamp = unsigned_abs (timestamp_of batch given);
  key = given.key;
  value = given.value;
  headers = given.headers;
}

-- `put 0 TS KEY VALUE`
abbrev pub put_line : Row → List ℕ
put_line row =
    codes "put 0 " ++ (decimal row.timestamp
    ++ (codes " " ++ (bytes_text row.key ++ (codes " " ++ (bytes_text row.value ++ 10 ∷ [])))))

-- the bytes of a batch of one record
abbrev pub one_row : Row → List ℕ
one_row row = batch_spelling (batch_of 0 (row ∷ []))

-- `append 0 hex:BATCH`, of a batch of one record
abbrev pub append_line : Row → List ℕ
append_line row = codes "append 0 hex:" ++ (hex_text (one_row row) ++ 10 ∷ [])

-- the line of a script that appends a record of a batch to input partition 0: `put`, which has no headers, or `append`
abbrev pub record_line : Batch → Record → List ℕ
record_line batch given =
    if length given.headers == 0 then put_line (row_of batch given) else append_line (row_of batch given)

-- the lines of a batch's records, in order
abbrev pub record_lines : Batch → List ℕ
record_lines batch = flat_map (record_line batch) batch.records
