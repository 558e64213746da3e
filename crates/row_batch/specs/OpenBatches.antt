-- Batches of rows that are being filled.
use Rattle.std.specs.Prelude.{◌≡◌, ℕ, ◌-◌, ◌<◌, ◌≤◌, ◌==◌, pos, ◌+ℤ◌, unsigned_abs, if◌then◌else◌, Bool, true, false}
use Rattle.std.specs.Prelude.{List, [], ◌∷◌, ◌++◌, length, map, take, drop, replicate, All, Result, Ok, Err, ◌⊎◌}
use Rattle.wire_spec.specs.declared.{fault.BatchFault.BatchFault, record.Record.Record}
use Rattle.wire_spec.specs.{BatchReading.records_at, BatchSpelling.batch_spelling}
use Rattle.wire_spec.specs.declared.limits.TheConstants.{MAX_BATCH, MAX_RECORDS}
use Rattle.log_spec.specs.{declared.row.Row.Row, Logs.RowFits}
use Rattle.row_batch.specs.{RowBatches.first_timestamp, RowBatches.batch_of, FirstRows.HasPut}

-- a row as a batch shows it: without where its record came from
abbrev pub shown : Row → Row
shown row = record {
  input = 0;
  number = 0;
  offset = 0;
  timestamp = row.timestamp;
  key = row.key;
  value = row.value;
  headers = row.headers;
}

-- A batch of rows as it shows them is the batch of those rows.
abbrev pub ShownAlike : Type 0
ShownAlike = (place : ℕ) (rows : List Row) → batch_of place (map shown rows) ≡ batch_of place rows

-- A row was added to those of a batch, or the batch has no room for it.
abbrev pub AddsIfRoom : Bool → List Row → Row → List Row → Type 0
AddsIfRoom true old row new = new ≡ old ++ shown row ∷ []
AddsIfRoom false old row new =
    (new ≡ old)
    × ((length old ≡ MAX_RECORDS)
    ⊎ ((place : ℕ) → MAX_BATCH < length (batch_spelling (batch_of place (old ++ row ∷ [])))))

-- ---- the rows of a batch by its bytes

-- a record of a batch with this base timestamp, as a row
abbrev pub row_from : ℕ → Record → Row
row_from base given = record {
  input = 0;
  number = 0;
  offset = 0;
  timestamp = unsigned_abs (pos base +ℤ given.timestamp_delta);
  key = given.key;
  value = given.value;
  headers = given.headers;
}

-- records that were read, as rows; none where they were not read
abbrev pub rows_from : ℕ → Result (List Record) BatchFault → List Row
rows_from base (Ok records) = map (row_from base) records
rows_from base (Err fault) = []

-- the rows of a batch with this base timestamp, which are this number of records after the first 61 bytes
unfoldable pub rows_in : ℕ → ℕ → List ℕ → List Row
rows_in base count bytes = rows_from base (records_at count 0 (drop 61 bytes))

-- Rows fit one batch, have this base and greatest timestamp, and are the records after the first 61 bytes.
pub record HasRows (base count latest : ℕ) (bytes : List ℕ) (rows : List Row) : Type 0 where
  pub some : 1 ≤ count
  pub count_is : count ≡ length rows
  pub few : count ≤ MAX_RECORDS
  pub fit : All RowFits rows
  pub base_is : base ≡ first_timestamp rows
  pub before : length (take 61 bytes) ≡ 61
  pub put : HasPut base rows count latest (take 61 bytes) bytes

-- what a batch without rows keeps: no record's bytes
pub record HasNone (count latest : ℕ) (bytes : List ℕ) : Type 0 where
  pub none : count ≡ 0
  pub earliest : latest ≡ 0
  pub short : length bytes ≤ 61

-- the bytes are those of the rows so far
abbrev pub IsOpen : ℕ → ℕ → ℕ → List ℕ → Type 0
IsOpen base count latest bytes = HasNone count latest bytes ⊎ HasRows base count latest bytes (rows_in base count bytes)

-- ---- one row more

-- the base timestamp with one row more
abbrev pub base_with : ℕ → ℕ → Row → ℕ
base_with base count row = if count == 0 then row.timestamp else base

-- the bytes, and zeros after them where they are fewer than 61
abbrev pub padded : List ℕ → List ℕ
padded bytes = bytes ++ replicate (61 - length bytes) 0
