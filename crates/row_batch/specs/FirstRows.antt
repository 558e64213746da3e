-- The first of some rows, as many as one batch has room for.
use Rattle.std.specs.Prelude.{◌≡◌, ℕ, ◌+◌, ◌<◌, ◌≤◌, ◌^◌, pos, Bool, true, false, List, ◌∷◌, ◌++◌, length, map, take}
use Rattle.wire_spec.specs.declared.record.Record.{Record}
use Rattle.wire_spec.specs.BatchSpelling.{timestamps, greatest, records_spelling, batch_spelling, BatchFits}
use Rattle.wire_spec.specs.declared.limits.TheConstants.{MAX_BATCH, TIMESTAMP_END}
use Rattle.log_spec.specs.{declared.row.Row.Row, Logs.RowFits}
use Rattle.row_batch.specs.RowBatches.{record_of, batch_of}

-- how many bytes a batch with these records has: 61 are before them
abbrev pub size_with : List Record → ℕ
size_with records = 61 + length (records_spelling 0 records)

-- A batch has room for the first `count` rows, and not for one more; it has this size with them, and this is the
-- greatest of their timestamps.
pub record IsMeasured (base : ℕ) (rows : List Row) (count size latest : ℕ) : Type 0 where
  pub there : count ≤ length rows
  pub size_is : size ≡ size_with (map (record_of base) (take count rows))
  pub small : size ≤ MAX_BATCH
  pub latest_is : pos latest ≡ greatest (timestamps (pos base) (map (record_of base) (take count rows)))
  pub in_time : latest < TIMESTAMP_END
  pub full : count < length rows → MAX_BATCH < size_with (map (record_of base) (take (count + 1) rows))

-- Bytes were put at the end, where one batch has room for them, or they were not.
abbrev pub PutsIfRoom : Bool → List ℕ → List ℕ → List ℕ → Type 0
PutsIfRoom true old new bytes = (new ≡ old ++ bytes) × (length new ≤ MAX_BATCH)
PutsIfRoom false old new bytes = (new ≡ old) × (MAX_BATCH < length old + length bytes)

-- The first `count` rows were put at the end as records: as many as one batch has room for.
pub record HasPut (base : ℕ) (rows : List Row) (count latest : ℕ) (old new : List ℕ) : Type 0 where
  pub measured : IsMeasured base rows count (length new) latest
  pub put_are : new ≡ old ++ records_spelling 0 (map (record_of base) (take count rows))

-- the bytes of the batch of the first `count` rows, which fits; with one more it would have too many bytes
pub record IsFirst (place : ℕ) (rows : List Row) (count : ℕ) (bytes : List ℕ) : Type 0 where
  pub some : 1 ≤ count
  pub there : count ≤ length rows
  pub fits : BatchFits (batch_of place (take count rows))
  pub bytes_are : bytes ≡ batch_spelling (batch_of place (take count rows))
  pub full : count < length rows → MAX_BATCH < length (batch_spelling (batch_of place (take (count + 1) rows)))

-- a batch of one row that fits always fits
abbrev pub OneRowFits : Type 0
OneRowFits = (place : ℕ) (row : Row) (rows : List Row) → place < 2 ^ 63 → RowFits row →
    BatchFits (batch_of place (take 1 (row ∷ rows)))
