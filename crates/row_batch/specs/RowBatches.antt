-- Rows of an output partition as record batches.
use Rattle.std.specs.Prelude.{◌≡◌, ℕ, ◌≤◌, pos, negsuc, ◌-ℤ◌, List, [], ◌∷◌, length, map, take, drop, Option}
use Rattle.std.specs.Prelude.{Some, None, ◌⊎◌}
use Rattle.wire_spec.specs.declared.{record.Record.Record, record.Batch.Batch}
use Rattle.wire_spec.specs.BatchSpelling.{batch_spelling, BatchFits}
use Rattle.wire_spec.specs.declared.limits.TheConstants.{MAX_BATCH, MAX_RECORDS}
use Rattle.log_spec.specs.declared.row.Row.{Row}

-- a row as a record of a batch with this base timestamp
abbrev pub record_of : ℕ → Row → Record
record_of base row = record {
  timestamp_delta = pos row.timestamp -ℤ pos base;
  key = row.key;
  value = row.value;
  headers = row.headers;
}

-- the timestamp of the first row; 0 without rows, of which no batch is made
abbrev pub first_timestamp : List Row → ℕ
first_timestamp [] = 0
first_timestamp (row ∷ rows) = row.timestamp

-- The batch of some rows, of which the first has this place: that is its base offset, and the first row's timestamp is
-- its base timestamp. No producer is named.
abbrev pub batch_of : ℕ → List Row → Batch
batch_of place rows = record {
  base_offset = pos place;
  leader_epoch = pos 0;
  base_timestamp = pos (first_timestamp rows);
  producer_id = negsuc 0;
  producer_epoch = negsuc 0;
  base_sequence = negsuc 0;
  records = map (record_of (first_timestamp rows)) rows;
}

-- the fields of such a batch before its records, which are not here
abbrev pub head_of : ℕ → ℕ → Batch
head_of place base = record {
  base_offset = pos place;
  leader_epoch = pos 0;
  base_timestamp = pos base;
  producer_id = negsuc 0;
  producer_epoch = negsuc 0;
  base_sequence = negsuc 0;
  records = [];
}

-- `count` rows from a place on may be in one batch: they are no more than are wanted and there, and their batch has no
-- more records and bytes than one may have.
pub record MayTake (rows : List Row) (place max count : ℕ) : Type 0 where
  pub some : 1 ≤ count
  pub wanted : count ≤ max
  pub there : count ≤ length (drop place rows)
  pub few_records : count ≤ MAX_RECORDS
  pub few_bytes : length (batch_spelling (batch_of place (take count (drop place rows)))) ≤ MAX_BATCH

-- this is the greatest number of rows that may be in one batch
pub record TakesMost (rows : List Row) (place max count : ℕ) : Type 0 where
  pub may : MayTake rows place max count
  pub most : (more : ℕ) → MayTake rows place max more → more ≤ count

-- The bytes of the batch of as many rows from a place on as may be in one; none where no row is there or wanted. The
-- batch fits, so it is read again from its bytes.
abbrev pub IsFetched : List Row → ℕ → ℕ → Option (List ℕ) → Type 0
IsFetched rows place max None = (length rows ≤ place) ⊎ (max ≡ 0)
IsFetched rows place max (Some bytes) =
    (count : ℕ) × TakesMost rows place max count × BatchFits (batch_of place (take count (drop place rows)))
    × (bytes ≡ batch_spelling (batch_of place (take count (drop place rows))))
