-- Some records of a batch, one after the other.
use Rattle.std.specs.Prelude.{◌≡◌, ℕ, ◌+◌, ◌<◌, ◌≤◌, ◌^◌, List, [], ◌∷◌, ◌++◌, length, take, drop, All, Option, Some}
use Rattle.std.specs.Prelude.{option_map}
use Rattle.std.specs.List.{AllByRecursion}
use Rattle.wire_spec.specs.declared.{limits.TheConstants.TIMESTAMP_END, record.Record.Record, record.Batch.Batch}
use Rattle.machine_spec.specs.{declared.outcome.Outcome.Outcome, declared.outcome.Place.Place, Image.Program}
use Rattle.log_spec.specs.declared.row.Row.{Row}
use Rattle.log_spec.specs.Logs.{place_of, rows_of, FitsRecord, IsRecordsRows, RowFits}
use Rattle.fates.specs.{declared.fate.Fate.Fate, Fates.AreRecordsFates, Totals.Totals, Totals.AreCounts}
use Rattle.exec.specs.declared.block.TheConstants.{BLOCK}
use Rattle.item_rows.specs.declared.{origin.Origin.Origin, part.Part.Part, batch_run.BatchRun.BatchRun}
use Rattle.item_rows.specs.ItemRows.{IsOrigin, Adds, rows_in}

-- the places of a batch's records, in order; each record has the offset after the one before
abbrev pub places_from : ℕ → ℕ → Batch → ℕ → List Record → List Place
places_from input outputs batch offset [] = []
places_from input outputs batch offset (given ∷ others) =
    place_of input outputs offset batch given ∷ places_from input outputs batch (offset + 1) others

-- the rows in one output partition of records with these outcomes, each at its place
abbrev pub rows_of_each : ℕ → List Place → List Outcome → List Row
rows_of_each output places [] = []
rows_of_each output [] (outcome ∷ outcomes) = []
rows_of_each output (place ∷ places) (outcome ∷ outcomes) =
    rows_of output place outcome ++ rows_of_each output places outcomes

-- so many of a batch's records, from a number on
abbrev pub records_from : ℕ → ℕ → List Record → List Record
records_from from count records = take count (drop from records)

-- a part of so many records, for one block
pub record IsPartOf (records : ℕ) (part : Part) : Type 0 where
  pub few : part.count ≤ BLOCK
  pub within : part.first + part.count ≤ records

-- a batch with these records in place of its own
abbrev pub with_records : Batch → List Record → Batch
with_records batch given = record {
  base_offset = batch.base_offset;
  leader_epoch = batch.leader_epoch;
  base_timestamp = batch.base_timestamp;
  producer_id = batch.producer_id;
  producer_epoch = batch.producer_epoch;
  base_sequence = batch.base_sequence;
  records = given;
}

-- a list has the rows of so many of a batch's records, from a number on, in each output, all within the limits of a
-- record; the batch is at this origin
pub record ArePartRows (origin : Origin) (program : Option Program) (batch : Batch) (from count : ℕ)
    (all : List (List Row)) : Type 0 where
  pub outputs : length all ≡ origin.outputs
  pub each : (output : ℕ) → output < origin.outputs → IsRecordsRows origin.input output origin.outputs program batch
      (origin.offset + from) (records_from from count batch.records) (rows_in all output)
  pub fit : (output : ℕ) → output < origin.outputs → All RowFits (rows_in all output)

-- the records of a batch from a number on give rows to each output; the batch is at this origin
abbrev pub GiveRows : Origin → Program → Batch → ℕ → Type 0
GiveRows origin program batch from = (output : ℕ) → (rows : List Row) × IsRecordsRows origin.input output origin.outputs
    (Some program) batch (origin.offset + from) (drop from batch.records) rows

-- records with these fates are counted beside the others
pub record AreFatesMore (fates : List Fate) (old new : Totals) : Type 0 where
  pub counts : (before : List Fate) → AreCounts before old → AreCounts (before ++ fates) new
  pub records : new.records ≡ old.records + length fates

-- the program that a batch's records are run by
abbrev pub program_in : BatchRun → Option Program
program_in run = option_map (λ p. p.now) run.program

-- some records of a batch that fits a log, the first of which has this offset, can be run and counted
pub record CanRun (run : BatchRun) (offset : ℕ) (given : List Record) (counts : Totals) : Type 0 where
  pub origin : IsOrigin run.origin.now
  pub fits : AllByRecursion (FitsRecord run.batch.now) given
  pub few : offset + length given ≤ TIMESTAMP_END
  pub counted : counts.records + length given < 2 ^ 63

-- some records of a batch, the first of which has this offset, have added their rows and are counted
pub record HaveRun (run : BatchRun) (offset : ℕ) (given : List Record) (old new : List (List Row)) (were are : Totals) :
    Type 0 where
  pub rows : Adds run.first old new (λ output here. IsRecordsRows run.origin.now.input output run.origin.now.outputs
      (program_in run) run.batch.now offset given here)
  pub fates : List Fate
  pub fates_are : AreRecordsFates run.origin.now.input run.origin.now.outputs (program_in run)
      run.batch.now offset given
      fates
  pub counts : AreFatesMore fates were are
