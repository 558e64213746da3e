-- A stream of record batches through a program, into output partitions.
use Rattle.std.specs.Prelude.{◌≡◌, ◌≢◌, ◌⊎◌, ℕ, ◌+◌, ◌<◌, ◌≤◌, List, [], ◌∷◌, ◌++◌, length, map, take, Some, None, Result}
use Rattle.std.specs.Prelude.{Ok, Err, get_or}
use Rattle.wire_spec.specs.declared.record.Batch.{Batch}
use Rattle.wire_spec.specs.declared.limits.TheConstants.{TIMESTAMP_END, MAX_RECORDS}
use Rattle.machine_spec.specs.Image.{Program}
use Rattle.log_spec.specs.declared.row.Row.{Row}
use Rattle.log_spec.specs.Logs.{Item as LogItem, Records, Marked, IsItemRows, IsRowsOf}
use Rattle.fates.specs.{declared.fate.Fate.Fate, Fates.AreItemFates}
use Rattle.fates.specs.Totals.{Totals, totals, AreCounts}
use Rattle.item_rows.specs.{declared.origin.Origin.Origin, ItemRows.rows_in, ItemRows.AreItemRows, Blocks.with_records}
use Rattle.transform.specs.declared.{flow.TransformFault.TransformFault, outlet.OutletFault.OutletFault}
use Rattle.transform.specs.declared.flow.TransformFault.TheVariants as fault
use Rattle.transform.specs.Backlogs.{Waiting, waiting, with_rows}
use Rattle.transform.specs.Outlets.{Outflow, outflow, WroteFull, WroteBatches, Stops, StopsFull, Fails}

-- ---- the rows of batches

-- The rows that a program gives to an output of batches, one after the other: the first batch's first record has this
-- offset, and each record the offset after the one before.
abbrev pub AreRows : ℕ → ℕ → ℕ → Program → ℕ → List Batch → List Row → Type 0
AreRows input output outputs program offset [] rows = rows ≡ []
AreRows input output outputs program offset (batch ∷ batches) rows =
    (here : List Row) × (later : List Row) × IsItemRows input output outputs (Some program) offset (Records batch) here
    × AreRows input output outputs program (offset + length batch.records) batches later × (rows ≡ here ++ later)

-- What becomes of the records of batches, one after the other: the first batch's first record has this offset, and each
-- record the offset after the one before.
abbrev pub AreFates : ℕ → ℕ → Program → ℕ → List Batch → List Fate → Type 0
AreFates input outputs program offset [] fates = fates ≡ []
AreFates input outputs program offset (batch ∷ batches) fates =
    (here : List Fate) × (later : List Fate) × AreItemFates input outputs (Some program) offset (Records batch) here
    × AreFates input outputs program (offset + length batch.records) batches later × (fates ≡ here ++ later)

-- the log of a program's mark and of batches after it
abbrev pub log_of : List ℕ → ℕ → Program → List Batch → List LogItem
log_of name version program batches = Marked name version program ∷ map Records batches

-- The rows of batches of which the first begins at offset 0 are those of the log of the program's mark and these
-- batches.
abbrev pub AreRowsOfALog : Type 0
AreRowsOfALog = (input output outputs version : ℕ) (name : List ℕ) (program : Program) (batches : List Batch)
    (rows : List Row) → AreRows input output outputs program 0 batches rows →
    IsRowsOf input output outputs (log_of name version program batches) (1 + length batches) rows

-- ---- what is known between two batches

-- the input partition, the offset of its next record, the output partitions, and the counts of the records
pub record Flow : Type 0 where
  pub input : ℕ
  pub offset : ℕ
  pub outputs : List Outflow
  pub counts : Totals

-- a stream by its input partition, the offset of its next record, its output partitions, and its counts
abbrev pub flow : ℕ → ℕ → List Outflow → Totals → Flow
flow input offset outputs counts = record { input = input; offset = offset; outputs = outputs; counts = counts }

-- the counts of no record
abbrev pub none_counted : Totals
none_counted = totals 0 0 0 []

-- the numbers of a stream are in range
pub record IsFlow (f : Flow) : Type 0 where
  pub input : f.input < 64
  pub offset : f.offset ≤ TIMESTAMP_END
  pub some_output : 1 ≤ length f.outputs
  pub outputs : length f.outputs ≤ 64
  pub counted : f.counts.records ≤ f.offset

-- an output partition by its number; past the last nothing is known
abbrev pub output_at : List Outflow → ℕ → Outflow
output_at outputs output = get_or outputs output (outflow None (waiting 0 []))

-- where the next batch of a stream is
abbrev pub origin_of : Flow → Origin
origin_of f = record { input = f.input; offset = f.offset; outputs = length f.outputs }

-- ---- one batch

-- full batches were written of the rows that waited in an output partition and of those that were added to it
abbrev pub Fills : List Row → Outflow → Outflow → Type 0
Fills rows old new = WroteFull (with_rows old.waits rows) old.written new.waits new.written

-- whole batches were written of those rows, and nothing else
abbrev pub FillsSome : List Row → Outflow → Outflow → Type 0
FillsSome rows old new = (rest : Waiting) × WroteBatches (with_rows old.waits rows) old.written rest new.written

-- a fault stopped that
abbrev pub StopsFilling : List Row → Outflow → OutletFault → Outflow → Type 0
StopsFilling rows old why new = Stops (with_rows old.waits rows) old.written why new.written

-- full batches were written of those rows, and nothing else
abbrev pub FillsFirst : List Row → Outflow → Outflow → Type 0
FillsFirst rows old new = (rest : Waiting) × WroteFull (with_rows old.waits rows) old.written rest new.written

-- a fault stopped that
abbrev pub StopsFirst : List Row → Outflow → OutletFault → Outflow → Type 0
StopsFirst rows old why new = StopsFull (with_rows old.waits rows) old.written why new.written

-- in each output partition something holds of what it was and what it is
pub record InEach (old new : List Outflow) (Holds : ℕ → Outflow → Outflow → Type 0) : Type 0 where
  pub count : length new ≡ length old
  pub each : (output : ℕ) → output < length old → Holds output (output_at old output) (output_at new output)

-- something holds of one output partition, and something else of the others
pub record InOne (old new : List Outflow) (output : ℕ) (Holds : Outflow → Outflow → Type 0)
    (Others : ℕ → Outflow → Outflow → Type 0) : Type 0 where
  pub count : length new ≡ length old
  pub within : output < length old
  pub here : Holds (output_at old output) (output_at new output)
  pub others : (other : ℕ) → other < length old → other ≢ output →
      Others other (output_at old other) (output_at new other)

-- The rows of each output partition were put into it, or one failed.
abbrev pub PutsEach : List (List Row) → List Outflow → Result (Unit {0}) TransformFault → List Outflow → Type 0
PutsEach all old (Ok done) new = InEach old new (λ output. Fills (rows_in all output))
PutsEach all old (Err (fault.Output output why)) new =
    InOne old new output (λ x. StopsFirst (rows_in all output) x why) (λ other. FillsFirst (rows_in all other))
PutsEach all old (Err fault.Full) new = ⊥
PutsEach all old (Err fault.Memory) new = ⊥

-- Fates were counted beside those that were counted before.
abbrev pub AddsCounts : Totals → List Fate → Totals → Type 0
AddsCounts old fates new = (before : List Fate) → AreCounts before old → AreCounts (before ++ fates) new

-- What became of a batch's records was counted.
abbrev pub CountsBatch : Program → Batch → Flow → Totals → Type 0
CountsBatch program batch old counts =
    (fates : List Fate) × AreItemFates old.input (length old.outputs) (Some program) old.offset (Records batch) fates
    × AddsCounts old.counts fates counts

-- A batch was transformed: its rows were put into the output partitions, and its records counted.
abbrev pub PushesWhole : Program → Batch → Flow → Flow → Type 0
PushesWhole program batch old new =
    (all : List (List Row)) × AreItemRows (origin_of old) (Some program) (Records batch) all
    × PutsEach all old.outputs (Ok tt) new.outputs × (new.input ≡ old.input)
    × (new.offset ≡ old.offset + length batch.records) × CountsBatch program batch old new.counts

-- a batch of the first records of one
abbrev pub first_of : ℕ → Batch → Batch
first_of count batch = with_records batch (take count batch.records)

-- Of a batch the first records were transformed, fewer than all; or nothing was done.
abbrev pub PushesFirst : Program → Batch → Flow → Flow → Type 0
PushesFirst program batch old new = (new ≡ old)
    ⊎ ((count : ℕ) × (count < length batch.records) × PushesWhole program (first_of count batch) old new)

-- A batch was transformed. Or an output partition failed, or memory ran out, or nothing was done.
abbrev pub Pushes : Program → Batch → Flow → Result (Unit {0}) TransformFault → Flow → Type 0
Pushes program batch old (Ok done) new = PushesWhole program batch old new
Pushes program batch old (Err (fault.Output output why)) new =
    (all : List (List Row)) × AreItemRows (origin_of old) (Some program) (Records batch) all
    × PutsEach all old.outputs (Err (fault.Output output why)) new.outputs
Pushes program batch old (Err fault.Full) new = (TIMESTAMP_END < old.offset + MAX_RECORDS) × (new ≡ old)
Pushes program batch old (Err fault.Memory) new = PushesFirst program batch old new

-- ---- the end

-- all rows that waited in an output partition were written
abbrev pub Empties : Outflow → Outflow → Type 0
Empties old new = WroteBatches old.waits old.written new.waits new.written × (new.waits.rows ≡ [])

-- whole batches were written of those rows, and nothing else
abbrev pub EmptiesSome : Outflow → Outflow → Type 0
EmptiesSome old new = (rest : Waiting) × WroteBatches old.waits old.written rest new.written

-- the writer failed, or memory ran out
abbrev pub StopsEmptying : Outflow → OutletFault → Outflow → Type 0
StopsEmptying old why new = Fails old.waits old.written why new.written

-- All rows that waited in each output partition were written, or one failed.
abbrev pub EndsEach : List Outflow → Result (Unit {0}) TransformFault → List Outflow → Type 0
EndsEach old (Ok done) new = InEach old new (λ output. Empties)
EndsEach old (Err (fault.Output output why)) new =
    InOne old new output (λ x. StopsEmptying x why) (λ other. EmptiesSome)
EndsEach old (Err fault.Full) new = ⊥
EndsEach old (Err fault.Memory) new = ⊥

-- the same of a stream; all else of it stays
abbrev pub EndsFlow : Flow → Result (Unit {0}) TransformFault → Flow → Type 0
EndsFlow old result new =
    EndsEach old.outputs result new.outputs × (new ≡ flow old.input old.offset new.outputs old.counts)

-- ---- one output partition

-- an output partition stays
abbrev pub Stays : Outflow → Outflow → Type 0
Stays old new = new ≡ old

-- Rows were put into one output partition, and the others stay.
abbrev pub PutsOne : ℕ → List Row → List Outflow → Result (Unit {0}) TransformFault → List Outflow → Type 0
PutsOne output rows old (Ok done) new = InOne old new output (Fills rows) (λ other. Stays)
PutsOne output rows old (Err (fault.Output number why)) new =
    (number ≡ output) × InOne old new output (λ x. StopsFirst rows x why) (λ other. Stays)
PutsOne output rows old (Err fault.Full) new = ⊥
PutsOne output rows old (Err fault.Memory) new = ⊥

-- What waited in one output partition was written, and the others stay.
abbrev pub EndsOne : ℕ → List Outflow → Result (Unit {0}) TransformFault → List Outflow → Type 0
EndsOne output old (Ok done) new = InOne old new output Empties (λ other. Stays)
EndsOne output old (Err (fault.Output number why)) new =
    (number ≡ output) × InOne old new output (λ x. StopsEmptying x why) (λ other. Stays)
EndsOne output old (Err fault.Full) new = ⊥
EndsOne output old (Err fault.Memory) new = ⊥

-- ---- many batches

-- how many records batches have
abbrev pub records_of : List Batch → ℕ
records_of [] = 0
records_of (batch ∷ batches) = length batch.records + records_of batches

-- the rows that batches give to an output of a stream
abbrev pub AreFlowRows : Flow → Program → List Batch → ℕ → List Row → Type 0
AreFlowRows start program batches output rows =
    AreRows start.input output (length start.outputs) program start.offset batches rows

-- what becomes of the records of batches in a stream
abbrev pub AreFlowFates : Flow → Program → List Batch → List Fate → Type 0
AreFlowFates start program batches fates =
    AreFates start.input (length start.outputs) program start.offset batches fates

-- What became of the records of batches was counted since the start.
abbrev pub CountsBatches : Flow → Program → List Batch → Totals → Type 0
CountsBatches start program batches counts =
    (fates : List Fate) × AreFlowFates start program batches fates × AddsCounts start.counts fates counts

-- Batches were pushed since the start: each output partition has their rows, some in full batches, and the others wait.
-- Their records were counted.
pub record Follows (start : Flow) (program : Program) (batches : List Batch) (now : Flow) : Type 0 where
  pub input : now.input ≡ start.input
  pub offset : now.offset ≡ start.offset + records_of batches
  pub count : length now.outputs ≡ length start.outputs
  pub each : (output : ℕ) → output < length start.outputs →
      (rows : List Row) × AreFlowRows start program batches output rows
      × Fills rows (output_at start.outputs output) (output_at now.outputs output)
  pub counts : CountsBatches start program batches now.counts

-- all rows that waited in an output partition and those that were added were written
abbrev pub FillsAll : List Row → Outflow → Outflow → Type 0
FillsAll rows old new =
    WroteBatches (with_rows old.waits rows) old.written new.waits new.written × (new.waits.rows ≡ [])

-- Batches were pushed since the start, and all their rows are in batches that were written.
pub record Finished (start : Flow) (program : Program) (batches : List Batch) (now : List Outflow) : Type 0 where
  pub count : length now ≡ length start.outputs
  pub each : (output : ℕ) → output < length start.outputs →
      (rows : List Row) × AreFlowRows start program batches output rows
      × FillsAll rows (output_at start.outputs output) (output_at now output)

-- Batches were pushed since the start, until an output partition failed: the others have written whole batches of their
-- rows.
pub record Broken (start : Flow) (program : Program) (batches : List Batch) (now : List Outflow) (output : ℕ)
    (why : OutletFault) : Type 0 where
  pub count : length now ≡ length start.outputs
  pub within : output < length start.outputs
  pub here : (rows : List Row) × AreFlowRows start program batches output rows
      × StopsFilling rows (output_at start.outputs output) why (output_at now output)
  pub others : (other : ℕ) → other < length start.outputs → other ≢ output →
      (rows : List Row) × AreFlowRows start program batches other rows
      × FillsSome rows (output_at start.outputs other) (output_at now other)

-- What is known of the batches that were pushed since the start, with one more or one that fails, and at the end.
pub record ManyBatches : Type 0 where
  pub none : (start : Flow) (program : Program) → Follows start program [] start
  pub more : (start old new : Flow) (program : Program) (batches : List Batch) (batch : Batch) →
      Follows start program batches old → Pushes program batch old (Ok tt) new →
      Follows start program (batches ++ batch ∷ []) new
  pub stop : (start old new : Flow) (program : Program) (batches : List Batch) (batch : Batch) (output : ℕ)
      (why : OutletFault) → Follows start program batches old →
      Pushes program batch old (Err (fault.Output output why)) new →
      Broken start program (batches ++ batch ∷ []) new.outputs output why
  pub end : (start old new : Flow) (program : Program) (batches : List Batch) → Follows start program batches old →
      EndsFlow old (Ok tt) new → Finished start program batches new.outputs
  pub counts : (start old new : Flow) (program : Program) (batches : List Batch)
      (result : Result (Unit {0}) TransformFault) → Follows start program batches old → EndsFlow old result new →
      CountsBatches start program batches new.counts
  pub end_stop : (start old new : Flow) (program : Program) (batches : List Batch) (output : ℕ) (why : OutletFault) →
      Follows start program batches old → EndsFlow old (Err (fault.Output output why)) new →
      Broken start program batches new.outputs output why
