-- What a program makes of record batches in memory.
use Rattle.std.specs.Prelude.{◌≡◌, ◌≢◌, ◌⊎◌, ℕ, ◌+◌, ◌<◌, ◌≤◌, false, List, [], length, map, sum_by, slice_get, get_or}
use Rattle.std.specs.Prelude.{Option, Some, unwrap_or, Result, Ok, Err, ⊤}
use Rattle.std.specs.List.{concat}
use Rattle.wire_spec.specs.{declared.record.Batch.Batch, declared.fault.BatchFault.TheVariants.Memory as NoMemory}
use Rattle.wire_spec.specs.BatchReading.{batch_at}
use Rattle.wire_spec.specs.declared.limits.TheConstants.{TIMESTAMP_END, MAX_RECORDS}
use Rattle.machine_spec.specs.Image.{Program}
use Rattle.log_spec.specs.declared.row.Row.{Row}
use Rattle.batch.specs.Batches.{AreBatches as Begins}
use Rattle.fates.specs.Totals.{AreCountsWith}
use Rattle.item_rows.specs.declared.origin.Origin.{Origin}
use Rattle.batch_reader.specs.{Readings.Inlet, declared.reader.Position.Position}
use Rattle.batch_reader.specs.declared.reader.ReadFault.TheVariants as read
use Rattle.transform.specs.{Backlogs.Waiting, Backlogs.waiting, Outlets.Outflow, Outlets.AreBatches as AreRowBatches}
use Rattle.transform.specs.Transforms.{Flow, Follows, AreRows, AreFates, records_of}
use Rattle.transform.specs.Streams.{Gave, PushesAll, is_cut}
use Rattle.transform.specs.declared.{memory.Stop.Stop, memory.BatchPlace.BatchPlace, memory.Transformed.Transformed}
use Rattle.transform.specs.declared.{memory.OutputBatches.OutputBatches, stream.StreamFault.StreamFault}
use Rattle.transform.specs.declared.memory.Reached.{Reached}
use Rattle.transform.specs.declared.memory.Stop.TheVariants as stop
use Rattle.transform.specs.declared.stream.StreamFault.TheVariants as fault
use Rattle.transform.specs.declared.flow.TransformFault.TheVariants as cause

-- the rows that batches give to an output, all of them in record batches of which each takes as many as it can
pub record AreOutputBatches (origin : Origin) (program : Program) (batches : List Batch) (output : ℕ)
    (made : OutputBatches) : Type 0 where
  pub rows : List Row
  pub rows_are : AreRows origin.input output origin.outputs program origin.offset batches rows
  pub written : List (List ℕ)
  pub rest : Waiting
  pub written_are : AreRowBatches (waiting 0 rows) written rest
  pub none_left : rest.rows ≡ []
  pub bytes_are : made.bytes.items ≡ concat written
  pub count_is : made.rows ≡ length rows
  pub batches_are : made.batches ≡ length written

-- the bytes are batches, and this is what the program makes of them
pub record IsTransformed (program : Program) (origin : Origin) (bytes : List ℕ) (made : Transformed) : Type 0 where
  pub batches : List Batch
  pub batches_are : Begins bytes batches []
  pub count_is : made.batches ≡ length batches
  pub counts_are : AreCountsWith (AreFates origin.input origin.outputs program origin.offset batches) made.counts
  pub rejects_are : made.rejects.items ≡ made.counts.rejects
  pub outputs_are : length made.outputs.items ≡ origin.outputs
  pub each : (output : ℕ) (one : OutputBatches) → slice_get made.outputs.items output ≡ Some one →
      AreOutputBatches origin program batches output one

-- how many bytes the record batches of all outputs have
abbrev pub size_of : Transformed → ℕ
size_of made = sum_by (λ one. length one.bytes.items) made.outputs.items

-- The bytes are record batches of the first rows that batches give to an output: each has as many as it can, unless it
-- has the last one.
pub record BeginsOutput (origin : Origin) (program : Program) (batches : List Batch) (output : ℕ) (bytes : List ℕ)
    : Type 0 where
  pub rows : List Row
  pub rows_are : AreRows origin.input output origin.outputs program origin.offset batches rows
  pub written : List (List ℕ)
  pub rest : Waiting
  pub written_are : AreRowBatches (waiting 0 rows) written rest
  pub bytes_are : bytes ≡ concat written

-- the record batches of the rows that batches give to all outputs begin with more bytes than the limit
pub record Exceeds (limit : ℕ) (origin : Origin) (program : Program) (batches : List Batch) : Type 0 where
  pub begun : List (List ℕ)
  pub count_is : length begun ≡ origin.outputs
  pub each : (output : ℕ) → output < origin.outputs →
      BeginsOutput origin program batches output (get_or begun output [])
  pub more : limit < sum_by length begun

-- the bytes begin with these batches, which end at this place, and the rest follows
pub record EndsAt (bytes : List ℕ) (place : BatchPlace) (batches : List Batch) (rest : List ℕ) : Type 0 where
  pub batches_are : Begins bytes batches rest
  pub batch_is : place.batch ≡ length batches
  pub byte_is : place.byte + length rest ≡ length bytes

-- why the next batch is not transformed, or these batches are not
abbrev pub StopsAt : Program → Origin → ℕ → List Batch → List ℕ → Stop → Type 0
StopsAt program origin limit batches rest (stop.Batch fault) =
    (fault ≢ NoMemory → batch_at rest ≡ Err fault) × (rest ≢ [])
StopsAt program origin limit batches rest stop.Full =
    TIMESTAMP_END < origin.offset + records_of batches + MAX_RECORDS
StopsAt program origin limit batches rest stop.Limit = Exceeds limit origin program batches
StopsAt program origin limit batches rest stop.Memory = ⊤

-- All batches of the bytes were transformed, and what is made of them has at most so many bytes; or the next one can't
-- be, after those up to a place, or those have passed the limit.
abbrev pub TransformsBatches :
    Program → Origin → List ℕ → ℕ → Result Transformed Stop → BatchPlace → Type 0
TransformsBatches program origin bytes limit (Ok made) place =
    IsTransformed program origin bytes made × (size_of made ≤ limit)
TransformsBatches program origin bytes limit (Err why) place = why ≢ stop.Memory →
    (batches : List Batch) × (rest : List ℕ) × EndsAt bytes place batches rest
    × StopsAt program origin limit batches rest why

-- ---- what a stream in memory gives

-- Why a transform stops whose stream ends so. What is read or written is memory, so a fault of that is that it ran out.
abbrev pub IsStopOf : StreamFault → Stop → Type 0
IsStopOf (fault.Read (read.Batch why)) stops =
    ((why ≡ NoMemory) × (stops ≡ stop.Memory)) ⊎ ((why ≢ NoMemory) × (stops ≡ stop.Batch why))
IsStopOf (fault.Transform cause.Full) stops = stops ≡ stop.Full
IsStopOf other stops = stops ≡ stop.Memory

-- the bytes of an output partition, where they are known, and how many rows and batches they are
pub record Content : Type 0 where
  pub bytes : Option (List ℕ)
  pub rows : ℕ
  pub batches : ℕ

-- the same of one whose batches a writer has
abbrev pub content_of : Outflow → Content
content_of o =
    record { bytes = o.written; rows = o.waits.place + length o.waits.rows; batches = o.waits.batches }

-- the same of one in memory
abbrev pub content_in : OutputBatches → Content
content_in made = record { bytes = Some made.bytes.items; rows = made.rows; batches = made.batches }

-- what a stream made of this many batches
pub record IsMadeOf (batches : ℕ) (f : Flow) (made : Transformed) : Type 0 where
  pub batches_are : made.batches ≡ batches
  pub counts_are : made.counts ≡ f.counts
  pub rejects_are : made.rejects.items ≡ made.counts.rejects
  pub outputs_are : map content_in made.outputs.items ≡ map content_of f.outputs

-- the bytes that an output partition has written
abbrev pub bytes_in : Outflow → List ℕ
bytes_in o = unwrap_or o.written []

-- how many all have written
abbrev pub bytes_written : List Outflow → ℕ
bytes_written outputs = sum_by (λ o. length (bytes_in o)) outputs

-- The batches that a reader gave were pushed, and this much had been given with them, unless memory ran out or an output
-- partition failed at the last one.
pub record PushesTo (program : Program) (reader : Inlet) (start : Flow) (result : Result (Unit {0}) StreamFault)
    (after : Inlet) (now : Flow) (place : Position) : Type 0 where
  pub all : PushesAll program reader start result after now
  pub placed : is_cut result ≡ false → place ≡ all.1.given

-- The batches up to a place were pushed, and more bytes than the limit are written.
pub record PushesPast (program : Program) (limit : ℕ) (reader : Inlet) (start now : Flow) (place : Position) : Type 0
  where
    pub batches : List Batch
    pub mid : Inlet
    pub gave : Gave reader batches mid
    pub follows : Follows start program batches now
    pub placed : place ≡ mid.given
    pub more : limit < bytes_written now.outputs

-- The batches that a reader gave were pushed: all up to its end, those before a fault, or those up to the one that
-- passed the limit.
abbrev pub PushesWithin : Program → ℕ → Inlet → Flow → Result Reached StreamFault → Inlet → Flow → Position → Type 0
PushesWithin program limit reader start (Ok Reached.End) after now place =
    PushesTo program reader start (Ok tt) after now place
PushesWithin program limit reader start (Ok Reached.Limit) after now place =
    PushesPast program limit reader start now place
PushesWithin program limit reader start (Err why) after now place =
    PushesTo program reader start (Err why) after now place
