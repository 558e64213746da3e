-- Some records of a batch through a program.
use Rattle.std.specs.Prelude.{◌≡◌, ℕ, ◌+◌, List, length, Some, Result, Ok, Err, ⊤}
use Rattle.wire_spec.specs.declared.record.Batch.{Batch}
use Rattle.machine_spec.specs.Image.{Program}
use Rattle.log_spec.specs.declared.row.Row.{Row}
use Rattle.fates.specs.{declared.fate.Fate.Fate, Fates.AreRecordsFates, Totals.Totals}
use Rattle.item_rows.specs.declared.{origin.Origin.Origin, part.Part.Part}
use Rattle.item_rows.specs.Blocks.{records_from, ArePartRows, GiveRows}
use Rattle.transform.specs.declared.flow.TransformFault.{TransformFault}
use Rattle.transform.specs.declared.flow.TransformFault.TheVariants as fault
use Rattle.transform.specs.Transforms.{Flow, PutsEach, AddsCounts}

-- the records from a number on of the batch at an origin are the next ones of a stream
pub record IsAt (origin : Origin) (first : ℕ) (f : Flow) : Type 0 where
  pub input : f.input ≡ origin.input
  pub offset : f.offset ≡ origin.offset + first
  pub outputs : length f.outputs ≡ origin.outputs

-- What became of some records of a batch was counted.
abbrev pub CountsPart : Program → Origin → Batch → Part → Totals → Totals → Type 0
CountsPart program origin batch part old new =
    (fates : List Fate) × AreRecordsFates origin.input origin.outputs (Some program) batch (origin.offset + part.first)
    (records_from part.first part.count batch.records) fates × AddsCounts old fates new

-- Some records of a batch were transformed: their rows were put into the output partitions, and they were counted. Or an
-- output partition failed, or nothing was done.
abbrev pub PutsPart :
    Program → Origin → Batch → Part → Flow → Result (Unit {0}) TransformFault → Flow → Type 0
PutsPart program origin batch part old (Ok done) new =
    (all : List (List Row)) × ArePartRows origin (Some program) batch part.first part.count all
    × PutsEach all old.outputs (Ok tt) new.outputs × (new.input ≡ old.input) × (new.offset ≡ old.offset + part.count)
    × CountsPart program origin batch part old.counts new.counts
PutsPart program origin batch part old (Err (fault.Output output why)) new =
    (all : List (List Row)) × ArePartRows origin (Some program) batch part.first part.count all
    × PutsEach all old.outputs (Err (fault.Output output why)) new.outputs
PutsPart program origin batch part old (Err fault.Full) new = ⊥
PutsPart program origin batch part old (Err fault.Memory) new = new ≡ old

-- Where an output partition failed, the records of the batch from a number on have rows.
abbrev pub HaveRows : Program → Origin → Batch → ℕ → Result (Unit {0}) TransformFault → Type 0
HaveRows program origin batch from (Err (fault.Output output why)) = GiveRows origin program batch from
HaveRows program origin batch from result = ⊤

-- the same, and it is known that the records after them have rows, where an output partition failed
abbrev pub PushesPart :
    Program → Origin → Batch → Part → Flow → Result (Unit {0}) TransformFault → Flow → Type 0
PushesPart program origin batch part old result new = PutsPart program origin batch part old result new
    × HaveRows program origin batch (part.first + part.count) result
