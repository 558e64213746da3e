-- What the calls for record batches answer.
use Rattle.std.specs.Prelude.{◌≡◌, ◌⊎◌, ℕ, ◌≤◌, Bool, true, false, ◌&&◌, nat_le, nat_lt, List, length}
use Rattle.std.specs.Prelude.{Option, Some, None, Result, Ok, Err}
use Rattle.wire_spec.specs.declared.{record.Batch.Batch, limits.TheConstants.TIMESTAMP_END}
use Rattle.machine_spec.specs.Image.{Program}
use Rattle.item_rows.specs.declared.origin.Origin.{Origin}
use Rattle.transform.specs.declared.{memory.Stop.Stop, memory.BatchPlace.BatchPlace, memory.Transformed.Transformed}
use Rattle.transform.specs.declared.memory.OutputBatches.{OutputBatches}
use Rattle.transform.specs.Transformed.{IsTransformed, EndsAt, StopsAt, size_of}
use Rattle.klog_c.specs.{Numbers.stop_number, Numbers.stop_record, Calls.Fails, Calls.Fills}
use Rattle.klog_c.specs.declared.faults.TheConstants.{MEMORY, KIND}
use Rattle.c_outcomes.specs.{declared.numbers.TheConstants.RANGE, Outcomes.item_at, Outcomes.part_at}
use Rattle.c_outcomes.specs.Outcomes.{TellsOf, CopiesFound}
use Rattle.klog_c.specs.declared.{object.Object.Object, transforming.BatchSource.BatchSource, transforming.Stopped.Stopped}
use Rattle.klog_c.specs.declared.{outputs.Counted.Counted, outputs.Reject.Reject, outputs.OutputTold.OutputTold}
use Rattle.klog_c.specs.declared.object.Object.TheVariants as object

-- what a program made of record batches, if a handle contains that; else KIND
abbrev pub batches_in : Option Object → Result Transformed ℕ
batches_in (Some (object.Program program)) = Err KIND
batches_in (Some (object.Outcome outcome)) = Err KIND
batches_in (Some (object.Text text)) = Err KIND
batches_in (Some (object.Batches made)) = Ok made
batches_in (Some (object.Headers headers)) = Err KIND
batches_in None = Err KIND

-- ---- a transform

-- a place in the ranges of a broker's; the first record may have the offset 2^62, which is past the last
abbrev pub is_source : BatchSource → Bool
is_source source = nat_lt source.partition 64 && nat_le source.offset TIMESTAMP_END && nat_le 1 source.outputs
    && nat_le source.outputs 64

-- the input partition of a source, the offset of its first record, and how many output partitions there are
abbrev pub origin_of : BatchSource → Origin
origin_of source = record { input = source.partition; offset = source.offset; outputs = source.outputs }

-- how many whole batches are before the place where a transform stopped, and how many bytes they have
abbrev pub place_of : Stopped → BatchPlace
place_of stopped = record { batch = stopped.batch; byte = stopped.byte }

-- what is reported of a stop at a place: the whole batches before it, how many bytes they have, and the record that the
-- stop is about
abbrev pub stopped_at : BatchPlace → Stop → Stopped
stopped_at place stop = record { batch = place.batch; byte = place.byte; place = stop_record stop }

-- The bytes begin with whole batches up to a place, and the number says why the next one is not transformed, or that
-- these pass the limit.
pub record IsStop (program : Program) (source : BatchSource) (bytes : List ℕ) (stopped : Stopped) (number : ℕ) : Type 0 where
  pub batches : List Batch
  pub rest : List ℕ
  pub why : Stop
  pub ends : EndsAt bytes (place_of stopped) batches rest
  pub stops : StopsAt program (origin_of source) source.limit batches rest why
  pub number_is : number ≡ stop_number why
  pub place_is : stopped.place ≡ stop_record why

-- The bytes are all batches, and the handle is filled with what the program makes of them, which takes at most as many
-- bytes as the limit; or memory ran out, or the next batch is not transformed, or the limit is passed.
abbrev pub TransformsSource : Program → BatchSource → List ℕ → Option Object → Option Object → Stopped → ℕ → Type 0
TransformsSource program source bytes before after stopped number =
    ((made : Transformed) × IsTransformed program (origin_of source) bytes made × (size_of made ≤ source.limit)
    × Fills (object.Batches made) before after number)
    ⊎ Fails MEMORY before after number ⊎ ((after ≡ before) × IsStop program source bytes stopped number)

-- the same where the numbers of the source are in range
abbrev pub TransformsIf : Bool → Program → BatchSource → List ℕ → Option Object → Option Object → Stopped → ℕ → Type 0
TransformsIf false program source bytes before after stopped number = Fails RANGE before after number
TransformsIf true program source bytes before after stopped number =
    TransformsSource program source bytes before after stopped number

-- the same, where there may be no program, or a number of the source is out of its range
abbrev pub Transforms : Result Program ℕ → BatchSource → List ℕ → Option Object → Option Object → Stopped → ℕ → Type 0
Transforms (Err fault) source bytes before after stopped number = Fails fault before after number
Transforms (Ok program) source bytes before after stopped number =
    TransformsIf (is_source source) program source bytes before after stopped number

-- ---- what batches tell

-- how many batches a program was given, how many records they had, how many of these were kept, how many codes rejected
-- others, and how many output partitions there are
abbrev pub counted_of : Transformed → Counted
counted_of made = record {
  batches = made.batches;
  records = made.counts.records;
  kept = made.counts.kept;
  codes = length made.rejects.items;
  outputs = length made.outputs.items;
}

-- the counts of batches that were found
abbrev pub TellsCounts : Result Transformed ℕ → Counted → ℕ → Type 0
TellsCounts made told number = TellsOf counted_of made told number

-- a code of batches that were found with how many records it rejected, by its number
abbrev pub reject_at : Result Transformed ℕ → ℕ → Result (ℕ × ℕ) ℕ
reject_at (Err fault) at = Err fault
reject_at (Ok made) at = item_at made.rejects.items at

-- what is reported of a code: how many records it rejected
abbrev pub reject_of : ℕ × ℕ → Reject
reject_of listed = record { code = listed.0; records = listed.1 }

-- what is told of a code, by its number
abbrev pub TellsReject : Result Transformed ℕ → ℕ → Reject → ℕ → Type 0
TellsReject made at told number = TellsOf reject_of (reject_at made at) told number

-- an output partition of batches that were found, by its number
abbrev pub output_at : Result Transformed ℕ → ℕ → Result OutputBatches ℕ
output_at (Err fault) at = Err fault
output_at (Ok made) at = item_at made.outputs.items at

-- what is reported of an output partition: how many rows it has, and how many bytes and batches these are
abbrev pub told_of : OutputBatches → OutputTold
told_of made = record { rows = made.rows; length = length made.bytes.items; batches = made.batches }

-- what is told of an output partition, by its number
abbrev pub TellsOutput : Result Transformed ℕ → ℕ → OutputTold → ℕ → Type 0
TellsOutput made at told number = TellsOf told_of (output_at made at) told number

-- The batches of an output partition are copied to the front of a buffer, where they fit; where they don't, or there is
-- no such partition, the buffer is as it was.
abbrev pub CopiesOutput : Result Transformed ℕ → ℕ → List ℕ → List ℕ → ℕ → Type 0
CopiesOutput made at before after number =
    CopiesFound (part_at (λ made. made.bytes.items) (output_at made at)) before after number
