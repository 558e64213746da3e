-- Record batches that are read one after the other.
use Rattle.std.specs.Prelude.{◌≡◌, ◌≢◌, ℕ, ◌+◌, ◌-◌, ◌^◌, ◌≤◌, min, List, [], ◌++◌, length, take, drop}
use Rattle.std.specs.Prelude.{Option, Some, None, Result, Ok, Err, ⊤}
use Rattle.std.specs.Io.KnownBytes.{prepend_known, Consumes, Keeps, IsAtEnd}
use Rattle.wire_spec.specs.{declared.record.Batch.Batch, declared.fault.BatchFault.BatchFault, BatchReading.batch_at}
use Rattle.wire_spec.specs.{declared.fault.BatchFault.TheVariants.Memory as NoMemory, BatchSpelling.batch_spelling}
use Rattle.wire_spec.specs.declared.fault.BatchFault.TheVariants.{Short}
use Rattle.batch.specs.Streams.{Stream, Open, pending_bytes, kept_bytes}
use Rattle.batch_reader.specs.declared.{reader.Position.Position, reader.ReadFault.ReadFault}
use Rattle.batch_reader.specs.declared.reader.ReadFault.TheVariants as fault

-- ---- how much was given

-- where no batch was given yet
abbrev pub none_given : Position
none_given = record { batches = 0; bytes = 0 }

-- how much was given with one batch more, of this many bytes; both numbers stay at 2^64 - 1 once they are there
abbrev pub with_batch : Position → ℕ → Position
with_batch given used = record {
  batches = min (given.batches + 1) (2 ^ 64 - 1);
  bytes = min (given.bytes + used) (2 ^ 64 - 1);
}

-- ---- what a reader is

-- the stream of the bytes that were read of a reader, and how much was given
pub record Kept : Type 0 where
  pub stream : Stream
  pub given : Position

-- the same by its parts
abbrev pub kept : Stream → Position → Kept
kept stream given = record { stream = stream; given = given }

-- the stream of the bytes that were read, the bytes that the reader has left, where they are known, and how much was
-- given
pub record Inlet : Type 0 where
  pub stream : Stream
  pub rest : Option (List ℕ)
  pub given : Position

-- an inlet by its stream, the bytes that its reader has left, where they are known, and how much was given
abbrev pub inlet : Stream → Option (List ℕ) → Position → Inlet
inlet stream rest given = record { stream = stream; rest = rest; given = given }

-- the bytes that were read and not given yet, and those of the reader, where they are known
abbrev pub left : Stream → Option (List ℕ) → Option (List ℕ)
left stream rest = prepend_known (pending_bytes stream) rest

-- the bytes that were not given yet, where they are known
abbrev pub left_of : Inlet → Option (List ℕ)
left_of i = left i.stream i.rest

-- no fault ended it
abbrev pub IsOpen : Inlet → Type 0
IsOpen i = i.stream ≡ Open (pending_bytes i.stream)

-- known bytes begin with these
abbrev pub BeginsWith : Option (List ℕ) → List ℕ → Type 0
BeginsWith known first = (bytes : List ℕ) → known ≡ Some bytes → (more : List ℕ) × (bytes ≡ first ++ more)

-- The known bytes begin with a batch, and lose it.
abbrev pub LosesBatch : Option (List ℕ) → Batch → Option (List ℕ) → Type 0
LosesBatch before batch after = (bytes : List ℕ) → before ≡ Some bytes →
    (used : ℕ) × (batch_at bytes ≡ Ok (batch, used)) × (after ≡ Some (drop used bytes))

-- There are known bytes and they begin with no batch, and this is the refusal; nothing is said where memory ran out.
abbrev pub BeginsBadly : Option (List ℕ) → BatchFault → Type 0
BeginsBadly before why = (bytes : List ℕ) → before ≡ Some bytes → why ≢ NoMemory →
    (batch_at bytes ≡ Err why) × (bytes ≢ [])

-- One batch more was given, and as many bytes more as it has. The bytes that were not given yet begin with it, where
-- they are known.
pub record CountsBatch (before : Option (List ℕ)) (batch : Batch) (old new : Position) : Type 0 where
  pub bytes : List ℕ
  pub used : ℕ
  pub found : batch_at bytes ≡ Ok (batch, used)
  pub at_front : (known : List ℕ) → before ≡ Some known → batch_at known ≡ Ok (batch, used)
  pub counted : new ≡ with_batch old used

-- The next batch was read, and counted; or there is none, at the end, and no byte is kept; or a fault stopped that.
abbrev pub ReadsBatch : Inlet → Result (Option Batch) ReadFault → Inlet → Type 0
ReadsBatch old (Ok (Some batch)) new =
    IsOpen new × LosesBatch (left_of old) batch (left_of new) × CountsBatch (left_of old) batch old.given new.given
ReadsBatch old (Ok None) new = IsAtEnd (left_of old) × (new.stream ≡ Open []) × (new.given ≡ old.given)
ReadsBatch old (Err (fault.Batch why)) new = BeginsBadly (left_of old) why × (new.given ≡ old.given)
ReadsBatch old (Err fault.Read) new = new.given ≡ old.given
ReadsBatch old (Err fault.Memory) new = new.given ≡ old.given

-- ---- what is taken

-- The bytes that are left begin with no batch, and this is the refusal; nothing is said where memory ran out. They end
-- inside a batch only where the reader is at its end.
abbrev pub IsBadNext : Option (List ℕ) → List ℕ → BatchFault → Type 0
IsBadNext after rest fault = fault ≢ NoMemory →
    (rest ≢ []) × (batch_at rest ≡ Err fault) × (fault ≡ Short → IsAtEnd after)

-- What is taken off bytes that were read, and what is kept of them, where the reader has these left: the batch that
-- they begin with, in its spelling; none, at the reader's end, where no byte is kept. Or they begin with no batch, and
-- stay; or the reader failed, and they hold no whole batch; nothing is said where memory ran out.
abbrev pub TakesOff : List ℕ → Result (Option Batch) ReadFault → Stream → Option (List ℕ) → Type 0
TakesOff bytes (Ok (Some batch)) new after = (used : ℕ) × (batch_at bytes ≡ Ok (batch, used))
    × (take used bytes ≡ batch_spelling batch) × (new ≡ Open (drop used bytes))
TakesOff bytes (Ok None) new after = (bytes ≡ []) × (new ≡ Open []) × IsAtEnd after
TakesOff bytes (Err (fault.Batch why)) new after = IsBadNext after bytes why × (kept_bytes new ≡ bytes)
TakesOff bytes (Err fault.Read) new after = batch_at bytes ≡ Err Short
TakesOff bytes (Err fault.Memory) new after = ⊤

-- The same of the bytes that were kept and of those that were read behind them.
abbrev pub Takes : Stream → Option (List ℕ) → Result (Option Batch) ReadFault → Stream → Option (List ℕ) → Type 0
Takes old before result new after = (read : List ℕ) × Consumes before after read
    × TakesOff (pending_bytes old ++ read) result new after

-- a batch that was taken was counted, with all its bytes; else no more was given
abbrev pub CountsGiven : {E : Type 0} → Position → Result (Option Batch) E → Position → Type 0
CountsGiven old (Ok (Some batch)) new = new ≡ with_batch old (length (batch_spelling batch))
CountsGiven old (Ok None) new = new ≡ old
CountsGiven old (Err why) new = new ≡ old

-- ---- one step

-- At most the buffer's length of bytes was read, none only at the reader's end.
abbrev pub ReadsSome : Option (List ℕ) → Result ℕ ReadFault → List ℕ → Option (List ℕ) → Type 0
ReadsSome before (Ok count) buffer after = (count ≤ length buffer) × Consumes before after (take count buffer)
    × (count ≡ 0 → IsAtEnd after)
ReadsSome before (Err (fault.Batch why)) buffer after = ⊥
ReadsSome before (Err fault.Read) buffer after = Keeps before after
ReadsSome before (Err fault.Memory) buffer after = Keeps before after

-- More of a reader's bytes were read, behind those of a stream that no fault ended.
pub record Fed (old : Stream) (before : Option (List ℕ)) (new : Stream) (after : Option (List ℕ)) : Type 0 where
  pub read : List ℕ
  pub consumed : Consumes before after read
  pub is : new ≡ Open (pending_bytes old ++ read)

-- more of a reader's bytes were read, behind some
abbrev pub ReadsOn : List ℕ → Option (List ℕ) → List ℕ → Option (List ℕ) → Type 0
ReadsOn old before new after = (read : List ℕ) × Consumes before after read × (new ≡ old ++ read)
