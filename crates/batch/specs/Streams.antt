-- A stream of record batches that arrives in pieces of any size.
use Rattle.std.specs.Prelude.{◌≡◌, ◌≢◌, ℕ, ◌≤◌, Bool, true, false, List, [], ◌++◌, length, take, drop, Option, Some}
use Rattle.std.specs.Prelude.{None, Result, Ok, Err}
use Rattle.wire_spec.specs.declared.{fault.BatchFault.BatchFault, record.Batch.Batch}
use Rattle.wire_spec.specs.declared.fault.BatchFault.TheVariants.{Short, Memory}
use Rattle.wire_spec.specs.{BatchReading.IsPart, BatchReading.batch_at, BatchSpelling.batch_spelling}

-- A stream goes on after the bytes that were fed and not given yet, or a fault ended it at them.
pub data Stream : Type 0 where
  Open : List ℕ → Stream
  Ended : BatchFault → List ℕ → Stream

-- the bytes that batches may still be cut from: those that were fed and not given yet
abbrev pub pending_bytes : Stream → List ℕ
pending_bytes (Open bytes) = bytes
pending_bytes (Ended fault bytes) = []

-- the same, or those at which a fault ended the stream
abbrev pub kept_bytes : Stream → List ℕ
kept_bytes (Open bytes) = bytes
kept_bytes (Ended fault bytes) = bytes

-- the stream with a piece more; one that a fault ended takes none
abbrev pub with_piece : Stream → List ℕ → Stream
with_piece (Open bytes) piece = Open (bytes ++ piece)
with_piece (Ended fault bytes) piece = Ended fault bytes

-- what a fault leaves of a stream: all of it, where memory ran out; else its end at the bytes that are kept
abbrev pub after_fault : Stream → BatchFault → Stream
after_fault stream Memory = stream
after_fault stream fault = Ended fault (kept_bytes stream)

-- the bytes begin with no batch, and this is the refusal; nothing is said where memory ran out
abbrev pub IsRefusal : List ℕ → BatchFault → Type 0
IsRefusal bytes fault = fault ≢ Memory → (fault ≢ Short) × (batch_at bytes ≡ Err fault)

-- What is given of a stream, and what is left of it: the batch that its bytes begin with, in its spelling; none, where
-- they hold no whole batch; the refusal of bytes that begin with no batch, which ends the stream.
abbrev pub Gives : Stream → Result (Option Batch) BatchFault → Stream → Type 0
Gives (Open bytes) (Ok (Some batch)) new = (used : ℕ) × (batch_at bytes ≡ Ok (batch, used))
    × (take used bytes ≡ batch_spelling batch) × (new ≡ Open (drop used bytes))
Gives (Open bytes) (Ok None) new = (batch_at bytes ≡ Err Short) × (new ≡ Open bytes)
Gives (Open bytes) (Err fault) new = IsRefusal bytes fault × (new ≡ after_fault (Open bytes) fault)
Gives (Ended fault bytes) (Ok given) new = ⊥
Gives (Ended fault bytes) (Err again) new = (again ≡ fault) × (new ≡ Ended fault bytes)

-- ---- What a feed keeps

-- the stream of a feed that keeps these bytes, in two parts, and that no fault ended, or this one
abbrev pub stream : List ℕ → List ℕ → Option BatchFault → Stream
stream ready next None = Open (ready ++ next)
stream ready next (Some fault) = Ended fault (ready ++ next)

-- The batch that the bytes begin with is cut off them; or they stay, and begin with none.
abbrev pub Cuts : List ℕ → Result Batch BatchFault → List ℕ → Type 0
Cuts bytes (Ok batch) new = (used : ℕ) × (used ≤ length bytes) × (batch_at bytes ≡ Ok (batch, used))
    × (take used bytes ≡ batch_spelling batch) × (new ≡ drop used bytes)
Cuts bytes (Err fault) new = IsRefusal bytes fault × (new ≡ bytes)

-- Whether a batch or a refusal of one may be cut off the first part of the bytes; else all of them are a part of a
-- batch.
abbrev pub IsReady : Bool → List ℕ → List ℕ → Type 0
IsReady true ready next = IsPart ready → ⊥
IsReady false ready next = IsPart (ready ++ next)
