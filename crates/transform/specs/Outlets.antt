-- Record batches of an output partition that are written one after the other.
use Rattle.std.specs.Prelude.{◌≡◌, ◌≢◌, ℕ, ◌+◌, ◌<◌, ◌≤◌, ◌^◌, List, [], ◌∷◌, ◌++◌, length, take, Option, Result, Ok}
use Rattle.std.specs.Prelude.{Err}
use Rattle.std.specs.{List.concat, Io.KnownBytes.Appends}
use Rattle.log_spec.specs.declared.row.Row.{Row}
use Rattle.transform.specs.declared.outlet.OutletFault.{OutletFault}
use Rattle.transform.specs.declared.outlet.OutletFault.TheVariants as fault
use Rattle.transform.specs.Backlogs.{Waiting, with_rows, ShowsSame, rest_after, IsBatchOf, IsFull, GivesAll}
use Rattle.wire_spec.specs.Writing.{HasBegun}

-- what a writer holds, where that is known, and the rows that wait for a batch
pub record Outflow : Type 0 where
  pub written : Option (List ℕ)
  pub waits : Waiting

-- an output partition by what its writer contains, where that is known, and by what waits for a batch
abbrev pub outflow : Option (List ℕ) → Waiting → Outflow
outflow written waits = record { written = written; waits = waits }

-- These are the batches of the first rows that wait, one after the other, each full; the other rows wait still, as far
-- as a batch shows them.
abbrev pub AreFull : Waiting → List (List ℕ) → Waiting → Type 0
AreFull old [] new = ShowsSame new old
AreFull old (bytes ∷ others) new =
    (count : ℕ) × IsBatchOf old count bytes × IsFull old count × AreFull (rest_after old count) others new

-- The same, where the last batch may have all rows that wait and room for more.
abbrev pub AreBatches : Waiting → List (List ℕ) → Waiting → Type 0
AreBatches old [] new = ShowsSame new old
AreBatches old (bytes ∷ others) new =
    (count : ℕ) × IsBatchOf old count bytes × (count < length old.rows → IsFull old count)
    × AreBatches (rest_after old count) others new

-- ---- what a writer holds

-- full batches of the rows that waited were written, and nothing else
pub record WroteFull (old : Waiting) (before : Option (List ℕ)) (new : Waiting) (after : Option (List ℕ)) : Type 0 where
  pub batches : List (List ℕ)
  pub are : AreFull old batches new
  pub written : Appends before after (concat batches)

-- whole batches of the rows that waited were written, and nothing else
pub record WroteBatches (old : Waiting) (before : Option (List ℕ)) (new : Waiting) (after : Option (List ℕ)) : Type 0
  where
    pub batches : List (List ℕ)
    pub are : AreBatches old batches new
    pub written : Appends before after (concat batches)

-- full batches of the rows that waited were written, and a beginning of one more batch
pub record WrotePart (old : Waiting) (before after : Option (List ℕ)) : Type 0 where
  pub batches : List (List ℕ)
  pub rest : Waiting
  pub are : AreFull old batches rest
  pub count : ℕ
  pub next : List ℕ
  pub next_is : IsBatchOf rest count next
  pub written : HasBegun before after (concat batches ++ next)

-- with these rows an output partition has more than there are offsets
abbrev pub IsTooMany : Waiting → Type 0
IsTooMany w = 2 ^ 63 < w.place + length w.rows

-- What a fault leaves: whole batches, and a beginning of one more where the writer failed. An output partition is full
-- only where it would have too many rows.
abbrev pub Stops : Waiting → Option (List ℕ) → OutletFault → Option (List ℕ) → Type 0
Stops old before fault.Write after = WrotePart old before after
Stops old before fault.Full after = IsTooMany old × (rest : Waiting) × WroteBatches old before rest after
Stops old before fault.Memory after = (rest : Waiting) × WroteBatches old before rest after

-- the same where the fault is of the writer or of memory
abbrev pub Fails : Waiting → Option (List ℕ) → OutletFault → Option (List ℕ) → Type 0
Fails old before why after = (why ≢ fault.Full) × Stops old before why after

-- The same where each whole batch is full, as it is where rows are put.
abbrev pub StopsFull : Waiting → Option (List ℕ) → OutletFault → Option (List ℕ) → Type 0
StopsFull old before fault.Write after = WrotePart old before after
StopsFull old before fault.Full after = IsTooMany old × (rest : Waiting) × WroteFull old before rest after
StopsFull old before fault.Memory after = (rest : Waiting) × WroteFull old before rest after

-- the same where the fault is of the writer or of memory
abbrev pub FailsFull : Waiting → Option (List ℕ) → OutletFault → Option (List ℕ) → Type 0
FailsFull old before why after = (why ≢ fault.Full) × StopsFull old before why after

-- Full batches were written, or the writer failed or memory ran out.
abbrev pub PutsFull : Waiting → Option (List ℕ) → Result (Unit {0}) OutletFault → Waiting → Option (List ℕ) → Type 0
PutsFull old before (Ok done) new after = WroteFull old before new after
PutsFull old before (Err why) new after = FailsFull old before why after

-- All rows that waited were written, or the writer failed or memory ran out.
abbrev pub PutsAll : Waiting → Option (List ℕ) → Result (Unit {0}) OutletFault → Waiting → Option (List ℕ) → Type 0
PutsAll old before (Ok done) new after = WroteBatches old before new after × (new.rows ≡ [])
PutsAll old before (Err why) new after = Fails old before why after

-- The batch of all rows that wait was written, and none of them waits. Or memory ran out, or the writer failed.
abbrev pub PutsOpen : Waiting → Option (List ℕ) → Result (Unit {0}) OutletFault → Waiting → Option (List ℕ) → Type 0
PutsOpen old before (Ok done) new after = (bytes : List ℕ) × GivesAll old bytes new × Appends before after bytes
PutsOpen old before (Err fault.Write) new after =
    (bytes : List ℕ) × IsBatchOf old (length old.rows) bytes × HasBegun before after bytes
PutsOpen old before (Err fault.Memory) new after = after ≡ before
PutsOpen old before (Err fault.Full) new after = ⊥

-- The first of some rows was added, after a full batch was written where that had no room for it; or the writer failed
-- or memory ran out.
abbrev pub PutsFirst : Outflow → List Row → Result (Unit {0}) OutletFault → Outflow → List Row → Type 0
PutsFirst old rows result new others =
    PutsFull (with_rows old.waits rows) old.written result (with_rows new.waits others) new.written

-- Rows were added, and full batches written, or the writer failed or memory ran out. Where there would be too many rows
-- none is added, and nothing changes.
abbrev pub PutsRows : Outflow → List Row → Result (Unit {0}) OutletFault → Outflow → Type 0
PutsRows old rows (Err fault.Full) new = IsTooMany (with_rows old.waits rows) × (new ≡ old)
PutsRows old rows result new = PutsFull (with_rows old.waits rows) old.written result new.waits new.written

-- All rows that waited were written, or the writer failed or memory ran out.
abbrev pub PutsRest : Outflow → Result (Unit {0}) OutletFault → Outflow → Type 0
PutsRest old result new = PutsAll old.waits old.written result new.waits new.written

-- ---- one batch

-- all bytes were written, or a beginning of them
abbrev pub Writes : Option (List ℕ) → Option (List ℕ) → List ℕ → Result (Unit {0}) OutletFault → Type 0
Writes before after bytes (Ok done) = Appends before after bytes
Writes before after bytes (Err why) = HasBegun before after bytes × (why ≡ fault.Write)

-- this number of the first bytes was written, or a beginning of them
abbrev pub WritesSome : Option (List ℕ) → Option (List ℕ) → List ℕ → Result ℕ OutletFault → Type 0
WritesSome before after bytes (Ok count) = (count ≤ length bytes) × Appends before after (take count bytes)
WritesSome before after bytes (Err why) = HasBegun before after bytes × (why ≡ fault.Write)
