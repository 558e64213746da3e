-- What `transform` writes to the files of output partitions.
use Rattle.std.specs.Prelude.{◌≡◌, ◌≢◌, ◌⊎◌, ℕ, ◌+◌, ◌-◌, ◌<◌, ◌^◌, Bool, false, List, [], length, Option, Some, Result}
use Rattle.std.specs.Prelude.{Ok, Err, ⊤, IfSome, true, nat_lt}
use Rattle.std.specs.List.{concat}
use Rattle.wire_spec.specs.{declared.record.Batch.Batch, declared.fault.BatchFault.BatchFault, BatchReading.batch_at}
use Rattle.wire_spec.specs.declared.limits.TheConstants.{TIMESTAMP_END, MAX_RECORDS}
use Rattle.machine_spec.specs.{Image.Program, declared.helper.Table.Table}
use Rattle.program_file.specs.declared.choice.GivenProgram.{GivenProgram}
use Rattle.program_file.specs.Choice.{program_in}
use Rattle.verifier_spec.specs.{Loading.IsAccepted, Loading.IsRefusedWith, declared.fault.LoadFault.LoadFault}
use Rattle.log_spec.specs.{declared.row.Row.Row, Logs.IsRowsOf}
use Rattle.batch.specs.Batches.{AreBatches}
use Rattle.batch_reader.specs.declared.reader.ReadFault.TheVariants as read
use Rattle.batch_reader.specs.Readings.{BeginsBadly}
use Rattle.transform.specs.{declared.stream.StreamFault.StreamFault, Backlogs.Waiting, Backlogs.waiting}
use Rattle.transform.specs.Streams.{is_broken}
use Rattle.transform.specs.declared.stream.StreamFault.TheVariants as fault
use Rattle.transform.specs.declared.flow.TransformFault.TheVariants as stop
use Rattle.transform.specs.declared.outlet.OutletFault.TheVariants as outlet
use Rattle.transform.specs.Outlets as outlets
use Rattle.transform.specs.Transforms.{log_of, output_at, records_of}
use Rattle.script.specs.Words.{word_at}
use Rattle.commands.specs.declared.{halts.Halt.Halt, halts.ProgramFault.ProgramFault, status.Status.Status}
use Rattle.commands.specs.declared.halts.Halt.TheVariants as halt
use Rattle.commands.specs.declared.status.Status.TheVariants.{Done, Refused, Failed}
use Rattle.commands.specs.{Files.KeepsAll, Given.GivesNamed, Listings.source_of}
use Rattle.commands.specs.Stops as stops

-- ---- what a file has

-- the rows that a program gives to an output partition of batches, one after the other: those of the log of the
-- program's mark and the batches
abbrev pub AreRows : Program → List Batch → ℕ → ℕ → List Row → Type 0
AreRows program batches outputs output rows = (name : List ℕ) (version : ℕ) →
    IsRowsOf 0 output outputs (log_of name version program batches) (1 + length batches) rows

-- A file has whole batches of the rows that a program gives to an output partition of batches, one after the other. It
-- has all of them, unless writing was broken off.
pub record HasRows (program : Program) (batches : List Batch) (outputs output : ℕ) (broken : Bool) (bytes : List ℕ)
    : Type 0 where
  pub rows : List Row
  pub are_rows : AreRows program batches outputs output rows
  pub written : List (List ℕ)
  pub rest : Waiting
  pub are_written : outlets.AreBatches (waiting 0 rows) written rest
  pub bytes_are : bytes ≡ concat written
  pub all : broken ≡ false → rest.rows ≡ []

-- a name leads to no output partition's file; the names of these are the words from the third on
abbrev pub IsNoOutput : (leads : List ℕ → List ℕ) → List (List ℕ) → List ℕ → Type 0
IsNoOutput leads names other = (output : ℕ) → output + 2 < length names →
    leads other ≢ leads (word_at names (output + 2))

-- all files but those of the output partitions have the bytes that they had
abbrev pub KeepsOthers : (leads : List ℕ → List ℕ) → List (List ℕ) → (before after : List ℕ → Option (List ℕ)) →
    Type 0
KeepsOthers leads names before after = (other : List ℕ) → IsNoOutput leads names other → after other ≡ before other

-- the name of a word leads to another file than each word before it
abbrev pub IsApart : (leads : List ℕ → List ℕ) → List (List ℕ) → ℕ → Type 0
IsApart leads names word = (earlier : ℕ) → earlier < word →
    leads (word_at names word) ≢ leads (word_at names earlier)

-- each output partition has a file of its own, which is neither the image nor the file of the batches
abbrev pub AreApart : (leads : List ℕ → List ℕ) → List (List ℕ) → Type 0
AreApart leads names = (output : ℕ) → output + 2 < length names → IsApart leads names (output + 2)

-- one batch more might reach the offset 2^62, and the bytes begin with one
abbrev pub IsAtLimit : List Batch → List ℕ → Type 0
IsAtLimit batches rest = (TIMESTAMP_END < records_of batches + MAX_RECORDS) × (batch : Batch) × (used : ℕ)
    × (batch_at rest ≡ Ok (batch, used))

-- a program gives an output partition more rows than there are offsets
abbrev pub Overfills : Program → List Batch → ℕ → ℕ → Type 0
Overfills program batches outputs output = (output < outputs) × (rows : List Row)
    × AreRows program batches outputs output rows × (2 ^ 63 < length rows)

-- Why a program is run on no more batches, at the bytes that are left: none are; or they begin with no batch, and why;
-- or offsets are used up, those of the input partition or of an output partition. Nothing is said where a file or
-- memory failed.
abbrev pub EndsAt : Program → List Batch → ℕ → Result (Unit {0}) StreamFault → List ℕ → Type 0
EndsAt program batches outputs (Ok done) rest = rest ≡ []
EndsAt program batches outputs (Err (fault.Read (read.Batch why))) rest = BeginsBadly (Some rest) why
EndsAt program batches outputs (Err (fault.Read read.Read)) rest = ⊤
EndsAt program batches outputs (Err (fault.Read read.Memory)) rest = ⊤
EndsAt program batches outputs (Err (fault.Transform stop.Full)) rest = IsAtLimit batches rest
EndsAt program batches outputs (Err (fault.Transform stop.Memory)) rest = ⊤
EndsAt program batches outputs (Err (fault.Transform (stop.Output output outlet.Full))) rest =
    Overfills program batches outputs output
EndsAt program batches outputs (Err (fault.Transform (stop.Output output outlet.Memory))) rest = ⊤
EndsAt program batches outputs (Err (fault.Transform (stop.Output output outlet.Write))) rest = ⊤

-- A program was run on the batches that bytes begin with, up to their end or to a fault, and the files of the output
-- partitions have their rows.
pub record Transformed (program : Program) (bytes : List ℕ) (outputs : ℕ) (result : Result (Unit {0}) StreamFault)
    (files : ℕ → Option (List ℕ)) : Type 0 where
  pub batches : List Batch
  pub rest : List ℕ
  pub begin : AreBatches bytes batches rest
  pub ends : EndsAt program batches outputs result rest
  pub each : (output : ℕ) → output < outputs →
      IfSome (files output) (HasRows program batches outputs output (is_broken result))

-- ---- the status

-- the status of bytes that begin with no batch, which is that of a script's line with them
abbrev pub status_of_batch : BatchFault → Status
status_of_batch why = stops.status_of (stops.stop_of_fault why)

-- the status of a transform that ends so: `Refused` at bytes that begin with no batch, and where offsets are used up
abbrev pub status_of : Result (Unit {0}) StreamFault → Status
status_of (Ok done) = Done
status_of (Err (fault.Read (read.Batch why))) = status_of_batch why
status_of (Err (fault.Read read.Read)) = Failed
status_of (Err (fault.Read read.Memory)) = Failed
status_of (Err (fault.Transform stop.Full)) = Refused
status_of (Err (fault.Transform stop.Memory)) = Failed
status_of (Err (fault.Transform (stop.Output output outlet.Full))) = Refused
status_of (Err (fault.Transform (stop.Output output outlet.Memory))) = Failed
status_of (Err (fault.Transform (stop.Output output outlet.Write))) = Failed

-- whether rows are kept: unless the writer of an output partition failed, or memory ran out
abbrev pub keeps_rows : Result (Unit {0}) StreamFault → Bool
keeps_rows (Ok done) = true
keeps_rows (Err (fault.Read why)) = true
keeps_rows (Err (fault.Transform stop.Full)) = true
keeps_rows (Err (fault.Transform stop.Memory)) = false
keeps_rows (Err (fault.Transform (stop.Output output outlet.Full))) = true
keeps_rows (Err (fault.Transform (stop.Output output outlet.Memory))) = false
keeps_rows (Err (fault.Transform (stop.Output output outlet.Write))) = false

-- the status by what is reported
abbrev pub status_of_halt : Halt → Status
status_of_halt (halt.Image _ _) = Refused
status_of_halt (halt.Program _) = Refused
status_of_halt (halt.Batch _) = Refused
status_of_halt halt.Full = Refused
status_of_halt (halt.File _) = Failed
status_of_halt halt.Memory = Failed

-- the status of a call that ends so
abbrev pub status_of_ended : Result (Unit {0}) Halt → Status
status_of_ended (Ok done) = Done
status_of_ended (Err halted) = status_of_halt halted

-- A transform of known bytes ends with this status: all was done, or the bytes before a fault were transformed; or it
-- is `Failed`, where a file or memory failed.
abbrev pub StreamsAs : Program → List ℕ → ℕ → Status → (ℕ → Option (List ℕ)) → Type 0
StreamsAs program bytes outputs status files = (status ≡ Failed) ⊎ ((result : Result (Unit {0}) StreamFault)
    × (status ≡ status_of result) × Transformed program bytes outputs result files)

-- A file has what it had, or whole batches of the rows that a program gives to an output partition of the batches that
-- bytes begin with.
abbrev pub IsOldOrWritten : Program → List ℕ → (outputs output : ℕ) → (before after : Option (List ℕ)) → Type 0
IsOldOrWritten program bytes outputs output before after = (after ≡ before) ⊎ ((batches : List Batch) × (rest : List ℕ)
    × (broken : Bool) × AreBatches bytes batches rest × IfSome after (HasRows program batches outputs output broken))

-- however a transform of known bytes ends, this holds of each output partition's file
abbrev pub Leaves : Program → List ℕ → List (List ℕ) → (before after : List ℕ → Option (List ℕ)) → Type 0
Leaves program bytes names before after = (output : ℕ) → output + 2 < length names →
    IsOldOrWritten program bytes (length names - 2) output (before (word_at names (output + 2)))
    (after (word_at names (output + 2)))

-- what a transform of known bytes does to files, and its status
abbrev pub Streams : Program → List ℕ → List (List ℕ) → Status → (before after : List ℕ → Option (List ℕ)) → Type 0
Streams program bytes names status before after =
    StreamsAs program bytes (length names - 2) status (λ output. after (word_at names (output + 2)))
    × Leaves program bytes names before after

-- The same of a program that may be refused.
abbrev pub TransformsAs : Program → List ℕ → ℕ → Status → (ℕ → Option (List ℕ)) → Type 0
TransformsAs program bytes outputs status files =
    ((fault : LoadFault) × IsRefusedWith program fault × (status ≡ Refused))
    ⊎ StreamsAs program bytes outputs status files

-- The same of what a file gives.
abbrev pub TransformsSaid : Result GivenProgram ProgramFault → List ℕ → ℕ → Status → (ℕ → Option (List ℕ)) → Type 0
TransformsSaid (Ok given) bytes outputs status files = TransformsAs (program_in given) bytes outputs status files
TransformsSaid (Err fault) bytes outputs status files = status ≡ Refused

-- The same of what a file may give; or the status is `Failed`, where a file or memory failed.
abbrev pub TransformsGiven : (Result GivenProgram ProgramFault → Type 0) → List ℕ → ℕ → Status →
    (ℕ → Option (List ℕ)) → Type 0
TransformsGiven Gives bytes outputs status files = (status ≡ Failed)
    ⊎ ((said : Result GivenProgram ProgramFault) × Gives said × TransformsSaid said bytes outputs status files)

-- What a call does whose words name a program, a file of batches and a file for each output partition, and perhaps a
-- helper table: files had these bytes before and have those after, and standard input these.
abbrev pub CallWrites : Option Table → List (List ℕ) → Option (List ℕ) → (List ℕ → Option (List ℕ)) →
    (List ℕ → Option (List ℕ)) → Status → Type 0
CallWrites named names stdin before after status = (image bytes : List ℕ) → before (word_at names 0) ≡ Some image →
    source_of (word_at names 1) stdin (before (word_at names 1)) ≡ Some bytes →
    TransformsGiven (GivesNamed (word_at names 0) named image) bytes (length names - 2) status
    (λ output. after (word_at names (output + 2)))

-- However a transform by what a file may give ends, each output partition's file has what it had; or the file gives a
-- program, by which this holds of each of them.
abbrev pub LeavesGiven : (Result GivenProgram ProgramFault → Type 0) → List ℕ → List (List ℕ) →
    (before after : List ℕ → Option (List ℕ)) → Type 0
LeavesGiven Gives bytes names before after =
    ((output : ℕ) → output + 2 < length names →
    after (word_at names (output + 2)) ≡ before (word_at names (output + 2)))
    ⊎ ((given : GivenProgram) × Gives (Ok given) × Leaves (program_in given) bytes names before after)

-- however such a call ends, each output partition's file has what it had or whole batches of its rows
abbrev pub CallLeaves : Option Table → List (List ℕ) → Option (List ℕ) → (List ℕ → Option (List ℕ)) →
    (List ℕ → Option (List ℕ)) → Type 0
CallLeaves named names stdin before after = (image bytes : List ℕ) → before (word_at names 0) ≡ Some image →
    source_of (word_at names 1) stdin (before (word_at names 1)) ≡ Some bytes →
    LeavesGiven (GivesNamed (word_at names 0) named image) bytes names before after

-- the program's file and that of the batches have the bytes that they had
abbrev pub KeepsSources : List (List ℕ) → (before after : List ℕ → Option (List ℕ)) → Type 0
KeepsSources names before after = (word : ℕ) → word < 2 → after (word_at names word) ≡ before (word_at names word)

-- All files have the bytes that they had, or each output partition has a file of its own.
abbrev pub KeepsOrParts : (leads : List ℕ → List ℕ) → List (List ℕ) → (before after : List ℕ → Option (List ℕ)) →
    Type 0
KeepsOrParts leads names before after = KeepsAll before after ⊎ AreApart leads names

-- all files have the bytes that they had, unless that of the first word gives a program that is accepted
abbrev pub KeepsUnlessAccepted : Option Table → List (List ℕ) → (before after : List ℕ → Option (List ℕ)) → Type 0
KeepsUnlessAccepted named names before after = (image : List ℕ) → before (word_at names 0) ≡ Some image →
    KeepsAll before after ⊎ ((given : GivenProgram) × GivesNamed (word_at names 0) named image (Ok given)
    × IsAccepted (program_in given))

-- ---- on the way

-- whether a transform ends after its program was read, or since memory ran out; else its program is refused or can't be
-- read, whose word is the first
abbrev pub is_after_image : Halt → Bool
is_after_image (halt.Image fault text) = false
is_after_image (halt.Program fault) = false
is_after_image (halt.Batch refusal) = true
is_after_image halt.Full = true
is_after_image (halt.File word) = nat_lt 0 word
is_after_image halt.Memory = true

-- why an image has no program: it is refused, or it couldn't be read
abbrev pub IsUnloaded : Program → Halt → Type 0
IsUnloaded program (halt.Image fault text) = IsRefusedWith program fault
IsUnloaded program (halt.Program fault) = ⊥
IsUnloaded program (halt.File word) = ⊤
IsUnloaded program halt.Memory = ⊤
IsUnloaded program (halt.Batch refusal) = ⊥
IsUnloaded program halt.Full = ⊥

-- the program that was asked for, which is accepted, or why there is none
abbrev pub IsLoaded : Program → Result Program Halt → Type 0
IsLoaded asked (Ok program) = (program ≡ asked) × IsAccepted asked
IsLoaded asked (Err halted) = IsUnloaded asked halted

-- a file can't be read, or memory ran out
abbrev pub IsUnread : Halt → Type 0
IsUnread (halt.Program fault) = ⊥
IsUnread (halt.File word) = ⊤
IsUnread halt.Memory = ⊤
IsUnread (halt.Image fault text) = ⊥
IsUnread (halt.Batch refusal) = ⊥
IsUnread halt.Full = ⊥

-- Why a transform ends whose file gives no program. Nothing is said where it can't be read, or memory ran out.
abbrev pub IsUngiven : (Result GivenProgram ProgramFault → Type 0) → Halt → Type 0
IsUngiven Gives (halt.Program fault) = Gives (Err fault)
IsUngiven Gives (halt.File word) = ⊤
IsUngiven Gives halt.Memory = ⊤
IsUngiven Gives (halt.Image fault text) = ⊥
IsUngiven Gives (halt.Batch refusal) = ⊥
IsUngiven Gives halt.Full = ⊥

-- the program that a file gives, or why a transform ends without one
abbrev pub IsGivenTo : (Result GivenProgram ProgramFault → Type 0) → Result GivenProgram Halt → Type 0
IsGivenTo Gives (Ok given) = Gives (Ok given)
IsGivenTo Gives (Err halted) = IsUngiven Gives halted

-- the program that a file gives is loaded, or it is known why none is
abbrev pub LoadsGiven : (Result GivenProgram ProgramFault → Type 0) → Result Program Halt → Type 0
LoadsGiven Gives (Ok program) = (given : GivenProgram) × Gives (Ok given) × IsLoaded (program_in given) (Ok program)
LoadsGiven Gives (Err halted) = IsUngiven Gives halted
    ⊎ ((given : GivenProgram) × Gives (Ok given) × IsUnloaded (program_in given) halted)

-- an output partition before its first row, whose writer tells that it has nothing
abbrev pub IsFresh : outlets.Outflow → Type 0
IsFresh o = o ≡ outlets.outflow (Some []) (waiting 0 [])

-- a file has what an output partition's writer had, where both are known
abbrev pub HasWritten : outlets.Outflow → Option (List ℕ) → Type 0
HasWritten o file = (held : List ℕ) → o.written ≡ Some held → IfSome file (λ known. known ≡ held)

-- the files of the first output partitions have what their writers had; the names of the files are the words from the
-- third on
abbrev pub HaveWritten : List (List ℕ) → List outlets.Outflow → (List ℕ → Option (List ℕ)) → Type 0
HaveWritten names outputs files = (output : ℕ) → output < length outputs → output + 2 < length names →
    HasWritten (output_at outputs output) (files (word_at names (output + 2)))

-- each of these files has what it had, or what its writer had
abbrev pub AreOldOrWritten : List (List ℕ) → List outlets.Outflow → (before after : List ℕ → Option (List ℕ)) → Type 0
AreOldOrWritten names outputs before after = (output : ℕ) → output < length outputs → output + 2 < length names →
    (after (word_at names (output + 2)) ≡ before (word_at names (output + 2)))
    ⊎ HasWritten (output_at outputs output) (after (word_at names (output + 2)))

-- How the files of a stream are ended: each has what it had or what its writer had, and where rows aren't kept, all
-- have what they had.
abbrev pub EndsFiles : List (List ℕ) → Result (Unit {0}) StreamFault → List outlets.Outflow →
    (before after : List ℕ → Option (List ℕ)) → Type 0
EndsFiles names ended outputs before after = KeepsAll before after
    ⊎ ((keeps_rows ended ≡ true) × AreOldOrWritten names outputs before after)

-- what one output partition's writer had another one's has
abbrev pub HasSame : (one other : outlets.Outflow) → Type 0
HasSame one other = (held : List ℕ) → one.written ≡ Some held → other.written ≡ Some held

-- the same of each of these
abbrev pub HaveSame : (ones others : List outlets.Outflow) → Type 0
HaveSame ones others = (length others ≡ length ones)
    × ((output : ℕ) → output < length ones → HasSame (output_at ones output) (output_at others output))
