-- What `recheck` says of the programs that a list names.
use Rattle.std.specs.Prelude.{◌≡◌, ℕ, ◌+◌, ◌-◌, Bool, true, false, ◌&&◌, ◌==◌, ◌⊎◌, if◌then◌else◌, List, [], ◌∷◌, ◌++◌}
use Rattle.std.specs.Prelude.{length, take, Option, Some, None, Result, Ok, Err, ⊤, codes}
use Rattle.std.specs.List.{AllZip, flat_map, list_any, slice_split}
use Rattle.std.specs.{Result.is_err, Str.bytes_eq, Io.KnownBytes.Appends}
use Rattle.machine_spec.specs.declared.helper.Table.{Table}
use Rattle.program_file.specs.declared.{fault.FileFault.FileFault, choice.GivenProgram.GivenProgram}
use Rattle.program_file.specs.Choice.{given_program, program_in}
use Rattle.verifier_spec.specs.{Loading.IsAccepted, Loading.IsRefusedWith, declared.fault.LoadFault.LoadFault}
use Rattle.script.specs.{declared.command.FileWord.TheVariants.File, declared.fault.ScriptFault.TheVariants.Syntax}
use Rattle.script.specs.{Words.words_of, Words.word_at}
use Rattle.commands.specs.declared.{given.Ungiven.Ungiven, run.Ended.Ended, stop.Stop.Stop, status.Status.Status}
use Rattle.commands.specs.declared.given.Ungiven.TheVariants as ungiven
use Rattle.commands.specs.declared.status.Status.TheVariants.{Done, Refused, Failed}
use Rattle.commands.specs.declared.stop.Stop.TheVariants as stop
use Rattle.commands.specs.{Appends.Prints, Given.AreBytesIn, Images.accepted_line, Stops.IsUnwritten, Stops.status_of}

-- ---- the lines of a list

-- pieces without the last, if that is empty
abbrev pub without_end : List (List ℕ) → List (List ℕ)
without_end pieces =
    if length (word_at pieces (length pieces - 1)) == 0 then take (length pieces - 1) pieces else pieces

-- the lines of a list; each ends with a line feed, which the last may lack
abbrev pub lines_of : List ℕ → List (List ℕ)
lines_of list = without_end (slice_split (λ b. b == 10) list)

-- the helper table that a line's words name: the second where `2` follows the name of a file, and none where nothing
-- does; other words name no program
abbrev pub table_of : List (List ℕ) → Option (Option Table)
table_of words =
    if length (word_at words 0) == 0 then None else if length words == 1 then Some None else
    if length words == 2 && bytes_eq (word_at words 1) (codes "2") then Some (Some Table.Two) else None

-- a line names the file of a program, and perhaps a helper table
pub record NamesProgram (line file : List ℕ) (named : Option Table) : Type 0 where
  pub file_is : word_at (words_of line) 0 ≡ file
  pub table_is : table_of (words_of line) ≡ Some named

-- ---- what is told of a program

-- A program is accepted, and its code has so many instructions, or it is refused with its fault. A program file that is
-- refused as such has no program, and so no fault of one.
abbrev pub IsVerdict : Result GivenProgram FileFault → Result ℕ (Option LoadFault) → Type 0
IsVerdict (Ok given) (Ok count) = (accepted : IsAccepted (program_in given)) × (length accepted.code ≡ count)
IsVerdict (Ok given) (Err (Some fault)) = IsRefusedWith (program_in given) fault
IsVerdict (Ok given) (Err None) = ⊥
IsVerdict (Err fault) (Err None) = ⊤
IsVerdict (Err fault) (Err (Some other)) = ⊥
IsVerdict (Err fault) (Ok count) = ⊥

-- what standard output gets of a verdict: `FILE accepted N instructions`; a fault goes to standard error
abbrev pub verdict_line : List ℕ → Result ℕ (Option LoadFault) → List ℕ
verdict_line file (Ok count) = file ++ (32 ∷ accepted_line count)
verdict_line file (Err fault) = []

-- what was told of a line: the name of a file, the helper table that was named, if one was, the bytes of the program,
-- and the verdict
pub record Told : Type 0 where
  pub file : List ℕ
  pub named : Option Table
  pub bytes : List ℕ
  pub verdict : Result ℕ (Option LoadFault)

-- this was told of a line, by what is known of files
pub record IsTold (files : List ℕ → Option (List ℕ)) (line : List ℕ) (told : Told) : Type 0 where
  pub names : NamesProgram line told.file told.named
  pub bytes_are : AreBytesIn files (File told.file) told.bytes
  pub verdict : IsVerdict (given_program told.named told.bytes) told.verdict

-- What is told of a program of a file, answered by whether it is refused, or by why nothing could be told. Nothing is
-- said of what was printed where standard output or memory failed.
abbrev pub ProgramTells : List ℕ → Result GivenProgram FileFault → Option (List ℕ) → Option (List ℕ) →
    Result Bool Stop → Type 0
ProgramTells file given before after (Ok refused) = (verdict : Result ℕ (Option LoadFault)) × IsVerdict given verdict
    × (refused ≡ is_err verdict) × Appends before after (verdict_line file verdict)
ProgramTells file given before after (Err reason) = IsUnwritten reason

-- How a line ends whose file gives no program: it is refused, or it can't be read. Nothing is said where standard
-- output or memory failed.
abbrev pub RefusesFile : List ℕ → Ungiven → Result Bool Stop → Type 0
RefusesFile file (ungiven.File fault) (Ok refused) = refused ≡ true
RefusesFile file (ungiven.File fault) (Err reason) = IsUnwritten reason
RefusesFile file (ungiven.Unread cause) (Ok refused) = ⊥
RefusesFile file (ungiven.Unread cause) (Err reason) = (reason ≡ stop.Memory) ⊎ (reason ≡ stop.File file)

-- what standard output gets of all that was told
abbrev pub told_lines : List Told → List ℕ
told_lines all = flat_map (λ told. verdict_line told.file told.verdict) all

-- one of the programs was refused
abbrev pub has_refused : List Told → Bool
has_refused all = list_any (λ told. is_err told.verdict) all

-- ---- how a list ends

-- Why nothing is told of a line: it names no program, or its file can't be read. Nothing is said where standard output
-- or memory failed.
abbrev pub StopsAt : List ℕ → Stop → Type 0
StopsAt line (stop.Line fault) = (table_of (words_of line) ≡ None) × (fault ≡ Syntax)
StopsAt line (stop.File name) = (named : Option Table) × NamesProgram line name named
StopsAt line stop.Output = ⊤
StopsAt line stop.Memory = ⊤
StopsAt line (stop.Program fault) = ⊥
StopsAt line (stop.Broker fault) = ⊥
StopsAt line (stop.Batch fault) = ⊥
StopsAt line stop.Thread = ⊥

-- What a line does: something is told of its program, or it stops the list and nothing is printed.
abbrev pub LineTells : (List ℕ → Option (List ℕ)) → List ℕ → Option (List ℕ) → Option (List ℕ) → Result Bool Stop →
    Type 0
LineTells files line before after (Ok refused) = (told : Told) × IsTold files line told
    × (refused ≡ is_err told.verdict) × Appends before after (verdict_line told.file told.verdict)
LineTells files line before after (Err reason) = StopsAt line reason × Prints before after [] (Err reason)

-- How a list ends where this was told and these lines are left: none is left, and it is known whether a program was
-- refused; or the first of them stops it, and its number, from 1, is known. Nothing is said where memory ran out before
-- the first line.
abbrev pub ListEnds : List (List ℕ) → List Told → Result Bool Ended → Type 0
ListEnds rest told (Ok refused) = (rest ≡ []) × (refused ≡ has_refused told)
ListEnds rest told (Err ended) = (ended.stop ≡ stop.Memory) ⊎ ((line : List ℕ) × (others : List (List ℕ))
    × (rest ≡ line ∷ others) × (ended.line ≡ length told + 1) × StopsAt line ended.stop)

-- the reason that stopped a list, if one did
abbrev pub stop_of : Result Bool Ended → Result ⊤ Stop
stop_of (Ok refused) = Ok tt
stop_of (Err ended) = Err ended.stop

-- the programs of the first lines of a list were verified in order, also those after a refused one, and standard output
-- got a line of each that was accepted
pub record Rechecks (files : List ℕ → Option (List ℕ)) (lines : List (List ℕ)) (before after : Option (List ℕ))
    (result : Result Bool Ended) : Type 0 where
  pub done : List (List ℕ)
  pub rest : List (List ℕ)
  pub lines_are : lines ≡ done ++ rest
  pub told : List Told
  pub are_told : AllZip (IsTold files) done told
  pub ends : ListEnds rest told result
  pub printed : Prints before after (told_lines told) (stop_of result)

-- the status of a list: refused where a program was or a line names none, done where all were accepted, failed where a
-- file, standard output or memory did
abbrev pub status_of_list : Result Bool Ended → Status
status_of_list (Ok false) = Done
status_of_list (Ok true) = Refused
status_of_list (Err ended) = status_of ended.stop

-- A call that rechecks the programs of a list ends with this status. The list may be one that could not be read, and
-- then nothing was printed. Where there is no memory to say why a list was stopped, the status is `Failed`.
abbrev pub RechecksAs : (List ℕ → Option (List ℕ)) → List ℕ → Status → Option (List ℕ) → Option (List ℕ) → Type 0
RechecksAs files list status before after = ((status ≡ Failed) × (after ≡ before))
    ⊎ ((result : Result Bool Ended) × Rechecks files (lines_of list) before after result
    × ((status ≡ status_of_list result) ⊎ (status ≡ Failed)))
