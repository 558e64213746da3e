-- What calls do with the program that a file or a line gives.
use Rattle.std.specs.Prelude.{◌≡◌, ◌≢◌, ◌⊎◌, ◌==◌, ℕ, Bool, true, false, List, Option, Some, Result, Ok, Err, ⊤, codes}
use Rattle.std.specs.List.{ends_with}
use Rattle.machine_spec.specs.declared.helper.Table.{Table}
use Rattle.program_file.specs.declared.{fault.FileFault.FileFault, choice.GivenProgram.GivenProgram}
use Rattle.program_file.specs.Choice.{given_program}
use Rattle.rules_compiler.specs.Programs.{CompilesText}
use Rattle.rules_compiler.specs.declared.text.TextFault.TheVariants as text
use Rattle.script.specs.declared.command.FileWord.{FileWord}
use Rattle.script.specs.declared.command.FileWord.TheVariants.{Line, File}
use Rattle.commands.specs.declared.{given.Ungiven.Ungiven, halts.ProgramFault.ProgramFault, status.Status.Status}
use Rattle.commands.specs.declared.given.Ungiven.TheVariants as ungiven
use Rattle.commands.specs.declared.halts.ProgramFault.TheVariants as program
use Rattle.commands.specs.declared.status.Status.TheVariants as exit
use Rattle.commands.specs.{Compiled.IsFileOf, Images.first_bytes}

-- the bytes of a program: those in a line, or the first ones of a file, where they are known
abbrev pub AreBytesIn : (List ℕ → Option (List ℕ)) → FileWord → List ℕ → Type 0
AreBytesIn files (Line known) bytes = bytes ≡ known
AreBytesIn files (File name) bytes = (known : List ℕ) → files name ≡ Some known → bytes ≡ first_bytes known

-- these bytes give this program, by the helper table that is named, if one is; or this is why they give none
abbrev pub Gives : (List ℕ → Option (List ℕ)) → FileWord → Option Table → Result GivenProgram FileFault → Type 0
Gives files source named given = (bytes : List ℕ) × AreBytesIn files source bytes × (given_program named bytes ≡ given)

-- A file gives this program, or it is known why it gives none. Nothing is said where it can't be read, or memory ran
-- out.
abbrev pub IsGiven : (List ℕ → Option (List ℕ)) → List ℕ → Option Table → Result GivenProgram Ungiven → Type 0
IsGiven files name named (Ok given) = Gives files (File name) named (Ok given)
IsGiven files name named (Err (ungiven.File fault)) = Gives files (File name) named (Err fault)
IsGiven files name named (Err (ungiven.Unread cause)) = ⊤

-- The same of bytes.
abbrev pub IsGivenBy : Result GivenProgram FileFault → Result GivenProgram Ungiven → Type 0
IsGivenBy said (Ok given) = said ≡ Ok given
IsGivenBy said (Err (ungiven.File fault)) = said ≡ Err fault
IsGivenBy said (Err (ungiven.Unread cause)) = ⊤

-- ---- what a file gives a transform

-- bytes of an image or a program file give this, by the helper table that is named, if one is
abbrev pub GivesBytes : Option Table → List ℕ → Result GivenProgram ProgramFault → Type 0
GivesBytes named bytes (Ok given) = given_program named bytes ≡ Ok given
GivesBytes named bytes (Err (program.File why)) = given_program named bytes ≡ Err why
GivesBytes named bytes (Err (program.Rules why)) = ⊥

-- a text of rules gives what the bytes of its program file do
abbrev pub GivesFileOf : Option Table → List ℕ → Result GivenProgram ProgramFault → Type 0
GivesFileOf named text said = (bytes : List ℕ) × IsFileOf text bytes × GivesBytes named bytes said

-- The same, or the text is refused.
abbrev pub GivesText : Option Table → List ℕ → Result GivenProgram ProgramFault → Type 0
GivesText named source (Ok given) = GivesFileOf named source (Ok given)
GivesText named source (Err (program.File why)) = GivesFileOf named source (Err (program.File why))
GivesText named source (Err (program.Rules why)) = (why ≢ text.Memory) × CompilesText source (Err why)

-- a name says that its file has a text of rules: it ends in `.rules`
abbrev pub is_rules_name : List ℕ → Bool
is_rules_name name = ends_with (λ a b. a == b) name (codes ".rules")

-- a file that has a text of rules, or else an image or a program file, gives this; of these the first bytes are read
abbrev pub GivesAs : (is_rules : Bool) → Option Table → List ℕ → Result GivenProgram ProgramFault → Type 0
GivesAs true named bytes said = GivesText named bytes said
GivesAs false named bytes said = GivesBytes named (first_bytes bytes) said

-- a file with this name and these bytes gives this
abbrev pub GivesNamed : (name : List ℕ) → Option Table → List ℕ → Result GivenProgram ProgramFault → Type 0
GivesNamed name named bytes said = GivesAs (is_rules_name name) named bytes said

-- ---- what is said of it

-- the status by which a file that gives no program is reported
abbrev pub IsTold : Ungiven → Status → Type 0
IsTold (ungiven.File fault) status = (status ≡ exit.Refused) ⊎ (status ≡ exit.Failed)
IsTold (ungiven.Unread cause) status = status ≡ exit.Failed

-- A call does this with the program that a file gives. Where the file is refused, the status says so, and standard
-- output gets nothing.
abbrev pub DoesGiven : Result GivenProgram FileFault →
    (GivenProgram → Status → Option (List ℕ) → Option (List ℕ) → Type 0) → Status → (before after : Option (List ℕ)) →
    Type 0
DoesGiven (Ok given) Does status before after = Does given status before after
DoesGiven (Err fault) Does status before after = (status ≡ exit.Refused) × (after ≡ before)

-- The same of a call that ends with `Failed` where a file, standard output or memory failed.
abbrev pub OfGiven : Result GivenProgram FileFault →
    (GivenProgram → Status → Option (List ℕ) → Option (List ℕ) → Type 0) → Status → (before after : Option (List ℕ)) →
    Type 0
OfGiven given Does status before after = (status ≡ exit.Failed) ⊎ DoesGiven given Does status before after
