-- What `rule` does with a text of rules.
use Rattle.std.specs.Prelude.{◌≡◌, ◌⊎◌, ℕ, List, Option, Err, IfSome}
use Rattle.program_file.specs.{declared.file.ProgramFile.ProgramFile, Spelling.spelling}
use Rattle.rules_compiler.specs.Programs.{IsTextProgram, CompilesText}
use Rattle.rules_compiler.specs.declared.text.TextFault.{TextFault}
use Rattle.rules_compiler.specs.declared.text.TextFault.TheVariants as fault
use Rattle.commands.specs.declared.status.Status.{Status}
use Rattle.commands.specs.declared.status.Status.TheVariants as exit

-- the status of a text of rules that gives no program
abbrev pub status_of_text : TextFault → Status
status_of_text (fault.Line why) = exit.Refused
status_of_text (fault.Rules why) = exit.Refused
status_of_text fault.Memory = exit.Failed

-- bytes are those of the program file of a text's rules
pub record IsFileOf (text bytes : List ℕ) : Type 0 where
  pub file : ProgramFile
  pub of_text : IsTextProgram text file
  pub bytes_are : bytes ≡ spelling file

-- A call that writes bytes to a file ends with this status: the file has them, or a file or memory failed.
abbrev pub WritesFile : List ℕ → Status → (after : Option (List ℕ)) → Type 0
WritesFile bytes status after =
    (status ≡ exit.Failed) ⊎ ((status ≡ exit.Done) × IfSome after (λ known. known ≡ bytes))

-- the program of a text's rules was written
pub record HasProgram (text : List ℕ) (status : Status) (after : Option (List ℕ)) : Type 0 where
  pub file : ProgramFile
  pub of_text : IsTextProgram text file
  pub status_is : status ≡ exit.Done
  pub written : IfSome after (λ bytes. bytes ≡ spelling file)

-- a text was refused with its fault, and the file has what it had
pub record IsRefused (text : List ℕ) (status : Status) (before after : Option (List ℕ)) : Type 0 where
  pub why : TextFault
  pub of_text : CompilesText text (Err why)
  pub status_is : status ≡ status_of_text why
  pub kept : after ≡ before

-- A call that writes the program of a text's rules ends with this status: the file has the program, or the text's fault
-- was reported, unless a file or memory failed.
abbrev pub WritesProgram : List ℕ → Status → (before after : Option (List ℕ)) → Type 0
WritesProgram text status before after =
    (status ≡ exit.Failed) ⊎ (HasProgram text status after ⊎ IsRefused text status before after)
