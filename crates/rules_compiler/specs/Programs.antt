-- What a compiled program is.
use Rattle.std.specs.Prelude.{◌≡◌, ℕ, List, Result, Ok, Err, IsTrue, ⊤}
use Rattle.machine_spec.specs.declared.helper.Table.TheVariants.{Three}
use Rattle.machine_spec.specs.{Image.program_of, Machine.Input, Meaning.Means}
use Rattle.verifier_spec.specs.{StandsFor.IsInput, Loading.IsAccepted}
use Rattle.program_file.specs.{declared.file.ProgramFile.ProgramFile, Spelling.fits}
use Rattle.rules.specs.{Lines.Line, Outcomes.outcome_of_rules, Reading.rules_of}
use Rattle.rules_compiler.specs.Faults.{AreRefused}
use Rattle.rules_compiler.specs.declared.text.TextFault.{TextFault}
use Rattle.rules_compiler.specs.declared.text.TextFault.TheVariants as fault

-- An image is a program of rules by helper table 3: a load accepts it, and on each input that a broker gives it means
-- what the rules make of the input.
pub record IsProgramOf (lines : List Line) (image : List ℕ) : Type 0 where
  pub accepted : IsAccepted (program_of image Three)
  pub means : (input : Input) → IsInput input → (n : ℕ)
      × Means (program_of image Three) input (outcome_of_rules lines input) n

-- A program file is that of a text's rules: of helper table 3, and within what a file may be.
pub record IsTextProgram (text : List ℕ) (file : ProgramFile) : Type 0 where
  pub lines : List Line
  pub read : rules_of text ≡ Ok lines
  pub table : file.table ≡ 3
  pub fits : IsTrue (fits file)
  pub program : IsProgramOf lines file.image

-- A text gives this program, or is refused with the fault of its first faulty line, or with that of the first rule with
-- which its program is too long; nothing is said where memory ran out.
abbrev pub CompilesText : List ℕ → Result ProgramFile TextFault → Type 0
CompilesText text (Ok file) = IsTextProgram text file
CompilesText text (Err (fault.Line why)) = rules_of text ≡ Err why
CompilesText text (Err (fault.Rules why)) = (lines : List Line) × (rules_of text ≡ Ok lines) × AreRefused lines why
CompilesText text (Err fault.Memory) = ⊤
