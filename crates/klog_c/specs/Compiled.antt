-- What a call that compiles a text of rules answers.
use Rattle.std.specs.Prelude.{◌≡◌, ◌≢◌, ◌⊎◌, ℕ, List, Option, Some, None, Err}
use Rattle.program_file.specs.{declared.file.ProgramFile.ProgramFile, Spelling.spelling}
use Rattle.rules.specs.{declared.fault.Spot.Spot, Faults.spot_of}
use Rattle.rules_compiler.specs.{declared.text.TextFault.TextFault, Programs.IsTextProgram, Programs.CompilesText}
use Rattle.rules_compiler.specs.declared.text.TextFault.TheVariants as text
use Rattle.klog_c.specs.{declared.compiling.RuleSpot.RuleSpot, declared.faults.TheConstants.MEMORY}
use Rattle.klog_c.specs.{Numbers.compile_told, Numbers.text_number, Texts.Writes}

-- where a line of rules can't go on; zeros where it is not known
abbrev pub line_spot : Option Spot → RuleSpot
line_spot (Some spot) = record { line = spot.line; column = spot.column; rule = 0 }
line_spot None = record { line = 0; column = 0; rule = 0 }

-- where a text of rules is faulty: in a line, or a whole rule
abbrev pub spot_told : TextFault → RuleSpot
spot_told (text.Line fault) = line_spot (spot_of fault)
spot_told (text.Rules fault) = record { line = 0; column = 0; rule = (compile_told fault).1 }
spot_told text.Memory = line_spot None

-- The bytes of the text's program file are at the front of the buffer, if they fit, and their length is told; or memory
-- ran out.
pub record WritesProgram (text before after : List ℕ) (length_before length_after number : ℕ) : Type 0 where
  pub file : ProgramFile
  pub of_text : IsTextProgram text file
  pub written : Writes (spelling file) before after length_before length_after number

-- The text is refused: the number, which is not that of memory, and the spot are those of its fault.
pub record RefusesText (text : List ℕ) (spot : RuleSpot) (number : ℕ) : Type 0 where
  pub why : TextFault
  pub is_refused : CompilesText text (Err why)
  pub not_memory : number ≢ MEMORY
  pub number_is : number ≡ text_number why
  pub spot_is : spot ≡ spot_told why

-- The buffer, the length and the spot after a text was compiled, and the number that is returned: the program file was
-- made; or memory ran out, or the text is refused. A refusal of the text alone has a spot; else that is as it was.
abbrev pub Compiles : (text before after : List ℕ) → (length_before length_after : ℕ) →
    (spot_before spot : RuleSpot) → (number : ℕ) → Type 0
Compiles text before after length_before length_after spot_before spot number =
    (WritesProgram text before after length_before length_after number × (spot ≡ spot_before))
    ⊎ ((after ≡ before) × (length_after ≡ length_before)
    × (((number ≡ MEMORY) × (spot ≡ spot_before)) ⊎ RefusesText text spot number))
