-- What is explained of a program, as a text.
use Rattle.std.specs.Prelude.{◌≡◌, ◌≢◌, ◌⊎◌, ℕ, Bool, List, ◌++◌, length, Option, Some, None, Result, Ok, Err}
use Rattle.std.specs.{Global.Global, Prelude.String, Prelude.string_bytes, Prelude.if◌then◌else◌}
use Rattle.machine_spec.specs.{Image.Program, declared.instruction.IsaFault.IsaFault}
use Rattle.program_file.specs.declared.{fault.FileFault.FileFault, choice.GivenProgram.GivenProgram}
use Rattle.program_file.specs.Choice.{program_in}
use Rattle.machine_spec.specs.declared.instruction.IsaFault.TheVariants as isa
use Rattle.explain.specs.declared.{explanation.Explanation.Explanation, explanation.Diagnosis.Diagnosis, way.Coverage.Coverage}
use Rattle.explain.specs.declared.way.Coverage.TheVariants as extent
use Rattle.explain.specs.{Explanations.ExplainsAs, ImageFaults.image_fault_text}
use Rattle.klog_c.specs.declared.faults.TheConstants.{MEMORY}
use Rattle.c_outcomes.specs.{declared.numbers.TheConstants.RANGE, Outcomes.Copies}
use Rattle.klog_c.specs.{declared.object.Object.Object, Calls.Fails, Calls.Fills, Numbers.file_number}
use Rattle.klog_c.specs.declared.object.Object.TheVariants as object

-- the listed lines are the whole text where the program is accepted; else they begin it, and its refusal follows
abbrev pub Continues : List ℕ → Option Diagnosis → List ℕ → Type 0
Continues lines None text = text ≡ lines
Continues lines (Some refusal) text = (said : List ℕ) × (text ≡ lines ++ said)

-- A text ends with these lines.
abbrev pub EndsWith : List ℕ → List ℕ → Type 0
EndsWith lines text = (said : List ℕ) × (text ≡ said ++ lines)

-- the text of an explanation, or of an image without code
abbrev pub IsTextOf : List ℕ → Result Explanation IsaFault → List ℕ → Type 0
IsTextOf image (Ok explanation) text = Continues (string_bytes explanation.lines) explanation.refusal text
IsTextOf image (Err fault) text = (fault ≢ isa.Memory) × EndsWith (image_fault_text image fault) text

-- what `klog explain` prints of a program
abbrev pub IsExplained : Coverage → Program → List ℕ → Type 0
IsExplained extent program text =
    (found : Result Explanation IsaFault) × ExplainsAs extent program found × IsTextOf program.image found text

-- how much of a program is listed: the refused instruction with those on the way to it, or all
abbrev pub extent_of : Bool → Coverage
extent_of is_refused_alone = if is_refused_alone then extent.Refused else extent.All

-- the handle is filled with what is explained of the program, to an extent; or memory ran out
abbrev pub ExplainsProgram : Program → Coverage → Option Object → Option Object → ℕ → Type 0
ExplainsProgram program extent before after number =
    ((text : String Global) × IsExplained extent program (string_bytes text)
    × Fills (object.Text text) before after number)
    ⊎ Fails MEMORY before after number

-- The same of what bytes give. A program file that is refused has its fault, and MEMORY where memory ran out.
abbrev pub ExplainsGiven : Result GivenProgram FileFault → Coverage → Option Object → Option Object → ℕ → Type 0
ExplainsGiven (Ok given) extent before after number = ExplainsProgram (program_in given) extent before after number
ExplainsGiven (Err fault) extent before after number =
    Fails (file_number fault) before after number ⊎ Fails MEMORY before after number

-- The same where the number of a helper table may be out of its range.
abbrev pub Explained : Option (Result GivenProgram FileFault) → Bool → Option Object → Option Object → ℕ → Type 0
Explained None is_refused_alone before after number = Fails RANGE before after number
Explained (Some given) is_refused_alone before after number =
    ExplainsGiven given (extent_of is_refused_alone) before after number

-- the text is at the front of the buffer, where it fits, and its length is told
abbrev pub CopiesText : Result (List ℕ) ℕ → List ℕ → List ℕ → ℕ → ℕ → Type 0
CopiesText (Err fault) before after told number = (after ≡ before) × (number ≡ fault)
CopiesText (Ok text) before after told number = (told ≡ length text) × Copies text before after number
