-- What a text says: the image of its lines, or the first fault.
use Rattle.std.specs.Prelude.{ℕ, ◌+◌, ◌*◌, nat_le, if◌then◌else◌, List, [], ◌∷◌, ◌++◌, length, Option, Some, None}
use Rattle.std.specs.Prelude.{Result, Ok, Err}
use Rattle.std.specs.List.{slice_split}
use Rattle.machine_spec.specs.declared.{instruction.Instruction.Instruction, limits.TheConstants.MAX_SLOTS}
use Rattle.bpf_isa.specs.Spelling.{spelling}
use Rattle.bpf_asm.specs.declared.{fault.LineFault.LineFault, fault.AsmFault.AsmFault}
use Rattle.bpf_asm.specs.declared.fault.AsmFault.TheVariants as asm
use Rattle.bpf_asm.specs.{Faults.at_line, Reading.is_line_feed, Reading.read_line}

-- bytes before those of the lines after them, or the fault of these lines
abbrev pub before_bytes : List ℕ → Result (List ℕ) AsmFault → Result (List ℕ) AsmFault
before_bytes bytes (Ok others) = Ok (bytes ++ others)
before_bytes bytes (Err f) = Err f

-- A line after lines whose image has `size` bytes: its own bytes and those of the lines after it. An image has 8 bytes
-- a slot, and at most MAX_SLOTS slots.
abbrev pub with_line : ℕ → ℕ → Result (Option Instruction) LineFault → (ℕ → Result (List ℕ) AsmFault) →
    Result (List ℕ) AsmFault
with_line number size (Err f) later = Err (at_line number f)
with_line number size (Ok None) later = later size
with_line number size (Ok (Some i)) later =
    if nat_le (size + length (spelling i)) (8 * MAX_SLOTS) then before_bytes (spelling i)
    (later (size + length (spelling i))) else Err (asm.Size number)

-- the image of lines, the first with this number and after `size` bytes, or the fault of the lowest faulty line
abbrev pub lines_image : ℕ → ℕ → List (List ℕ) → Result (List ℕ) AsmFault
lines_image number size [] = Ok []
lines_image number size (line ∷ lines) =
    with_line number size (read_line line) (λ size. lines_image (number + 1) size lines)

-- an image of at least one slot; a text that says no instruction has the fault Size of line 1
abbrev pub some_image : Result (List ℕ) AsmFault → Result (List ℕ) AsmFault
some_image (Ok []) = Err (asm.Size 1)
some_image (Ok (byte ∷ bytes)) = Ok (byte ∷ bytes)
some_image (Err f) = Err f

-- the image that a text says, or the text's first fault; a line ends at a line feed
unfoldable pub image_of : List ℕ → Result (List ℕ) AsmFault
image_of text = some_image (lines_image 1 0 (slice_split is_line_feed text))
