-- The instructions that a text says, and those that its image decodes to.
use Rattle.std.specs.Prelude.{ℕ, List, map, filter_map, Option, None, Result, Ok, Err}
use Rattle.std.specs.List.{slice_split}
use Rattle.machine_spec.specs.{declared.instruction.Instruction.Instruction, declared.instruction.Placed.Placed}
use Rattle.machine_spec.specs.{declared.instruction.IsaFault.IsaFault, Image.read_image}
use Rattle.bpf_asm.specs.{declared.fault.LineFault.LineFault, Reading.is_line_feed, Reading.read_line}

-- the instruction of a line, if it says one and has no fault
abbrev pub if_said : Result (Option Instruction) LineFault → Option Instruction
if_said (Ok said) = said
if_said (Err _) = None

-- the instructions of those lines that say one, in order
abbrev pub said_by : List (List ℕ) → List Instruction
said_by lines = filter_map (λ line. if_said (read_line line)) lines

-- the instructions of a text
abbrev pub instructions_of : List ℕ → List Instruction
instructions_of text = said_by (slice_split is_line_feed text)

-- the instructions of code without their slots, or its refusal
abbrev pub without_slots : Result (List Placed) IsaFault → Result (List Instruction) IsaFault
without_slots (Ok code) = Ok (map (λ placed. placed.instruction) code)
without_slots (Err fault) = Err fault

-- the instructions that an image decodes to, or its refusal
abbrev pub decoded_image : List ℕ → Result (List Instruction) IsaFault
decoded_image image = without_slots (read_image image)
