-- Faults of lines and of texts.
use Rattle.std.specs.Prelude.{ℕ, Option, Some, None, Result, Ok, Err}
use Rattle.bpf_asm.specs.declared.{fault.LineFault.LineFault, fault.AsmFault.AsmFault}
use Rattle.bpf_asm.specs.declared.fault.LineFault.TheVariants as fault
use Rattle.bpf_asm.specs.declared.fault.AsmFault.TheVariants as asm

-- the first of two faults of one line, in the order Word, Operand, Register, Number
abbrev pub first_fault : LineFault → LineFault → LineFault
first_fault fault.Word f = fault.Word
first_fault fault.Operand fault.Word = fault.Word
first_fault fault.Operand f = fault.Operand
first_fault fault.Register fault.Word = fault.Word
first_fault fault.Register fault.Operand = fault.Operand
first_fault fault.Register f = fault.Register
first_fault fault.Number f = f

-- two readings of one line: both results, or the first of their faults
abbrev pub both : {A B : Type 0} → Result A LineFault → Result B LineFault → Result (A × B) LineFault
both (Ok a) (Ok b) = Ok (a, b)
both (Ok a) (Err f) = Err f
both (Err e) (Ok b) = Err e
both (Err e) (Err f) = Err (first_fault e f)

-- a reading with something made of its result; its fault stays
abbrev pub read_as : {A B : Type 0} → (A → B) → Result A LineFault → Result B LineFault
read_as make (Ok a) = Ok (make a)
read_as make (Err f) = Err f

-- a line's fault as a fault of the text, with the number of the line from 1
abbrev pub at_line : ℕ → LineFault → AsmFault
at_line number fault.Word = asm.Word number
at_line number fault.Operand = asm.Operand number
at_line number fault.Register = asm.Register number
at_line number fault.Number = asm.Number number

-- the number of the line that a fault is of; none where memory ran out
abbrev pub line_of_fault : AsmFault → Option ℕ
line_of_fault (asm.Word number) = Some number
line_of_fault (asm.Operand number) = Some number
line_of_fault (asm.Number number) = Some number
line_of_fault (asm.Register number) = Some number
line_of_fault (asm.Size number) = Some number
line_of_fault asm.Memory = None
