-- The smallest pieces of code, and those that name a part of the record.
use Rattle.std.specs.Prelude.{ℕ, zero, suc, ◌+◌, ◌*◌, ◌/◌, ◌%◌, ◌^◌, ℤ, pos, ◌+ℤ◌, nat_lt, if◌then◌else◌}
use Rattle.std.specs.Prelude.{List, [], ◌∷◌, ◌++◌, length, slice_index_or}
use Rattle.std.specs.Int.{w32, from_le_bytes, cast_signed}
use Rattle.machine_spec.specs.declared.{instruction.Instruction.Instruction, operation.Operation.Operation}
use Rattle.machine_spec.specs.declared.instruction.Instruction.TheVariants.{Move, Compute, Store, Call}
use Rattle.machine_spec.specs.declared.instruction.Size.TheVariants.{Word}
use Rattle.machine_spec.specs.declared.instruction.Source.TheVariants.{Register, Immediate}
use Rattle.machine_spec.specs.declared.operation.Operation.TheVariants.{Add, Sub, LeftShift}
use Rattle.machine_spec.specs.declared.operation.Width.TheVariants.{Bits32, Bits64}
use Rattle.rules.specs.declared.rule.Part.{Part}
use Rattle.rules.specs.declared.rule.Part.TheVariants as part
use Rattle.rules_compiler.specs.declared.pieces.TheConstants.{ANSWER, PART, TRUTH, FRAME, NEAR}

-- ---- single instructions

-- a register gets a number
abbrev pub set : ℕ → ℤ → Instruction
set register number = Move Bits64 register (Immediate number)

-- a register gets what another one has
abbrev pub copy : (register from : ℕ) → Instruction
copy register from = Move Bits64 register (Register from)

-- a register gets the result of an operation on it and a number
abbrev pub change : Operation → ℕ → ℤ → Instruction
change operation register number = Compute Bits64 operation register (Immediate number)

-- ---- numbers

abbrev pub low_half : ℕ → ℤ
low_half number = cast_signed w32 (number % 2 ^ 32)

abbrev pub high_half : ℕ → ℤ
high_half number = cast_signed w32 (number / 2 ^ 32)

-- a register gets a number of 64 bits; of more than 31, r2 has its low half
abbrev pub number_code : (register number : ℕ) → List Instruction
number_code register number = if nat_lt number (2 ^ 31) then set register (pos number) ∷ []
    else Move Bits32 register (Immediate (high_half number)) ∷ change LeftShift register (pos 32)
    ∷ Move Bits32 2 (Immediate (low_half number)) ∷ Compute Bits64 Add register (Register 2) ∷ []

-- ---- texts

-- the byte at a place of a text, or 0 past its end
abbrev pub byte_at : List ℕ → ℕ → ℕ
byte_at text place = slice_index_or text place 0

-- four bytes of a text as a number
abbrev pub word_at : List ℕ → ℕ → ℤ
word_at text place = cast_signed w32 (from_le_bytes w32 (byte_at text place ∷ byte_at text (place + 1)
    ∷ byte_at text (place + 2) ∷ byte_at text (place + 3) ∷ []))

-- the store of four bytes of a text that begins at a place of the stack
abbrev pub word_store : ℤ → List ℕ → ℕ → Instruction
word_store start text k = Store Word FRAME (start +ℤ pos (4 * k)) (Immediate (word_at text (4 * k)))

-- the stores of so many words
unfoldable pub words_code : ℤ → List ℕ → ℕ → List Instruction
words_code start text zero = []
words_code start text (suc k) = words_code start text k ++ word_store start text k ∷ []

-- how many words a text of a length has
abbrev pub word_count : ℕ → ℕ
word_count size = (size + 3) / 4

-- a text in the stack, with zeros up to the end of its last word
abbrev pub text_code : ℤ → List ℕ → List Instruction
text_code start text = words_code start text (word_count (length text))

-- ---- parts

-- r1 and r2 name a text in the stack
abbrev pub header_call : ℕ → List Instruction
header_call size = copy 1 FRAME ∷ change Add 1 NEAR ∷ set 2 (pos size) ∷ []

-- r6 gets the number of the value of the header at a position, of which r0 has one more; where r0 is 0, that of position
-- 2^32 - 1
abbrev pub header_number : List Instruction
header_number = copy PART ANSWER ∷ Compute Bits32 Sub PART (Immediate (pos 1)) ∷ change LeftShift PART (pos 1)
    ∷ change Add PART (pos 3) ∷ []

-- r6 gets the number of a part; a header's value is that of the first one with the key
unfoldable pub part_code : Part → List Instruction
part_code part.Value = set PART (pos 0) ∷ []
part_code part.Key = set PART (pos 1) ∷ []
part_code (part.Header key) = text_code NEAR key ++ (header_call (length key) ++ (Call (pos 19) ∷ header_number))

-- r0 gets the part's length plus 2, or 1 of a null part, or 0 where there is none; r8 gets 0
abbrev pub measure : List Instruction
measure = copy 1 PART ∷ Call (pos 13) ∷ set TRUTH (pos 0) ∷ []
