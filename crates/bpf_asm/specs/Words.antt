-- The word of each instruction, and the instruction of each word.
use Rattle.std.specs.Prelude.{ℕ, ℤ, pos, if◌then◌else◌, List, [], ◌∷◌, ◌++◌, codes, Option, None, find}
use Rattle.std.specs.{List.flat_map, List.filter_map, Str.bytes_eq}
use Rattle.machine_spec.specs.declared.{operation.Width.Width, operation.Operation.Operation}
use Rattle.machine_spec.specs.declared.{operation.SwappedWidth.SwappedWidth, operation.ExtendedWidth.ExtendedWidth}
use Rattle.machine_spec.specs.declared.{operation.ByteOrder.ByteOrder, operation.Change.Change, operation.Test.Test}
use Rattle.machine_spec.specs.declared.{instruction.Size.Size, instruction.Extension.Extension}
use Rattle.machine_spec.specs.declared.{instruction.Distance.Distance, instruction.Source.Source}
use Rattle.machine_spec.specs.declared.{instruction.Instruction.Instruction, opcode.TheConstants.TEMPLATES}
use Rattle.machine_spec.specs.declared.operation.Width.TheVariants.{Bits32, Bits64}
use Rattle.machine_spec.specs.declared.operation.ByteOrder.TheVariants.{LittleEndian, BigEndian, Swapped}
use Rattle.machine_spec.specs.declared.operation.Change.TheVariants.{Negate, Order, SignExtend}
use Rattle.machine_spec.specs.declared.operation.Operation.TheVariants.{Add, Sub, Mul, Div, SignedDiv, Or, And}
use Rattle.machine_spec.specs.declared.operation.Operation.TheVariants.{LeftShift, RightShift, Mod, SignedMod, Xor}
use Rattle.machine_spec.specs.declared.operation.Operation.TheVariants.{ArithmeticRightShift}
use Rattle.machine_spec.specs.declared.operation.SwappedWidth.TheVariants as swapped
use Rattle.machine_spec.specs.declared.operation.ExtendedWidth.TheVariants as extended
use Rattle.machine_spec.specs.declared.operation.Test.TheVariants.{Equal, NotEqual, Greater, GreaterOrEqual, Less}
use Rattle.machine_spec.specs.declared.operation.Test.TheVariants.{LessOrEqual, AnyBit, SignedGreater}
use Rattle.machine_spec.specs.declared.operation.Test.TheVariants.{SignedGreaterOrEqual, SignedLess, SignedLessOrEqual}
use Rattle.machine_spec.specs.declared.instruction.Size.TheVariants.{Byte, Half, Word, Double}
use Rattle.machine_spec.specs.declared.instruction.Extension.TheVariants.{Zero, Sign}
use Rattle.machine_spec.specs.declared.instruction.Distance.TheVariants.{Short, Long}
use Rattle.machine_spec.specs.declared.instruction.Source.TheVariants.{Register, Immediate}
use Rattle.machine_spec.specs.declared.instruction.Instruction.TheVariants.{Move, Compute, Load, Unary, Store, JumpIf}
use Rattle.machine_spec.specs.declared.instruction.Instruction.TheVariants.{Jump, Wide, Call, Exit}
use Rattle.machine_spec.specs.Opcodes.{Fields, has_signed_form, with_fields}

-- the bits of a width
abbrev pub width_text : Width → List ℕ
width_text Bits32 = codes "32"
width_text Bits64 = codes "64"

-- the bits of a load or a store
abbrev pub size_text : Size → List ℕ
size_text Byte = codes "8"
size_text Half = codes "16"
size_text Word = codes "32"
size_text Double = codes "64"

-- the word of an operation, without its width
abbrev pub operation_text : Operation → List ℕ
operation_text Add = codes "add"
operation_text Sub = codes "sub"
operation_text Mul = codes "mul"
operation_text Div = codes "div"
operation_text SignedDiv = codes "sdiv"
operation_text Or = codes "or"
operation_text And = codes "and"
operation_text LeftShift = codes "lsh"
operation_text RightShift = codes "rsh"
operation_text Mod = codes "mod"
operation_text SignedMod = codes "smod"
operation_text Xor = codes "xor"
operation_text ArithmeticRightShift = codes "arsh"

-- the word of a jump with a condition, without its width
abbrev pub test_text : Test → List ℕ
test_text Equal = codes "jeq"
test_text NotEqual = codes "jne"
test_text Greater = codes "jgt"
test_text GreaterOrEqual = codes "jge"
test_text Less = codes "jlt"
test_text LessOrEqual = codes "jle"
test_text AnyBit = codes "jset"
test_text SignedGreater = codes "jsgt"
test_text SignedGreaterOrEqual = codes "jsge"
test_text SignedLess = codes "jslt"
test_text SignedLessOrEqual = codes "jsle"

-- the word of a byte order, without the bits that it keeps
abbrev pub order_text : ByteOrder → List ℕ
order_text LittleEndian = codes "le"
order_text BigEndian = codes "be"
order_text Swapped = codes "swap"

-- the bits that a byte order keeps
abbrev pub swapped_text : SwappedWidth → List ℕ
swapped_text swapped.Bits16 = codes "16"
swapped_text swapped.Bits32 = codes "32"
swapped_text swapped.Bits64 = codes "64"

-- the bits that a sign extension reads, after a dot
abbrev pub extended_text : ExtendedWidth → List ℕ
extended_text extended.Bits8 = codes ".8"
extended_text extended.Bits16 = codes ".16"
extended_text extended.Bits32 = codes ".32"

-- the word of a change of one number
abbrev pub change_word : Change → List ℕ
change_word (Negate width) = codes "neg" ++ width_text width
change_word (Order order width) = order_text order ++ swapped_text width
change_word (SignExtend width part) = codes "movsx" ++ (width_text width ++ extended_text part)

-- the word of a load, without its bits: zero-extended or sign-extended
abbrev pub load_text : Extension → List ℕ
load_text Zero = codes "ld"
load_text Sign = codes "lds"

-- the word of a store, without its bits: of a register or of an immediate
abbrev pub store_text : Source → List ℕ
store_text (Register _) = codes "stx"
store_text (Immediate _) = codes "st"

-- the word of a jump in any case, whose distance has 16 or 32 bits
abbrev pub distance_word : Distance → List ℕ
distance_word (Short _) = codes "ja"
distance_word (Long _) = codes "jal"

-- The word of an instruction, whatever its fields. An immediate and a register as second operand have one word, but for
-- a store.
abbrev pub word_of : Instruction → List ℕ
word_of (Move width _ _) = codes "mov" ++ width_text width
word_of (Compute width operation _ _) = operation_text operation ++ width_text width
word_of (Load size extension _ _ _) = load_text extension ++ size_text size
word_of (Unary change _ _) = change_word change
word_of (Store size _ _ source) = store_text source ++ size_text size
word_of (JumpIf width test _ _ _) = test_text test ++ width_text width
word_of (Jump distance) = distance_word distance
word_of (Wide _ _) = codes "imm64"
word_of (Call _) = codes "call"
word_of Exit = codes "exit"

-- ---- the forms, of which each word names one

-- fields that are 0 but for an offset and an imm; the opcode is not used
abbrev pub selection : ℤ → ℤ → Fields
selection offset imm = record { opcode = 0; dst = 0; src = 0; offset = offset; imm = imm; upper = None }

-- What selects the other instructions of a template's opcode: the offset of a signed quotient or remainder and that of
-- a move that extends the sign of 8, 16 or 32 bits, the imm of a byte order of 32 or 64 bits (RFC 9669, sections 4.1,
-- 4.2).
abbrev pub selections : Instruction → List Fields
selections (Compute _ operation _ (Immediate _)) = if has_signed_form operation then selection (pos 1) (pos 0)
    ∷ [] else []
selections (Move _ _ (Register _)) = selection (pos 8) (pos 0) ∷ selection (pos 16) (pos 0) ∷ selection (pos 32) (pos 0)
    ∷ []
selections (Unary (Order _ _) _ _) = selection (pos 0) (pos 32) ∷ selection (pos 0) (pos 64) ∷ []
selections _ = []

-- the other instructions of a template's opcode, by what the profile fills the template with
abbrev pub others_of : Instruction → List Instruction
others_of template = filter_map (with_fields template) (selections template)

-- The instructions of the profile's opcodes, with 0 in their fields: the first of each opcode, then the others.
abbrev pub forms : List Instruction
forms = TEMPLATES ++ flat_map others_of TEMPLATES

-- the form that has a word; where a second operand may be an immediate or a register, one with an immediate
unfoldable pub form_named : List ℕ → Option Instruction
form_named word = find (λ form. bytes_eq (word_of form) word) forms
