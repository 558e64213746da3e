-- The code of terms: r8 gets whether the record has one, and r0 its value.
use Rattle.std.specs.Prelude.{ℕ, zero, suc, ◌+◌, ℤ, pos, Bool, nat_le, if◌then◌else◌, List, [], ◌∷◌, ◌++◌}
use Rattle.machine_spec.specs.declared.instruction.Instruction.{Instruction}
use Rattle.machine_spec.specs.declared.instruction.Instruction.TheVariants.{Compute, Load, Unary, Call}
use Rattle.machine_spec.specs.declared.instruction.{Size.Size, Extension.TheVariants.Zero}
use Rattle.machine_spec.specs.declared.operation.SwappedWidth.{SwappedWidth}
use Rattle.machine_spec.specs.declared.operation.SwappedWidth.TheVariants as swapped
use Rattle.machine_spec.specs.declared.operation.Width.TheVariants.{Bits64}
use Rattle.machine_spec.specs.declared.operation.Change.TheVariants.{Order}
use Rattle.machine_spec.specs.declared.operation.ByteOrder.TheVariants.{BigEndian}
use Rattle.machine_spec.specs.declared.instruction.Source.TheVariants.{Register, Immediate}
use Rattle.machine_spec.specs.declared.operation.Operation.TheVariants.{Add, Sub, LeftShift}
use Rattle.machine_spec.specs.declared.operation.Test.TheVariants.{NotEqual, Less}
use Rattle.rules.specs.declared.{rule.Part.Part, rule.Layout.Layout, rule.Term.Term}
use Rattle.rules.specs.declared.rule.Layout.TheVariants.{Byte, U16Be, U32Be, U64Be, U16Le, U32Le, U64Le}
use Rattle.rules.specs.Meaning.{layout_size}
use Rattle.rules.specs.declared.rule.Part.TheVariants as part
use Rattle.rules.specs.declared.rule.Term.TheVariants as term
use Rattle.rules_compiler.specs.declared.pieces.TheConstants.{ANSWER, PART, LENGTH, TRUTH, VALUE, FRAME, NEAR}
use Rattle.rules_compiler.specs.declared.values.TheConstants.{REACH}
use Rattle.rules_compiler.specs.Code.{Code, Plain, Then, Unless}
use Rattle.rules_compiler.specs.Pieces.{set, copy, change, part_code, measure}

-- what a helper answered is a term, and so much more than its value, unless it is less than that
abbrev pub answered : ℤ → Code
answered more = Unless Less ANSWER (Immediate more) (Plain (change Sub ANSWER more ∷ set TRUTH (pos 1) ∷ []))

unfoldable pub count_code : Part → Code
count_code p = Then (Plain (part_code p ++ measure)) (answered (pos 2))

unfoldable pub decimal_code : Part → (place count : ℕ) → Code
decimal_code p place count = Then (Plain (part_code p ++ (copy 1 PART ∷ set 2 (pos place) ∷ set 3 (pos count)
    ∷ Call (pos 17) ∷ set TRUTH (pos 0) ∷ []))) (answered (pos 1))

-- what a helper answers of every record
unfoldable pub answer_code : ℤ → Code
answer_code helper = Plain (Call helper ∷ set TRUTH (pos 1) ∷ [])

-- how many bytes are loaded
abbrev pub size_of : Layout → Size
size_of Byte = Size.Byte
size_of U16Be = Size.Half
size_of U32Be = Size.Word
size_of U64Be = Size.Double
size_of U16Le = Size.Half
size_of U32Le = Size.Word
size_of U64Le = Size.Double

-- the highest byte of r0 comes first
abbrev pub turned : SwappedWidth → Instruction
turned width = Unary (Order BigEndian width) ANSWER ANSWER

-- the bytes of r0 as the layout orders them; where they are so, r1 gets them too
abbrev pub ordered : Layout → Instruction
ordered Byte = copy 1 ANSWER
ordered U16Be = turned swapped.Bits16
ordered U32Be = turned swapped.Bits32
ordered U64Be = turned swapped.Bits64
ordered U16Le = copy 1 ANSWER
ordered U32Le = copy 1 ANSWER
ordered U64Le = copy 1 ANSWER

-- so many bytes of the part from a place on are copied to the stack; r0 gets 0 where they are there
abbrev pub room_call : (size place : ℕ) → List Instruction
room_call size place = copy 1 FRAME ∷ change Add 1 NEAR ∷ set 2 (pos place) ∷ set 3 (pos size) ∷ copy 4 PART
    ∷ Call (pos 14) ∷ set TRUTH (pos 0) ∷ []

abbrev pub load_list : Layout → List Instruction
load_list layout = Load (size_of layout) Zero ANSWER FRAME NEAR ∷ ordered layout ∷ set TRUTH (pos 1) ∷ []

-- the number that bytes of a part are
unfoldable pub layout_code : Layout → Part → ℕ → Code
layout_code layout p place = Then (Plain (part_code p ++ room_call (layout_size layout) place))
    (Unless NotEqual ANSWER (Immediate (pos 0)) (Plain (load_list layout)))

-- ---- numbers in the value itself

-- what is loaded first: all bytes, where the lowest comes first, and else one
abbrev pub first_size : Layout → Size
first_size Byte = Size.Byte
first_size U16Be = Size.Byte
first_size U32Be = Size.Byte
first_size U64Be = Size.Byte
first_size U16Le = Size.Half
first_size U32Le = Size.Word
first_size U64Le = Size.Double

-- how many bytes follow it one by one
abbrev pub more_of : Layout → ℕ
more_of U16Be = 1
more_of U32Be = 3
more_of U64Be = 7
more_of _ = 0

-- a byte of the value is put behind those of r0
abbrev pub append_byte : ℕ → List Instruction
append_byte place = change LeftShift ANSWER (pos 8) ∷ Load Size.Byte Zero 1 VALUE (pos place)
    ∷ Compute Bits64 Add ANSWER (Register 1) ∷ []

-- so many bytes from a place on
unfoldable pub more_code : (place count : ℕ) → Code
more_code place zero = Plain []
more_code place (suc count) = Then (Plain (append_byte place)) (more_code (place + 1) count)

-- r0 gets the number that bytes of the value are
unfoldable pub read_code : Layout → ℕ → Code
read_code layout place = Then (Plain (Load (first_size layout) Zero ANSWER VALUE (pos place) ∷ []))
    (more_code (place + 1) (more_of layout))

-- the same as a term
unfoldable pub value_number_code : Layout → ℕ → Code
value_number_code layout place = Then (Plain (set ANSWER (pos 0) ∷ set TRUTH (pos 0) ∷ []))
    (Unless Less LENGTH (Immediate (pos (place + layout_size layout)))
    (Then (read_code layout place) (Plain (set TRUTH (pos 1) ∷ []))))

-- loads can name each byte of the number
abbrev pub is_near : Layout → ℕ → Bool
is_near layout place = nat_le (place + layout_size layout) REACH

unfoldable pub part_number_code : Layout → Part → ℕ → Code
part_number_code layout part.Value place =
    if is_near layout place then value_number_code layout place else layout_code layout part.Value place
part_number_code layout p place = layout_code layout p place

unfoldable pub term_code : Term → Code
term_code (term.Length p) = count_code p
term_code (term.Number layout p place) = part_number_code layout p place
term_code (term.Decimal p place count) = decimal_code p place count
term_code term.Offset = answer_code (pos 7)
term_code term.Timestamp = answer_code (pos 8)
term_code term.Partition = answer_code (pos 9)
term_code term.Headers = answer_code (pos 10)
