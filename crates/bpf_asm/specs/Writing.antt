-- The text of code: a line for each instruction.
use Rattle.std.specs.Prelude.{ℕ, List, [], ◌∷◌, ◌++◌, codes, decimal}
use Rattle.std.specs.{List.flat_map, Fmt.signed_decimal}
use Rattle.machine_spec.specs.declared.{operation.Change.Change, instruction.Distance.Distance}
use Rattle.machine_spec.specs.declared.{instruction.Instruction.Instruction, instruction.Placed.Placed}
use Rattle.machine_spec.specs.declared.operation.Change.TheVariants.{Negate, Order, SignExtend}
use Rattle.machine_spec.specs.declared.instruction.Distance.TheVariants.{Short, Long}
use Rattle.machine_spec.specs.declared.instruction.Instruction.TheVariants.{Move, Compute, Load, Unary, Store, JumpIf}
use Rattle.machine_spec.specs.declared.instruction.Instruction.TheVariants.{Jump, Wide, Call, Exit}
use Rattle.bpf_asm.specs.{Numbers.distance_text, Words.word_of}
use Rattle.bpf_asm.specs.Operands.{register_text, source_text, place_text}

-- the operands of a change of one number: its register, of a sign extension dst and src
abbrev pub change_operands : Change → ℕ → ℕ → List (List ℕ)
change_operands (Negate _) dst src = register_text dst ∷ []
change_operands (Order _ _) dst src = register_text dst ∷ []
change_operands (SignExtend _ _) dst src = register_text dst ∷ register_text src ∷ []

-- the text of the distance of a jump in any case
abbrev pub jump_text : Distance → List ℕ
jump_text (Short offset) = distance_text offset
jump_text (Long offset) = distance_text offset

-- the operands of an instruction, in the order of its line
abbrev pub operands_of : Instruction → List (List ℕ)
operands_of (Move _ dst source) = register_text dst ∷ source_text source ∷ []
operands_of (Compute _ _ dst source) = register_text dst ∷ source_text source ∷ []
operands_of (Load _ _ dst base offset) = register_text dst ∷ place_text base offset ∷ []
operands_of (Unary change dst src) = change_operands change dst src
operands_of (Store _ base offset source) = place_text base offset ∷ source_text source ∷ []
operands_of (JumpIf _ _ dst source offset) = register_text dst ∷ source_text source ∷ distance_text offset ∷ []
operands_of (Jump distance) = jump_text distance ∷ []
operands_of (Wide dst number) = register_text dst ∷ decimal number ∷ []
operands_of (Call number) = signed_decimal number ∷ []
operands_of Exit = []

-- operands with a comma and a space between two
abbrev pub joined_by_commas : List (List ℕ) → List ℕ
joined_by_commas [] = []
joined_by_commas (operand ∷ []) = operand
joined_by_commas (operand ∷ next ∷ operands) = operand ++ (codes ", " ++ joined_by_commas (next ∷ operands))

-- operands after a space, if there are some
abbrev pub operands_text : List (List ℕ) → List ℕ
operands_text [] = []
operands_text (operand ∷ operands) = codes " " ++ joined_by_commas (operand ∷ operands)

-- the line of an instruction, without its line feed
abbrev pub line_of : Instruction → List ℕ
line_of i = word_of i ++ operands_text (operands_of i)

-- the line of an instruction, with its line feed
unfoldable pub line_text : Instruction → List ℕ
line_text i = line_of i ++ (10 ∷ [])

-- the text of code: one line after another
abbrev pub text_of : List Placed → List ℕ
text_of code = flat_map (λ placed. line_text placed.instruction) code
