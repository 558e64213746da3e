-- The word of each instruction names its form.
use Rattle.std.proofs.Common.{◌≡◌, ℕ, pos, Bool, true, false, ◌&&◌, ◌==◌, not, List, [], ◌∷◌, Some, arith}
use Rattle.machine_spec.specs.declared.{instruction.Distance.Distance, instruction.Source.Source}
use Rattle.machine_spec.specs.declared.{instruction.Instruction.Instruction}
use Rattle.machine_spec.specs.declared.instruction.Distance.TheVariants.{Short, Long}
use Rattle.machine_spec.specs.declared.instruction.Source.TheVariants.{Register, Immediate}
use Rattle.machine_spec.specs.declared.instruction.Instruction.TheVariants.{Move, Compute, Load, Unary, Store, JumpIf}
use Rattle.machine_spec.specs.declared.instruction.Instruction.TheVariants.{Jump, Wide, Call, Exit}
use Rattle.bpf_asm.specs.Words.{word_of, form_named}
use Rattle.bpf_asm.proofs.{PlainTexts.are_plain, Ranges.is_form}

-- a plain text of one byte or more that does not begin with `#` (35)
abbrev pub is_word : List ℕ → Bool
is_word [] = false
is_word (byte ∷ text) = are_plain (byte ∷ text) && not (byte == 35)

-- a word, and the form that it names
abbrev pub Named : List ℕ → Instruction → Type 0
Named word form = (form_named word ≡ Some form) × (is_word word ≡ true)

abbrev pub number : Source
number = Immediate (pos 0)

-- a store of a number and one of a register have words of their own
abbrev pub stored_form : Source → Source
stored_form (Register _) = Register 0
stored_form (Immediate _) = number

-- the same of a jump with a short and with a long distance
abbrev pub distance_form : Distance → Distance
distance_form (Short _) = Short (pos 0)
distance_form (Long _) = Long (pos 0)

-- an instruction with 0 in its fields
abbrev pub form_of : Instruction → Instruction
form_of (Move width _ _) = Move width 0 number
form_of (Compute width operation _ _) = Compute width operation 0 number
form_of (Load size extension _ _ _) = Load size extension 0 0 (pos 0)
form_of (Unary change _ _) = Unary change 0 0
form_of (Store size _ _ source) = Store size 0 (pos 0) (stored_form source)
form_of (JumpIf width test _ _ _) = JumpIf width test 0 number (pos 0)
form_of (Jump distance) = Jump (distance_form distance)
form_of (Wide _ _) = Wide 0 0
form_of (Call _) = Call (pos 0)
form_of Exit = Exit

pub word_named : (i : Instruction) → is_form i ≡ true → Named (word_of i) (form_of i)
unfolding form_named
word_named i there = grind arith
