-- What a line says: an instruction, nothing, or why it is refused.
use Rattle.std.specs.Prelude.{ℕ, Bool, true, false, ◌==◌, nat_lt, if◌then◌else◌, List, [], ◌∷◌, length, map, reverse}
use Rattle.std.specs.Prelude.{Option, Some, None, Result, Ok, Err}
use Rattle.std.specs.List.{slice_split, position_or_len, before_first, after_first}
use Rattle.machine_spec.specs.declared.{operation.Change.Change, instruction.Source.Source}
use Rattle.machine_spec.specs.declared.{instruction.Distance.Distance, instruction.Instruction.Instruction}
use Rattle.machine_spec.specs.declared.operation.Change.TheVariants.{Negate, Order, SignExtend}
use Rattle.machine_spec.specs.declared.instruction.Source.TheVariants.{Register, Immediate}
use Rattle.machine_spec.specs.declared.instruction.Distance.TheVariants.{Short, Long}
use Rattle.machine_spec.specs.declared.instruction.Instruction.TheVariants.{Move, Compute, Load, Unary, Store, JumpIf}
use Rattle.machine_spec.specs.declared.instruction.Instruction.TheVariants.{Jump, Wide, Call, Exit}
use Rattle.bpf_asm.specs.{declared.fault.LineFault.LineFault, Faults.both, Faults.read_as, Words.form_named}
use Rattle.bpf_asm.specs.declared.fault.LineFault.TheVariants as fault
use Rattle.bpf_asm.specs.Operands.{read_register, read_immediate, read_wide, read_short, read_long, read_source}
use Rattle.bpf_asm.specs.Operands.{read_place}

-- ---- the parts of a line

-- a space
abbrev pub is_space : ℕ → Bool
is_space byte = byte == 32

-- a comma
abbrev pub is_comma : ℕ → Bool
is_comma byte = byte == 44

-- a line feed
abbrev pub is_line_feed : ℕ → Bool
is_line_feed byte = byte == 10

-- a text without the spaces before it
abbrev pub after_spaces : List ℕ → List ℕ
after_spaces [] = []
after_spaces (byte ∷ text) = if is_space byte then after_spaces text else byte ∷ text

-- a text without the spaces at its end
abbrev pub before_spaces : List ℕ → List ℕ
before_spaces text = reverse (after_spaces (reverse text))

-- the operands of a line: the texts between commas, each without the spaces before it; none where the line is a word
-- alone
abbrev pub operands_in : Option (List ℕ) → List (List ℕ)
operands_in (Some text) = map after_spaces (slice_split is_comma text)
operands_in None = []

-- what is after the first space of a line, if it has one
abbrev pub rest_of : List ℕ → Option (List ℕ)
rest_of line = if nat_lt (position_or_len is_space line) (length line) then Some (after_first is_space line) else None

-- ---- the operands that a form takes

-- the one operand, if there is exactly one
abbrev pub single : List (List ℕ) → Option (List ℕ)
single (a ∷ []) = Some a
single _ = None

-- the two operands, if there are exactly two
abbrev pub pair : List (List ℕ) → Option (List ℕ × List ℕ)
pair (a ∷ b ∷ []) = Some (a, b)
pair _ = None

-- the three operands, if there are exactly three
abbrev pub triple : List (List ℕ) → Option (List ℕ × List ℕ × List ℕ)
triple (a ∷ b ∷ c ∷ []) = Some (a, b, c)
triple _ = None

-- there is no operand
abbrev pub is_empty : List (List ℕ) → Bool
is_empty [] = true
is_empty (_ ∷ _) = false

-- one operand is read; the fault Operand where there is another number of them
abbrev pub with_one : {A : Type 0} → (List ℕ → Result A LineFault) → Option (List ℕ) → Result A LineFault
with_one read (Some text) = read text
with_one read None = Err fault.Operand

-- two operands are read; the fault Operand where there is another number of them
abbrev pub with_two : {A B : Type 0} → (List ℕ → Result A LineFault) → (List ℕ → Result B LineFault) →
    Option (List ℕ × List ℕ) → Result (A × B) LineFault
with_two first second (Some texts) = both (first texts.0) (second texts.1)
with_two first second None = Err fault.Operand

-- three operands are read; the fault Operand where there is another number of them
abbrev pub with_three : {A B C : Type 0} → (List ℕ → Result A LineFault) → (List ℕ → Result B LineFault) →
    (List ℕ → Result C LineFault) → Option (List ℕ × List ℕ × List ℕ) → Result ((A × B) × C) LineFault
with_three first second third (Some texts) = both (both (first texts.0) (second texts.1)) (third texts.2)
with_three first second third None = Err fault.Operand

-- a change of one number with its operands: the register, of a sign extension dst and src
abbrev pub read_change : Change → List (List ℕ) → Result Instruction LineFault
read_change (Negate width) operands =
    read_as (λ dst. Unary (Negate width) dst dst) (with_one read_register (single operands))
read_change (Order order width) operands =
    read_as (λ dst. Unary (Order order width) dst dst) (with_one read_register (single operands))
read_change (SignExtend width part) operands =
    read_as (λ p. Unary (SignExtend width part) p.0 p.1) (with_two read_register read_register (pair operands))

-- the source of a store: a register or an immediate, as the store's word says
abbrev pub read_stored : Source → List ℕ → Result Source LineFault
read_stored (Register _) text = read_as Register (read_register text)
read_stored (Immediate _) text = read_as Immediate (read_immediate text)

-- the distance of a jump in any case, of 16 or of 32 bits as its word says
abbrev pub read_distance : Distance → List ℕ → Result Distance LineFault
read_distance (Short _) text = read_as Short (read_short text)
read_distance (Long _) text = read_as Long (read_long text)

-- an instruction of a form, with these operands in its fields
abbrev pub read_operands : Instruction → List (List ℕ) → Result Instruction LineFault
read_operands (Move width _ _) operands =
    read_as (λ p. Move width p.0 p.1) (with_two read_register read_source (pair operands))
read_operands (Compute width operation _ _) operands =
    read_as (λ p. Compute width operation p.0 p.1) (with_two read_register read_source (pair operands))
read_operands (Load size extension _ _ _) operands =
    read_as (λ p. Load size extension p.0 p.1.0 p.1.1) (with_two read_register read_place (pair operands))
read_operands (Unary change _ _) operands = read_change change operands
read_operands (Store size _ _ source) operands =
    read_as (λ p. Store size p.0.0 p.0.1 p.1) (with_two read_place (read_stored source) (pair operands))
read_operands (JumpIf width test _ _ _) operands =
    read_as (λ p. JumpIf width test p.0.0 p.0.1 p.1) (with_three read_register read_source read_short (triple operands))
read_operands (Jump distance) operands = read_as Jump (with_one (read_distance distance) (single operands))
read_operands (Wide _ _) operands = read_as (λ p. Wide p.0 p.1) (with_two read_register read_wide (pair operands))
read_operands (Call _) operands = read_as Call (with_one read_immediate (single operands))
read_operands Exit operands = if is_empty operands then Ok Exit else Err fault.Operand

-- ---- lines

-- an instruction of a word's form, with the operands of the rest of the line; the fault Word where no form has the word
abbrev pub read_form : Option Instruction → Option (List ℕ) → Result Instruction LineFault
read_form (Some form) rest = read_operands form (operands_in rest)
read_form None rest = Err fault.Word

-- the instruction of a line that says one, or the line's fault
abbrev pub some_read : Result Instruction LineFault → Result (Option Instruction) LineFault
some_read (Ok i) = Ok (Some i)
some_read (Err f) = Err f

-- A line without the spaces around it. An empty one, and one that begins with `#` (35), says nothing. Others are a
-- word, and after a space the operands.
abbrev pub read_trimmed : List ℕ → Result (Option Instruction) LineFault
read_trimmed [] = Ok None
read_trimmed (byte ∷ text) = if byte == 35 then Ok None else some_read
    (read_form (form_named (before_first is_space (byte ∷ text))) (rest_of (byte ∷ text)))

-- the instruction of a line, if it says one, or the line's fault
unfoldable pub read_line : List ℕ → Result (Option Instruction) LineFault
read_line line = read_trimmed (before_spaces (after_spaces line))
