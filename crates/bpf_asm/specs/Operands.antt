-- Operands: registers, numbers, distances and places in memory; what each reads as, or why it is refused, and its text.
use Rattle.std.specs.Prelude.{ℕ, ◌-◌, ◌^◌, ℤ, pos, neg_ℤ, unsigned_abs, Bool, ◌&&◌, ◌||◌, ◌==◌, nat_le, if◌then◌else◌}
use Rattle.std.specs.Prelude.{List, [], ◌∷◌, ◌++◌, length, take, drop, slice_index, Option, Some, None, Result, Ok, Err}
use Rattle.std.specs.Prelude.{decimal}
use Rattle.std.specs.{List.position_or_len, Fmt.signed_decimal}
use Rattle.machine_spec.specs.declared.instruction.Source.{Source}
use Rattle.machine_spec.specs.declared.instruction.Source.TheVariants.{Register, Immediate}
use Rattle.bpf_asm.specs.{declared.fault.LineFault.LineFault, Faults.both, Faults.read_as}
use Rattle.bpf_asm.specs.declared.fault.LineFault.TheVariants as fault
use Rattle.bpf_asm.specs.Numbers.{is_digits, natural, written_number, distance_of, distance_text, is_in}

-- ---- registers

-- a register by its number, r0 to r10
abbrev pub register_named : Option ℕ → Result ℕ LineFault
register_named (Some n) = if nat_le n 10 then Ok n else Err fault.Register
register_named None = Err fault.Register

-- a register: `r` (114) and its number
abbrev pub read_register : List ℕ → Result ℕ LineFault
read_register text = if (slice_index text 0 == 114)
    && is_digits (drop 1 text) then register_named (natural (drop 1 text)) else Err fault.Operand

-- the text of a register
abbrev pub register_text : ℕ → List ℕ
register_text r = 114 ∷ decimal r

-- ---- numbers and distances

-- a number in a range; the fault Number where it is out of it, Operand where the text spells none
abbrev pub number_in_range : ℤ → ℤ → Option ℤ → Result ℤ LineFault
number_in_range low high (Some z) = if is_in low high z then Ok z else Err fault.Number
number_in_range low high None = Err fault.Operand

-- a signed number of 32 bits
abbrev pub read_immediate : List ℕ → Result ℤ LineFault
read_immediate text = number_in_range (neg_ℤ (pos (2 ^ 31))) (pos (2 ^ 31 - 1)) (written_number text)

-- an unsigned number of 64 bits
abbrev pub read_wide : List ℕ → Result ℕ LineFault
read_wide text = read_as unsigned_abs (number_in_range (pos 0) (pos (2 ^ 64 - 1)) (written_number text))

-- a distance of 16 bits, in slots or bytes
abbrev pub read_short : List ℕ → Result ℤ LineFault
read_short text = number_in_range (neg_ℤ (pos (2 ^ 15))) (pos (2 ^ 15 - 1)) (distance_of text)

-- a distance of 32 bits, in slots
abbrev pub read_long : List ℕ → Result ℤ LineFault
read_long text = number_in_range (neg_ℤ (pos (2 ^ 31))) (pos (2 ^ 31 - 1)) (distance_of text)

-- ---- a register or a number

-- a second operand: a register where the text begins with `r` (114), else an immediate
abbrev pub read_source : List ℕ → Result Source LineFault
read_source text = if slice_index text 0 == 114 then read_as Register (read_register text) else read_as Immediate
    (read_immediate text)

-- the text of a second operand
abbrev pub source_text : Source → List ℕ
source_text (Register r) = register_text r
source_text (Immediate imm) = signed_decimal imm

-- ---- places in memory

-- `+` or `-`
abbrev pub is_sign : ℕ → Bool
is_sign byte = (byte == 43) || (byte == 45)

-- a base register up to the sign, and an offset in bytes
abbrev pub read_between : List ℕ → Result (ℕ × ℤ) LineFault
read_between text = both (read_register (take (position_or_len is_sign text) text))
    (read_short (drop (position_or_len is_sign text) text))

-- a place in memory: `[` (91), a base register, an offset, `]` (93)
abbrev pub read_place : List ℕ → Result (ℕ × ℤ) LineFault
read_place text =
    if (slice_index text 0 == 91) && (slice_index text (length text - 1) == 93)
    then read_between (drop 1 (take (length text - 1) text))
    else Err fault.Operand

-- the text of a place in memory
abbrev pub place_text : ℕ → ℤ → List ℕ
place_text base offset = 91 ∷ (register_text base ++ (distance_text offset ++ (93 ∷ [])))
