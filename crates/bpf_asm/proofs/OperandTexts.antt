-- Operands read back as they were written.
use Rattle.std.proofs.Common.{◌≡◌, ℕ, suc, ◌-◌, ◌^◌, ◌<◌, ◌≤◌, ℤ, pos, negsuc, true, false, ◌==◌, List, [], ◌∷◌, ◌++◌}
use Rattle.std.proofs.Common.{length, Ok, refl, sym, ap, ◌∙◌, arith, slice_index, decimal}
use Rattle.std.specs.{Fmt.signed_decimal}
use Rattle.std.proofs.Math.Seq.{take-append_seam, drop-append_seam, get_or-append_seam}
use Rattle.std.proofs.lemmas.List.{append_assoc, length-append}
use Rattle.std.proofs.lemmas.Bool.{le-leb, ne_eqb}
use Rattle.machine_spec.specs.declared.instruction.Source.TheVariants.{Register, Immediate}
use Rattle.bpf_asm.specs.Numbers.{distance_text, is_in}
use Rattle.bpf_asm.specs.Operands.{read_register, register_text, read_immediate, read_wide, read_short, read_long}
use Rattle.bpf_asm.specs.Operands.{read_source, is_sign, read_between, read_place, place_text}
use Rattle.bpf_asm.proofs.NumberTexts.{Fits, decimal_digits, decimal_first, natural_decimal, natural_again}
use Rattle.bpf_asm.proofs.NumberTexts.{number_again, distance_again}
use Rattle.bpf_asm.proofs.PlainTexts.{first_at, register_unsigned}

-- ---- registers

pub register_again : (r : ℕ) → r ≤ 10 → read_register (register_text r) ≡ Ok r
register_again r small =
    let below : r < 2 ^ 64 = omega arith in
    rw (natural_decimal r below, decimal_digits r below, le-leb r 10 small)

-- ---- numbers and distances

is_in_half : (h : ℕ) (z : ℤ) → Fits (suc h) z → is_in (negsuc h) (pos h) z ≡ true
is_in_half h z fits = grind (arith, le-leb)

pub immediate_again : (z : ℤ) → Fits (2 ^ 31) z → read_immediate (signed_decimal z) ≡ Ok z
immediate_again z fits = rw (number_again (2 ^ 31) z (omega arith) fits, is_in_half (2 ^ 31 - 1) z fits)

pub short_again : (z : ℤ) → Fits (2 ^ 15) z → read_short (distance_text z) ≡ Ok z
short_again z fits = rw (distance_again (2 ^ 15) z (omega arith) fits, is_in_half (2 ^ 15 - 1) z fits)

pub long_again : (z : ℤ) → Fits (2 ^ 31) z → read_long (distance_text z) ≡ Ok z
long_again z fits = rw (distance_again (2 ^ 31) z (omega arith) fits, is_in_half (2 ^ 31 - 1) z fits)

pub wide_again : (n : ℕ) → n < 2 ^ 64 → read_wide (decimal n) ≡ Ok n
wide_again n small =
    rw (natural_again n small, le-leb 0 n (omega arith), le-leb n (2 ^ 64 - 1) (omega arith))

-- ---- a register or a number

pub register_source : (r : ℕ) → r ≤ 10 → read_source (register_text r) ≡ Ok (Register r)
register_source r small = rw (register_again r small)

other_first : (z : ℤ) → Fits (2 ^ 31) z → (slice_index (signed_decimal z) 0 == 114) ≡ false
other_first z fits = grind (arith, ne_eqb, decimal_first)

pub immediate_source : (z : ℤ) → Fits (2 ^ 31) z → read_source (signed_decimal z) ≡ Ok (Immediate z)
immediate_source z fits = rw (other_first z fits, immediate_again z fits)

-- ---- places in memory

-- what is between brackets is read
bracketed : (inner : List ℕ) → read_place (91 ∷ (inner ++ 93 ∷ [])) ≡ read_between inner
bracketed inner =
    let text = 91 ∷ (inner ++ 93 ∷ []) in
    let last : length text - 1 ≡ suc (length inner) = omega (arith, length-append inner (93 ∷ [])) in
    let closes : (slice_index text (length text - 1) == 93) ≡ true = rw (last, get_or-append_seam inner 93 [] 0) in
    rw (closes, last, take-append_seam inner (93 ∷ []))

-- a register up to the sign of the distance
signed_between : (base : ℕ) (sign : ℕ) (digits : List ℕ) (offset : ℤ) → base ≤ 10 → is_sign sign ≡ true →
    read_short (sign ∷ digits) ≡ Ok offset → read_between (register_text base ++ sign ∷ digits) ≡ Ok (base, offset)
signed_between base sign digits offset small is reads =
    let text = register_text base in
    let place = first_at is_sign text sign digits (register_unsigned base (omega arith)) is in
    rw (place, take-append_seam text (sign ∷ digits), drop-append_seam text (sign ∷ digits), reads)
    (rw (register_again base small))

between_again : (base : ℕ) (offset : ℤ) → base ≤ 10 → Fits (2 ^ 15) offset →
    read_between (register_text base ++ distance_text offset) ≡ Ok (base, offset)
between_again base (pos n) small fits = signed_between base 43 (decimal n) (pos n) small refl (short_again (pos n) fits)
between_again base (negsuc n) small fits =
    signed_between base 45 (decimal (suc n)) (negsuc n) small refl (short_again (negsuc n) fits)

pub place_again : (base : ℕ) (offset : ℤ) → base ≤ 10 → Fits (2 ^ 15) offset →
    read_place (place_text base offset) ≡ Ok (base, offset)
place_again base offset small fits =
    ap (λ (t : List ℕ). read_place (91 ∷ t)) (sym (append_assoc (register_text base) (distance_text offset) (93 ∷ [])))
    ∙ bracketed (register_text base ++ distance_text offset) ∙ between_again base offset small fits
