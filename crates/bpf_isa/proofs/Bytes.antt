-- The bytes of a slot are the spelling of its instruction.
use Rattle.std.proofs.Common.{◌≡◌, ◌⊎◌, ℕ, zero, suc, ◌+◌, ◌*◌, ◌/◌, ◌%◌, ◌^◌, ◌<◌, ◌≤◌, pos, Bool, true, false}
use Rattle.std.proofs.Common.{List, [], ◌∷◌, ◌++◌, length, get_or, drop, Some, Ok, refl}
use Rattle.std.proofs.Common.{sym, ap, inl, inr, ⊎_elim, ◌∙◌, arith}
use Rattle.std.specs.Int.{w16, w32, from_le_bytes, to_le_bytes, cast_signed, cast_unsigned}
use Rattle.std.proofs.{Math.Seq.drop-cons, lemmas.Nat.le_bytes_2, lemmas.Nat.le_bytes_4, lemmas.Int.of_z-to_z}
use Rattle.std.proofs.{lemmas.List.append-nil, lemmas.Option.cond_some}
use Rattle.std.proofs.lemmas.Bool.{eqb-true, eq-eqb, ltb-true, leb-true, cases_eq, cond-true, and_parts}
use Rattle.machine_spec.specs.declared.{instruction.Distance.TheVariants.Short, instruction.Instruction.Instruction}
use Rattle.machine_spec.specs.declared.instruction.Instruction.TheVariants.{Jump, Wide}
use Rattle.machine_spec.specs.Opcodes.{Fields, uses_of, has_register}
use Rattle.machine_spec.specs.Image.{slot_count, byte_at, word_at, upper_at, fields_at, read_slot, form_at, if_read}
use Rattle.machine_spec.specs.Image.{slot_after, slots_of}
use Rattle.machine_spec.proofs.Readings.{IsRead, read_parts, wide_template, wide_is, narrow_template, narrow_slots}
use Rattle.machine_spec.proofs.Slots.{slot_after_form, read_form}
use Rattle.bpf_isa.specs.Code.{AreBytes}
use Rattle.bpf_isa.specs.Spelling.{spelled_fields, first_bytes, second_bytes, spelling, HasRegisters}
use Rattle.bpf_isa.proofs.Cases.{zeros}
use Rattle.bpf_isa.proofs.Fields.{IsSpelled, filled_spelled, filled_reads}

abbrev pub slot_bytes : List ℕ → ℕ → List ℕ
slot_bytes image slot =
    (byte_at image slot 0 ∷ byte_at image slot 1 ∷ [])
    ++ ((byte_at image slot 2 ∷ byte_at image slot 3 ∷ [])
    ++ (byte_at image slot 4 ∷ byte_at image slot 5 ∷ byte_at image slot 6 ∷ byte_at image slot 7 ∷ []))

-- ---- from fields back to bytes

two_fit : (image : List ℕ) (slot k : ℕ) → AreBytes image →
    AreBytes (byte_at image slot k ∷ byte_at image slot (k + 1) ∷ [])
two_fit image slot k fits (suc (suc i)) = omega arith
two_fit image slot k fits _ = fits _

four_fit : (image : List ℕ) (slot k : ℕ) → AreBytes image → AreBytes (byte_at image slot k ∷ byte_at image slot (k + 1)
    ∷ byte_at image slot (k + 2) ∷ byte_at image slot (k + 3) ∷ [])
four_fit image slot k fits (suc (suc (suc (suc i)))) = omega arith
four_fit image slot k fits _ = fits _

word_below : (image : List ℕ) (slot : ℕ) → AreBytes image → word_at image slot 4 < 2 ^ 32
word_below image slot fits =
    let fit : (k : ℕ) → byte_at image slot k < 256 = λ k. fits (8 * slot + k) in
    omega (arith, fit 4, fit 5, fit 6, fit 7)

-- four bytes of a slot are those of their number
word_bytes : (image : List ℕ) (slot k n : ℕ) → AreBytes image → n ≡ word_at image slot k →
    to_le_bytes w32 n ≡ byte_at image slot k ∷ byte_at image slot (k + 1) ∷ byte_at image slot (k + 2)
    ∷ byte_at image slot (k + 3) ∷ []
word_bytes image slot k n fits is =
    le_bytes_4 _ n refl (four_fit image slot k fits) is

both_same : (a b c d : List ℕ) → a ≡ b → c ≡ d → a ++ c ≡ b ++ d
both_same a b c d p q = rw (p, q) refl

bytes_again : (image : List ℕ) (slot : ℕ) → AreBytes image → first_bytes (fields_at image slot) ≡ slot_bytes image slot
bytes_again image slot fits =
    let byte = λ (k : ℕ). byte_at image slot k in
    let fit : (k : ℕ) → byte k < 256 = λ k. fits (8 * slot + k) in
    let registers : byte 1 % 16 + 16 * (byte 1 / 16) ≡ byte 1 = omega arith in
    let half : from_le_bytes w16 (byte 2 ∷ byte 3 ∷ []) < 2 ^ 16 = omega (arith, fit 2, fit 3) in
    let offset = le_bytes_2 (byte 2 ∷ byte 3 ∷ []) _ refl (two_fit image slot 2 fits) (of_z-to_z w16 _ half) in
    let imm = word_bytes image slot 4 _ fits (of_z-to_z w32 _ (word_below image slot fits)) in
    rw registers (ap (λ rest. byte 0 ∷ byte 1 ∷ rest) (both_same _ _ _ _ offset imm))

-- the bytes of `count` slots
abbrev pub slots_bytes : List ℕ → ℕ → ℕ → List ℕ
slots_bytes image slot zero = []
slots_bytes image slot (suc count) = slot_bytes image slot ++ slots_bytes image (slot + 1) count

-- a second slot that has an upper half
pub record IsSecond (image : List ℕ) (slot upper : ℕ) : Type 0 where
  pub within : slot < slot_count image
  pub zero : word_at image slot 0 ≡ 0
  pub is : upper ≡ word_at image slot 4

pub second : (image : List ℕ) (slot upper : ℕ) → upper_at image slot ≡ Some upper → IsSecond image slot upper
second image slot upper e =
    let is = cond_some _ _ upper e in
    let both = and_parts _ _ is.0 in
    record { within = ltb-true _ _ both.0; zero = eqb-true _ _ both.1; is = sym is.1 }

second_again : (image : List ℕ) (slot upper : ℕ) → AreBytes image → IsSecond image slot upper →
    second_bytes (Some upper) ≡ slot_bytes image slot
second_again image slot upper fits is =
    both_same _ _ _ _ (word_bytes image slot 0 0 fits (sym is.zero)) (word_bytes image slot 4 upper fits is.is)

-- ---- what was read

pub slot_read : (image : List ℕ) (slot : ℕ) (i : Instruction) → read_slot image slot ≡ Ok i →
    IsRead (fields_at image slot) i
unfolding read_slot
slot_read image slot i e = read_parts slot (fields_at image slot) i e

pub form_read : (image : List ℕ) (slot : ℕ) (i : Instruction) → form_at image slot ≡ Some i →
    read_slot image slot ≡ Ok i
form_read image slot i e = read_form image slot i e

-- an instruction of one slot, whose fields are its spelling's
record IsNarrow (image : List ℕ) (slot : ℕ) (i : Instruction) : Type 0 where
  slots : slots_of i ≡ 1
  spelled : IsSpelled (fields_at image slot) i

-- a 64-bit immediate, whose upper half is in the next slot
record IsWide (image : List ℕ) (slot : ℕ) (i : Instruction) : Type 0 where
  upper : ℕ
  second : IsSecond image (slot + 1) upper
  opcode : byte_at image slot 0 ≡ 0x18
  src : (fields_at image slot).src ≡ 0
  offset : (fields_at image slot).offset ≡ pos 0
  is : Wide (fields_at image slot).dst (upper * 2 ^ 32 + cast_unsigned w32 (fields_at image slot).imm) ≡ i

narrow_or_wide : (image : List ℕ) (slot : ℕ) (i : Instruction) → IsRead (fields_at image slot) i →
    IsNarrow image slot i ⊎ IsWide image slot i
narrow_or_wide image slot i read = elim (cases_eq (byte_at image slot 0) 0x18) [
  | inl is ↦
      let f = fields_at image slot in
      let wide = wide_is f i read is in
      let there : f.upper ≡ upper_at image (slot + 1) = cond-true _ _ _ (eq-eqb (byte_at image slot 0) 0x18 is) in
      let low = zeros (uses_of (Wide 0 0)) f (rw (wide_template f read.template is read.found) at read.zeros) in
      inr (record {
        upper = wide.0;
        second = second image (slot + 1) wide.0 (sym there ∙ wide.1);
        opcode = is;
        src = low.src refl;
        offset = low.offset refl;
        is = wide.2;
      })
  | inr other ↦ inl (record {
    slots = narrow_slots _ i read other;
    spelled = filled_spelled _ _ i (narrow_template _ i read other) read.opcode read.is_filled (zeros _ _ read.zeros);
  })
]

same_bytes : (f : Fields) (i : Instruction) → IsSpelled f i → first_bytes f ≡ first_bytes (spelled_fields i)
same_bytes f i is = rw (is.opcode, is.dst, is.src, is.offset, is.imm) refl

no_second : (i : Instruction) → slots_of i ≡ 1 → second_bytes (spelled_fields i).upper ≡ []
no_second (Jump (Short _)) one = refl
no_second (Wide _ _) one = absurd cc
no_second _ one = refl

-- the number of a 64-bit immediate has the halves that it was made of
wide_halves : (lower bits upper : ℕ) → bits < 2 ^ 32 → lower ≡ bits →
    ((upper * 2 ^ 32 + lower) / 2 ^ 32 ≡ upper) × ((upper * 2 ^ 32 + lower) % 2 ^ 32 ≡ bits)
wide_halves lower bits upper below same = (omega arith, omega arith)

narrow_same : (image : List ℕ) (slot : ℕ) (i : Instruction) → AreBytes image → IsNarrow image slot i →
    slots_bytes image slot (slots_of i) ≡ first_bytes (spelled_fields i) ++ second_bytes (spelled_fields i).upper
narrow_same image slot i fits narrow =
    let first = sym (bytes_again image slot fits) ∙ same_bytes (fields_at image slot) i narrow.spelled in
    ap (slots_bytes image slot) narrow.slots ∙ both_same _ _ _ _ first (sym (no_second i narrow.slots))

wide_same : (image : List ℕ) (slot : ℕ) (i : Instruction) → AreBytes image → IsWide image slot i →
    slots_bytes image slot (slots_of i) ≡ first_bytes (spelled_fields i) ++ second_bytes (spelled_fields i).upper
wide_same image slot i fits wide =
    let f = fields_at image slot in
    let below = word_below image slot fits in
    let halves = wide_halves _ _ wide.upper below (of_z-to_z w32 (word_at image slot 4) below) in
    let imm = ap (cast_signed w32) (sym halves.1) in
    let spelled : IsSpelled f (Wide f.dst (wide.upper * 2 ^ 32 + cast_unsigned w32 f.imm)) =
    record { opcode = wide.opcode; dst = refl; src = wide.src; offset = wide.offset; imm = imm } in
    let first = sym (bytes_again image slot fits) ∙ same_bytes _ _ spelled in
    let second = append-nil (slot_bytes image (slot + 1))
    ∙ sym (second_again image (slot + 1) wide.upper fits wide.second)
    ∙ ap (λ (n : ℕ). second_bytes (Some n)) (sym halves.0) in
    rw (← wide.is) (both_same _ _ _ _ first second)

pub slot_spelled : (image : List ℕ) (slot : ℕ) (i : Instruction) → AreBytes image → read_slot image slot ≡ Ok i →
    slots_bytes image slot (slots_of i) ≡ spelling i
unfolding spelling
slot_spelled image slot i fits e =
    ⊎_elim (narrow_same image slot i fits) (wide_same image slot i fits)
    (narrow_or_wide image slot i (slot_read image slot i e))

pub next_slot : (image : List ℕ) (slot : ℕ) (i : Instruction) → read_slot image slot ≡ Ok i →
    slot_after image slot ≡ slot + slots_of i
next_slot image slot i e = slot_after_form image slot i (ap if_read e)

-- the image has all slots of an instruction
pub inside : (image : List ℕ) (slot : ℕ) (i : Instruction) → read_slot image slot ≡ Ok i → slot < slot_count image →
    slot + slots_of i ≤ slot_count image
inside image slot i e lt = ⊎_elim
    (λ (narrow : IsNarrow image slot i). omega arith)
    (λ (wide : IsWide image slot i). omega (arith, ap slots_of wide.is))
    (narrow_or_wide image slot i (slot_read image slot i e))

pub some_slots : (i : Instruction) → 1 ≤ slots_of i
some_slots (Wide _ _) = omega arith
some_slots _ = omega arith

-- ---- the bytes from a slot on

abbrev bytes_on : List ℕ → ℕ → ℕ → ℕ → List ℕ
bytes_on bytes n k zero = []
bytes_on bytes n k (suc count) = get_or bytes (n + k) 0 ∷ bytes_on bytes n (suc k) count

some_on : (bytes : List ℕ) (n k count : ℕ) → n + (k + count) ≤ length bytes →
    drop (n + k) bytes ≡ bytes_on bytes n k count ++ drop (n + (k + count)) bytes
some_on bytes n k zero long = grind arith
some_on bytes n k (suc count) long =
    let next : suc (n + k) ≡ n + suc k = omega arith in
    let end : n + (suc k + count) ≡ n + (k + suc count) = omega arith in
    drop-cons bytes (n + k) 0 (omega arith) ∙ rw (next, some_on bytes n (suc k) count (omega arith), end) refl

pub from_slot : (image : List ℕ) (slot : ℕ) → 8 * slot + 8 ≤ length image →
    drop (8 * slot) image ≡ slot_bytes image slot ++ drop (8 * (slot + 1)) image
from_slot image slot long =
    let start : 8 * slot ≡ 8 * slot + 0 = omega arith in
    let end : 8 * slot + 8 ≡ 8 * (slot + 1) = omega arith in
    ap (λ (n : ℕ). drop n image) start ∙ some_on image (8 * slot) 0 8 long
    ∙ ap (λ (n : ℕ). slot_bytes image slot ++ drop n image) end

pub from_slots : (image : List ℕ) (slot count : ℕ) → 8 * (slot + count) ≤ length image →
    drop (8 * slot) image ≡ slots_bytes image slot count ++ drop (8 * (slot + count)) image
from_slots image slot zero long = let same : 8 * slot ≡ 8 * (slot + 0) = omega arith in rw same
from_slots image slot (suc count) long =
    let end : 8 * (slot + 1 + count) ≡ 8 * (slot + suc count) = omega arith in
    rw (from_slot image slot (omega arith), from_slots image (slot + 1) count (omega arith), end)

-- ---- the registers that an instruction names

small_register : (used : Bool) (n : ℕ) → has_register used n ≡ true → (used ≡ false → n ≡ 0) → n ≤ 10
small_register true n held failed = leb-true _ _ held
small_register false n held failed = omega (arith, failed refl)

pub slot_registers : (image : List ℕ) (slot : ℕ) (i : Instruction) → read_slot image slot ≡ Ok i → HasRegisters i
slot_registers image slot i e =
    let read = slot_read image slot i e in
    let high = and_parts _ _ read.registers in
    let low = zeros (uses_of read.template) (fields_at image slot) read.zeros in
    let dst = small_register _ _ high.0 low.dst in
    let src = small_register _ _ high.1 low.src in
    let changed = filled_reads _ dst src read.template i read.is_filled in
    ⊎_elim
    (λ (narrow : IsNarrow image slot i).
    record { dst = rw (← narrow.spelled.dst) dst; src = rw (← narrow.spelled.src) src; changed = changed })
    (λ (wide : IsWide image slot i).
    rw (← wide.is) (record { dst = dst; src = omega arith; changed = omega arith }))
    (narrow_or_wide image slot i read)
