-- The spelling of instructions, one slot each, reads as them.
use Rattle.std.proofs.Common.{◌≡◌, ℕ, zero, suc, ◌+◌, ◌*◌, ◌/◌, ◌%◌, ◌^◌, ◌<◌, ◌≤◌, ℤ, true, false, cond}
use Rattle.std.proofs.Common.{List, [], ◌∷◌, ◌++◌, length, map, slice_get, get_or, Option, Some, None, Ok}
use Rattle.std.proofs.Common.{refl, sym, ap, ◌∙◌, subst, arith, ◌==◌, length-append, FitsSigned}
use Rattle.std.specs.Int.{w16, w32, from_le_bytes, cast_signed, cast_unsigned, byte_at as byte_of}
use Rattle.std.specs.List.{flat_map}
use Rattle.std.proofs.lemmas.Bool.{and_from, le-leb, lt-ltb, eq-eqb}
use Rattle.std.proofs.lemmas.Option.{same_Some}
use Rattle.std.proofs.lemmas.List.{get_or_append_left, get_or-append-add}
use Rattle.std.proofs.lemmas.List.Concat.{flat_map-cons}
use Rattle.std.proofs.lemmas.Nat.{from_le_bytes-to_le_bytes_2, from_le_bytes-to_le_bytes_4}
use Rattle.std.proofs.{lemmas.Int.to_z-of_z, Math.Facts.Fits-of_z}
use Rattle.machine_spec.specs.declared.{instruction.Instruction.Instruction, instruction.Placed.Placed}
use Rattle.machine_spec.specs.declared.limits.TheConstants.{MAX_SLOTS}
use Rattle.machine_spec.specs.Opcodes.{Fields}
use Rattle.machine_spec.specs.Image.{fields_at, slot_count, if_read, read_fields, read_slot, form_at}
use Rattle.machine_spec.specs.Image.{slot_after, slots_of, first_slots_from, first_slots, has_size, IsCodeOf}
use Rattle.machine_spec.proofs.Slots.{slot_after_form, element}
use Rattle.bpf_isa.specs.Spelling.{spelled_fields, first_bytes, second_bytes, spelling, HasRegisters}

-- ---- one instruction

-- An instruction of one slot that is read again from its fields, which fit their bytes.
pub record IsSpelt (i : Instruction) : Type 0 where
  pub reads : (slot : ℕ) → read_fields slot (spelled_fields i) ≡ Ok i
  pub names : HasRegisters i
  pub upper : (spelled_fields i).upper ≡ None
  pub narrow : ((spelled_fields i).opcode == 0x18) ≡ false
  pub slots : slots_of i ≡ 1
  pub offset : FitsSigned w16 (spelled_fields i).offset
  pub imm : FitsSigned w32 (spelled_fields i).imm

abbrev pub AreSpelt : List Instruction → Type 0
AreSpelt [] = Unit {0}
AreSpelt (i ∷ code) = IsSpelt i × AreSpelt code

pub spelt_both : (a b : List Instruction) → AreSpelt a → AreSpelt b → AreSpelt (a ++ b)
spelt_both [] b x y = y
spelt_both (i ∷ a) b x y = (x.0, spelt_both a b x.1 y)

without_second : (f : Fields) → f.upper ≡ None → first_bytes f ++ second_bytes f.upper ≡ first_bytes f
without_second f none = rw none refl

spelled_bytes : (i : Instruction) → IsSpelt i → spelling i ≡ first_bytes (spelled_fields i)
unfolding spelling
spelled_bytes i is = without_second (spelled_fields i) is.upper

spelled_length : (i : Instruction) → IsSpelt i → length (spelling i) ≡ 8
spelled_length i is = rw (spelled_bytes i is) refl

-- ---- the bytes of an image

abbrev pub image_of : List Instruction → List ℕ
image_of code = flat_map spelling code

image_length : (code : List Instruction) → AreSpelt code → length (image_of code) ≡ 8 * length code
image_length [] are = refl
image_length (i ∷ code) are =
    let cons = ap (λ (l : List ℕ). length l) (flat_map-cons spelling i code) in
    omega (arith, cons, length-append (spelling i) (image_of code), spelled_length i are.0, image_length code are.1)

byte_is : (code : List Instruction) → AreSpelt code → (k j : ℕ) (i : Instruction) → slice_get code k ≡ Some i →
    j < 8 → get_or (image_of code) (8 * k + j) 0 ≡ get_or (first_bytes (spelled_fields i)) j 0
byte_is [] are k j i at low = absurd cc
byte_is (p ∷ code) are zero j i at low =
    let place : 8 * 0 + j ≡ j = omega arith in
    let long : j < length (spelling p) = omega (arith, spelled_length p are.0) in
    ap (λ (n : ℕ). get_or (image_of (p ∷ code)) n 0) place
    ∙ ap (λ (l : List ℕ). get_or l j 0) (flat_map-cons spelling p code)
    ∙ get_or_append_left (spelling p) (image_of code) 0 j long
    ∙ ap (λ (l : List ℕ). get_or l j 0) (spelled_bytes p are.0)
    ∙ ap (λ (q : Instruction). get_or (first_bytes (spelled_fields q)) j 0) (same_Some p i at)
byte_is (p ∷ code) are (suc k) j i at low =
    let place : 8 * suc k + j ≡ length (spelling p) + (8 * k + j) = omega (arith, spelled_length p are.0) in
    ap (λ (n : ℕ). get_or (image_of (p ∷ code)) n 0) place
    ∙ ap (λ (l : List ℕ). get_or l (length (spelling p) + (8 * k + j)) 0) (flat_map-cons spelling p code)
    ∙ get_or-append-add (spelling p) (image_of code) (8 * k + j) 0
    ∙ byte_is code are.1 k j i at low

-- ---- the fields of a slot

abbrev fields_of : (opcode dst src : ℕ) → (offset imm : ℤ) → Option ℕ → Fields
fields_of opcode dst src offset imm upper =
    record { opcode = opcode; dst = dst; src = src; offset = offset; imm = imm; upper = upper }

same_fields : (o p d e s t : ℕ) (a b m n : ℤ) (u v : Option ℕ) → o ≡ p → d ≡ e → s ≡ t → a ≡ b → m ≡ n → u ≡ v →
    fields_of o d s a m u ≡ fields_of p e t b n v
same_fields o p d e s t a b m n u v opcode dst src offset imm upper = rw (opcode, dst, src, offset, imm, upper) refl

bound_16 : (z : ℤ) → FitsSigned w16 z → cast_unsigned w16 z < 2 ^ 16
bound_16 z fits = (Fits-of_z fits).fits

bound_32 : (z : ℤ) → FitsSigned w32 z → cast_unsigned w32 z < 2 ^ 32
bound_32 z fits = (Fits-of_z fits).fits

short_again : (z : ℤ) (a b : ℕ) → FitsSigned w16 z → a ≡ byte_of 0 (cast_unsigned w16 z) →
    b ≡ byte_of 1 (cast_unsigned w16 z) → cast_signed w16 (from_le_bytes w16 (a ∷ b ∷ [])) ≡ z
short_again z a b fits x y =
    rw (x, y) (ap (cast_signed w16) (from_le_bytes-to_le_bytes_2 (cast_unsigned w16 z) (bound_16 z fits)) ∙ to_z-of_z w16 z fits)

word_again : (z : ℤ) (a b c d : ℕ) → FitsSigned w32 z → a ≡ byte_of 0 (cast_unsigned w32 z) →
    b ≡ byte_of 1 (cast_unsigned w32 z) → c ≡ byte_of 2 (cast_unsigned w32 z) → d ≡ byte_of 3 (cast_unsigned w32 z) →
    cast_signed w32 (from_le_bytes w32 (a ∷ b ∷ c ∷ d ∷ [])) ≡ z
word_again z a b c d fits x y u v =
    rw (x, y, u, v) (ap (cast_signed w32) (from_le_bytes-to_le_bytes_4 (cast_unsigned w32 z) (bound_32 z fits)) ∙ to_z-of_z w32 z fits)

low_part : (d s b : ℕ) → d ≤ 10 → b ≡ d + 16 * s → b % 16 ≡ d
low_part d s b few is = omega arith

high_part : (d s b : ℕ) → d ≤ 10 → b ≡ d + 16 * s → b / 16 ≡ s
high_part d s b few is = omega arith

no_upper : (o p : ℕ) (x : Option ℕ) → o ≡ p → (p == 0x18) ≡ false → cond (o == 0x18) x None ≡ None
no_upper o p x same narrow = rw (same, narrow) refl

module _ (code : List Instruction) (are : AreSpelt code) (k : ℕ) (i : Instruction) (at : slice_get code k ≡ Some i)
    (is : IsSpelt i) where
  abbrev f : Fields
  f = spelled_fields i

  abbrev image : List ℕ
  image = image_of code

  here : (j : ℕ) → j < 8 → get_or (image_of code) (8 * k + j) 0 ≡ get_or (first_bytes (spelled_fields i)) j 0
  here j low = byte_is code are k j i at low

  fields_are : fields_at (image_of code) k ≡ spelled_fields i
  fields_are = same_fields _ _ _ _ _ _ _ _ _ _ _ _
      (here 0 (omega arith))
      (low_part _ _ _ is.names.dst (here 1 (omega arith)))
      (high_part _ _ _ is.names.dst (here 1 (omega arith)))
      (short_again _ _ _ is.offset (here 2 (omega arith)) (here 3 (omega arith)))
      (word_again _ _ _ _ _ is.imm (here 4 (omega arith)) (here 5 (omega arith)) (here 6 (omega arith)) (here 7 (omega arith)))
      (no_upper _ _ _ (here 0 (omega arith)) is.narrow ∙ sym is.upper)

  pub form_is : form_at (image_of code) k ≡ Some i
  unfolding read_slot
  form_is = ap (λ (g : Fields). if_read (read_fields k g)) fields_are ∙ ap if_read (is.reads k)

-- ---- whole code

-- instructions at slots one after another
abbrev pub placed_from : ℕ → List Instruction → List Placed
placed_from slot [] = []
placed_from slot (i ∷ code) = record { slot = slot; instruction = i } ∷ placed_from (slot + 1) code

pub placed_length : (slot : ℕ) (code : List Instruction) → length (placed_from slot code) ≡ length code
placed_length slot [] = refl
placed_length slot (i ∷ code) = ap suc (placed_length (slot + 1) code)

-- an instruction, and the slot that it has
pub placed_at : (slot : ℕ) (code : List Instruction) (k : ℕ) (placed : Placed) →
    slice_get (placed_from slot code) k ≡ Some placed →
    (slice_get code k ≡ Some placed.instruction) × (placed.slot ≡ slot + k)
placed_at slot [] k placed e = absurd cc
placed_at slot (i ∷ code) zero placed e =
    let same = same_Some (record { slot = slot; instruction = i }) placed e in
    (ap (λ (p : Placed). Some p.instruction) same, sym (ap (λ (p : Placed). p.slot) same) ∙ omega arith)
placed_at slot (i ∷ code) (suc k) placed e =
    let next = placed_at (slot + 1) code k placed e in (next.0, omega (arith, next.1))

pub placed_get : (slot : ℕ) (code : List Instruction) (k : ℕ) → k < length code →
    (placed : Placed) × (slice_get (placed_from slot code) k ≡ Some placed) × (placed.slot ≡ slot + k)
placed_get slot code k low =
    let found = element (placed_from slot code) k (omega (arith, placed_length slot code)) in
    (found.0, found.1, (placed_at slot code k found.0 found.1).1)

spelt_at : (code : List Instruction) → AreSpelt code → (k : ℕ) (i : Instruction) → slice_get code k ≡ Some i → IsSpelt i
spelt_at [] are k i at = absurd cc
spelt_at (p ∷ code) are zero i at = subst IsSpelt (same_Some p i at) are.0
spelt_at (p ∷ code) are (suc k) i at = spelt_at code are.1 k i at

pub form_there : (code : List Instruction) → AreSpelt code → (k : ℕ) (i : Instruction) → slice_get code k ≡ Some i →
    form_at (image_of code) k ≡ Some i
form_there code are k i at = form_is code are k i at (spelt_at code are k i at)

count_is : (code : List Instruction) → AreSpelt code → slot_count (image_of code) ≡ length code
count_is code are = omega (arith, image_length code are)

next_slot : (code : List Instruction) → AreSpelt code → (k : ℕ) → k < length code →
    slot_after (image_of code) k ≡ k + 1
next_slot code are k low =
    let i = element code k low in
    omega (arith, slot_after_form (image_of code) k i.0 (form_there code are k i.0 i.1), (spelt_at code are k i.0 i.1).slots)

slots_are : (image : List ℕ) (rest : List Instruction) (slot : ℕ) → slot + length rest ≡ slot_count image →
    ((k : ℕ) → k < slot_count image → slot_after image k ≡ k + 1) →
    map (λ (p : Placed). p.slot) (placed_from slot rest) ≡ first_slots_from image (length rest) slot
slots_are image [] slot ends next = refl
slots_are image (i ∷ rest) slot ends next =
    let low : slot < slot_count image = omega arith in
    rw (lt-ltb slot (slot_count image) low, next slot low)
    (ap (λ (l : List ℕ). slot ∷ l) (slots_are image rest (slot + 1) (omega arith) next))

size_is : (code : List Instruction) → AreSpelt code → 1 ≤ length code → length code ≤ MAX_SLOTS →
    has_size (image_of code) ≡ true
size_is code are some few =
    let long = image_length code are in
    let count = count_is code are in
    let rest : length (image_of code) % 8 ≡ 0 = omega arith in
    and_from _ _ (and_from _ _ (eq-eqb _ _ rest) (le-leb 1 _ (omega arith))) (le-leb _ MAX_SLOTS (omega arith))

-- the image of code has that code
pub code_is : (code : List Instruction) → AreSpelt code → 1 ≤ length code → length code ≤ MAX_SLOTS →
    IsCodeOf (image_of code) (placed_from 0 code)
unfolding first_slots
code_is code are some few =
    let count = count_is code are in
    record {
      size = size_is code are some few;
      slots = slots_are (image_of code) code 0 (omega (arith, count)) (λ k low. next_slot code are k (omega (arith, count)))
          ∙ ap (λ (n : ℕ). first_slots_from (image_of code) n 0) (sym count);
      forms = λ k placed at.
          let found = placed_at 0 code k placed at in
          let same : placed.slot ≡ k = omega (arith, found.1) in
          rw same (form_there code are k placed.instruction found.0);
    }
