-- Instructions that are spelled one after another are what their bytes read as.
use Rattle.std.proofs.Common.{SFits, ◌≡◌, ℕ, zero, suc, ◌+◌, ◌*◌, ◌/◌, ◌%◌, ◌^◌, ◌<◌, ◌≤◌, ℤ, true, List, [], ◌∷◌, ◌++◌}
use Rattle.std.proofs.Common.{length, map, Option, Some, Ok, refl, ap, arith, append_assoc, slice_index, flat_map}
use Rattle.std.specs.Int.{w16, w32, from_le_bytes, to_le_bytes, cast_signed, cast_unsigned}
use Rattle.std.proofs.{Math.Facts.Fits-of_z, lemmas.Nat.from_le_bytes-to_le_bytes_2}
use Rattle.std.proofs.{lemmas.Nat.from_le_bytes-to_le_bytes_4, lemmas.Int.to_z-of_z, lemmas.List.length-append}
use Rattle.std.proofs.lemmas.List.{get_or-append-add}
use Rattle.std.proofs.lemmas.Bool.{lt-ltb, le-ltb, le-leb, eq-eqb}
use Rattle.machine_spec.specs.{declared.instruction.Instruction.Instruction, declared.instruction.Placed.Placed}
use Rattle.machine_spec.specs.{declared.limits.TheConstants.MAX_SLOTS, Opcodes.Fields}
use Rattle.machine_spec.specs.{declared.instruction.Distance.TheVariants.Short}
use Rattle.machine_spec.specs.declared.instruction.Instruction.TheVariants.{Jump, Wide}
use Rattle.machine_spec.specs.Image.{slot_count, byte_at, word_at, fields_at, read_slot, first_slots_from, first_slots}
use Rattle.machine_spec.specs.Image.{slots_of, read_slots, has_size, read_image}
use Rattle.bpf_isa.specs.Spelling.{spelled_fields, first_bytes, second_bytes, spelling}
use Rattle.bpf_isa.proofs.Bytes.{next_slot, some_slots}
use Rattle.bpf_asm.proofs.{NumberTexts.Fits, Ranges.IsSaid, Ranges.spelled_fit}
use Rattle.bpf_asm.proofs.FieldsRead.{with_upper, narrow_read, wide_read}

-- ---- a slot

-- numbers as bytes and back
signed_16 : (z : ℤ) → Fits (2 ^ 15) z → SFits w16 z
signed_16 z fits = grind arith

signed_32 : (z : ℤ) → Fits (2 ^ 31) z → SFits w32 z
signed_32 z fits = grind arith

half_again : (z : ℤ) → Fits (2 ^ 15) z → cast_signed w16 (from_le_bytes w16 (to_le_bytes w16 (cast_unsigned w16 z))) ≡ z
half_again z fits =
    let small = signed_16 z fits in
    rw (from_le_bytes-to_le_bytes_2 _ (Fits-of_z {w = w16} small).fits) (to_z-of_z w16 z small)

word_again : (z : ℤ) → Fits (2 ^ 31) z → cast_signed w32 (from_le_bytes w32 (to_le_bytes w32 (cast_unsigned w32 z))) ≡ z
word_again z fits =
    let small = signed_32 z fits in
    rw (from_le_bytes-to_le_bytes_4 _ (Fits-of_z {w = w32} small).fits) (to_z-of_z w32 z small)

-- a byte of a slot that begins after others
byte_there : (front bytes : List ℕ) (slot k : ℕ) → length front ≡ 8 * slot →
    byte_at (front ++ bytes) slot k ≡ slice_index bytes k
byte_there front bytes slot k long = rw (← long) (get_or-append-add front bytes k 0)

same_fields : (f : Fields) (opcode dst src : ℕ) (offset imm : ℤ) (upper : Option ℕ) → opcode ≡ f.opcode → dst ≡ f.dst →
    src ≡ f.src → offset ≡ f.offset
    → imm ≡ f.imm
    → with_upper (record { opcode = opcode; dst = dst; src = src; offset = offset; imm = imm; upper = upper }) upper
    ≡ with_upper f upper
same_fields f opcode dst src offset imm upper a b c d e = rw (a, b, c, d, e) refl

-- the fields of the slot are those that it is spelled with
pub fields_there : (front rest : List ℕ) (slot : ℕ) (i : Instruction) → length front ≡ 8 * slot → IsSaid i
    → let image = front ++ (spelling i ++ rest) in fields_at image slot
    ≡ with_upper (spelled_fields i) (fields_at image slot).upper
unfolding spelling
fields_there front rest slot i long said =
    let f = spelled_fields i in
    let bytes = (first_bytes f ++ second_bytes f.upper) ++ rest in
    let there = λ (k : ℕ). byte_there front bytes slot k long in
    let registers : byte_at (front ++ bytes) slot 1 ≡ f.dst + 16 * f.src = there 1 in
    let small = said.registers.dst in
    let fit = spelled_fit i said.held.ranged in
    same_fields f _ _ _ _ _ (fields_at (front ++ bytes) slot).upper (there 0) (omega arith) (omega arith)
    (rw (there 2, there 3) (half_again f.offset fit.offset))
    (rw (there 4, there 5, there 6, there 7) (word_again f.imm fit.imm))

-- an instruction of one slot is read there
narrow_there : (front rest : List ℕ) (slot : ℕ) (i : Instruction) → length front ≡ 8 * slot → IsSaid i → slots_of i ≡ 1
    → read_slot (front ++ (spelling i ++ rest)) slot ≡ Ok i
unfolding read_slot
narrow_there front rest slot i long said one =
    rw (fields_there front rest slot i long said)
    (narrow_read slot _ i said.held.form said.held.ranged said.registers one)

-- a byte of the slot after it
byte_after : (front bytes : List ℕ) (slot k : ℕ) → length front ≡ 8 * slot →
    byte_at (front ++ bytes) (slot + 1) k ≡ slice_index bytes (8 + k)
byte_after front bytes slot k long =
    let place : 8 * (slot + 1) + k ≡ 8 * slot + (8 + k) = omega arith in
    rw place (byte_there front bytes slot (8 + k) long)

-- the upper half of a 64-bit immediate
upper_there : (front rest : List ℕ) (slot dst n : ℕ) → length front ≡ 8 * slot → n < 2 ^ 64
    → (fields_at (front ++ (spelling (Wide dst n) ++ rest)) slot).upper ≡ Some (n / 2 ^ 32)
unfolding spelling
upper_there front rest slot dst n long small =
    let f = spelled_fields (Wide dst n) in
    let bytes = (first_bytes f ++ second_bytes f.upper) ++ rest in
    let image = front ++ bytes in
    let after = λ (k : ℕ). byte_after front bytes slot k long in
    let opcode : byte_at image slot 0 ≡ 0x18 = byte_there front bytes slot 0 long in
    let zeros : word_at image (slot + 1) 0 ≡ 0 = rw (after 0, after 1, after 2, after 3) refl in
    let two : 16 ≤ length bytes = omega arith in
    let within : slot + 1 < slot_count image = omega (arith, length-append front bytes) in
    rw (eq-eqb (byte_at image slot 0) 0x18 opcode, lt-ltb _ _ within, eq-eqb _ _ zeros)
    (rw (after 4, after 5, after 6, after 7, from_le_bytes-to_le_bytes_4 (n / 2 ^ 32) (omega arith)))

slot_there : (front rest : List ℕ) (slot : ℕ) (i : Instruction) → length front ≡ 8 * slot → IsSaid i →
    read_slot (front ++ (spelling i ++ rest)) slot ≡ Ok i
unfolding read_slot
slot_there front rest slot (Wide dst n) long said =
    rw (fields_there front rest slot (Wide dst n) long said, upper_there front rest slot dst n long said.held.ranged)
    (wide_read slot dst n said.held.ranged said.registers.dst)
slot_there front rest slot i long said = narrow_there front rest slot i long said refl

-- ---- all slots

abbrev pub AllSaid : List Instruction → Type 0
AllSaid [] = Unit {0}
AllSaid (i ∷ is) = IsSaid i × AllSaid is

abbrev pub spellings : List Instruction → List ℕ
spellings is = flat_map spelling is

-- instructions one after another from a slot on
abbrev pub placed_from : ℕ → List Instruction → List Placed
placed_from slot [] = []
placed_from slot (i ∷ is) = record { slot = slot; instruction = i } ∷ placed_from (slot + slots_of i) is

pub placed_instructions : (slot : ℕ) (is : List Instruction) →
    map (λ placed. placed.instruction) (placed_from slot is) ≡ is
placed_instructions slot [] = refl
placed_instructions slot (i ∷ is) = rw (placed_instructions (slot + slots_of i) is)

spelling_length : (i : Instruction) → length (spelling i) ≡ 8 * slots_of i
unfolding spelling
spelling_length (Jump (Short _)) = refl
spelling_length _ = refl

-- an image has whole slots
whole : (is : List Instruction) → length (spellings is) % 8 ≡ 0
whole [] = refl
whole (i ∷ is) =
    omega (arith, length-append (spelling i) (spellings is), spelling_length i, whole is)

past : (front : List ℕ) (i : Instruction) (is : List Instruction) (slot : ℕ) → length front ≡ 8 * slot
    → slot < slot_count (front ++ (spelling i ++ spellings is))
past front i is slot long =
    omega (arith, length-append {A = ℕ}, spelling_length i, some_slots i)

-- the slots from one on, after others, read as the instructions that are spelled there
slots_read : (front : List ℕ) (is : List Instruction) (steps slot : ℕ) → AllSaid is → length front ≡ 8 * slot →
    slot_count (front ++ spellings is) ≤ slot + steps →
    read_slots (front ++ spellings is) (first_slots_from (front ++ spellings is) steps slot) ≡ Ok (placed_from slot is)
slots_read front [] zero slot said long enough = refl
slots_read front [] (suc steps) slot said long enough =
    let size : length (front ++ []) ≡ length front + 0 = length-append front [] in
    rw (le-ltb slot (slot_count (front ++ [])) (omega arith)) refl
slots_read front (i ∷ is) zero slot said long enough = absurd (omega (arith, past front i is slot long))
slots_read front (i ∷ is) (suc steps) slot said long enough =
    let image = front ++ (spelling i ++ spellings is) in
    let here = slot_there front (spellings is) slot i long said.0 in
    let regroup = append_assoc front (spelling i) (spellings is) in
    let size = ap length regroup in
    let before : length (front ++ spelling i) ≡ 8 * (slot + slots_of i) =
    omega (arith, length-append front (spelling i), spelling_length i) in
    let later = slots_read (front ++ spelling i) is steps (slot + slots_of i) said.1 before
    (omega (arith, some_slots i)) in
    let next = next_slot image slot i here in
    rw (lt-ltb slot (slot_count image) (past front i is slot long), next, here, rw regroup at later)

-- bytes of 1 to MAX_SLOTS slots read as the instructions that are spelled there
pub image_read : (is : List Instruction) → AllSaid is → 0 < length (spellings is) →
    length (spellings is) ≤ 8 * MAX_SLOTS → read_image (spellings is) ≡ Ok (placed_from 0 is)
unfolding read_image first_slots
image_read is said some few =
    let image = spellings is in
    let rest = whole is in
    let size : has_size image ≡ true = grind (arith, eq-eqb, le-leb) in
    rw size (slots_read [] is (slot_count image) 0 said refl (omega arith))
