-- No image begins as a program file.
use Rattle.std.proofs.Common.{◌≡◌, ℕ, zero, suc, ◌-◌, ◌<◌, ◌≤◌, Bool, true, false, if◌then◌else◌}
use Rattle.std.proofs.Common.{List, ◌∷◌, get_or, Some, None, Result, Ok, Err, refl, sym, ap, arith, codes}
use Rattle.std.proofs.lemmas.Bool.{and_parts, lt-ltb, leb-true}
use Rattle.std.proofs.lemmas.{Bool.Decides.Decides-eqb, Slice.Eq.starts_is}
use Rattle.machine_spec.specs.declared.{instruction.Instruction.Instruction, instruction.Placed.Placed}
use Rattle.machine_spec.specs.declared.{instruction.IsaFault.IsaFault}
use Rattle.machine_spec.specs.declared.instruction.IsaFault.TheVariants.{Size}
use Rattle.machine_spec.specs.Opcodes.{Fields, template_of}
use Rattle.machine_spec.specs.Image.{byte_at, fields_at, read_fields, read_slot, slot_after, slot_count, first_slots_from}
use Rattle.machine_spec.specs.Image.{first_slots, has_size, then_placed, read_image}
use Rattle.machine_spec.proofs.Readings.{read_parts}
use Rattle.program_file.specs.Reading.{is_program_file}

-- no instruction has the opcode 75, which is `K`
no_template : (f : Fields) → f.opcode ≡ 75 → template_of f ≡ None
unfolding template_of
no_template f e = rw e

no_fields : (f : Fields) (i : Instruction) → f.opcode ≡ 75 → read_fields 0 f ≡ Ok i → ⊥
no_fields f i e read =
    let parts = read_parts 0 f i read in
    let none = no_template f e in
    let both : Some parts.template ≡ None = rw none at (sym parts.found) in cc

first_placed : (slot : ℕ) (read : Result Instruction IsaFault) (others : Result (List Placed) IsaFault)
    (code : List Placed) → then_placed slot read others ≡ Ok code → (i : Instruction) × (read ≡ Ok i)
first_placed slot (Ok i) others code e = (i, refl)
first_placed slot (Err fault) others code e = let no : ⊥ = cc in absurd no

first_slot : (image : List ℕ) (count : ℕ) → 0 < count → count ≤ slot_count image →
    first_slots_from image count 0 ≡ 0 ∷ first_slots_from image (count - 1) (slot_after image 0)
first_slot image zero some within = absurd (omega arith)
first_slot image (suc count) some within =
    let last : suc count - 1 ≡ count = omega arith in
    rw (lt-ltb 0 (slot_count image) (omega arith), last)

sized : (image : List ℕ) (b : Bool) (rest : Result (List Placed) IsaFault) (code : List Placed) →
    (if b then rest else Err Size) ≡ Ok code → (b ≡ true) × (rest ≡ Ok code)
sized image true rest code e = (refl, e)
sized image false rest code e = let no : ⊥ = cc in absurd no

pub no_image : (image : List ℕ) (code : List Placed) → read_image image ≡ Ok code → is_program_file image ≡ true → ⊥
unfolding read_image first_slots read_slot
no_image image code read begins =
    let parts = sized image (has_size image) _ code read in
    let some : 1 ≤ slot_count image = leb-true _ _ (and_parts _ _ (and_parts _ _ parts.0).0).1 in
    let slots = first_slot image (slot_count image) (omega arith) (omega arith) in
    let first = first_placed 0 _ _ code (rw slots at parts.1) in
    let mark = (starts_is Decides-eqb image (codes "KLOG") (is_program_file image) refl).0 begins in
    let byte : byte_at image 0 0 ≡ 75 = ap (λ (bytes : List ℕ). get_or bytes 0 0) mark in
    no_fields (fields_at image 0) first.0 byte first.1
