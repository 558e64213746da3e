-- The bytes of an image from a slot on, and the instruction that they are with 0 in some fields.
use Rattle.std.specs.Prelude.{ℕ, ◌+◌, ◌*◌, ◌/◌, ◌%◌, Bool, true, false, if◌then◌else◌, List, [], ◌∷◌, slice_index}
use Rattle.std.specs.Prelude.{Option, is_some}
use Rattle.machine_spec.specs.{declared.instruction.Instruction.Instruction, Image.form_at}
use Rattle.explain.specs.declared.slot_bytes.Cleared.{Cleared}

-- every field
abbrev pub everything : Cleared
everything = record { dst = true; src = true; offset = true; imm = true }

-- a byte of a field, or 0 where the field is cleared
abbrev pub kept_byte : Bool → ℕ → ℕ
kept_byte is_cleared byte = if is_cleared then 0 else byte

-- the byte of both registers, with 0 for each one whose field is cleared
abbrev pub registers : Cleared → ℕ → ℕ
registers c byte = kept_byte c.dst (byte % 16) + kept_byte c.src (byte / 16 * 16)

-- The first two slots of some bytes with 0 in some fields, and in the first four bytes of the second slot. A byte past
-- the end is 0.
abbrev pub cleared_slots : List ℕ → Cleared → List ℕ
cleared_slots bytes c =
    slice_index bytes 0 ∷ registers c (slice_index bytes 1)
    ∷ kept_byte c.offset (slice_index bytes 2) ∷ kept_byte c.offset (slice_index bytes 3)
    ∷ kept_byte c.imm (slice_index bytes 4) ∷ kept_byte c.imm (slice_index bytes 5)
    ∷ kept_byte c.imm (slice_index bytes 6) ∷ kept_byte c.imm (slice_index bytes 7)
    ∷ 0 ∷ 0 ∷ 0 ∷ 0
    ∷ slice_index bytes 12 ∷ slice_index bytes 13 ∷ slice_index bytes 14 ∷ slice_index bytes 15 ∷ []

-- the instruction that some bytes begin with then
unfoldable pub mended_instruction : List ℕ → Cleared → Option Instruction
mended_instruction bytes c = form_at (cleared_slots bytes c) 0

-- one field less is cleared where the bytes are an instruction with the field's own value
abbrev pub fields_to_clear : List ℕ → Cleared → Cleared → Cleared
fields_to_clear bytes c less = if is_some (mended_instruction bytes less) then less else c

-- The fields with which some bytes are no instruction: of all fields that are cleared each is given back its value, imm
-- first, unless the bytes are no instruction with it.
abbrev pub wrong_fields : List ℕ → Cleared
wrong_fields bytes =
    let a = fields_to_clear bytes everything (record everything { imm = false }) in
    let b = fields_to_clear bytes a (record a { offset = false }) in
    let c = fields_to_clear bytes b (record b { src = false }) in
    fields_to_clear bytes c (record c { dst = false })
