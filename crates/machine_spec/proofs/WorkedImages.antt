-- What small images read as, worked out by computing.
use Rattle.std.proofs.Common.{◌≡◌, ℕ, List, [], ◌∷◌, ◌++◌, map, Err, refl}
use Rattle.machine_spec.specs.declared.instruction.IsaFault.{IsaFault}
use Rattle.machine_spec.specs.declared.instruction.IsaFault.TheVariants as fault
use Rattle.machine_spec.specs.Opcodes.{template_of, is_left_out}
use Rattle.machine_spec.specs.Image.{read_slot, read_fields, first_slots, read_image}
use Rattle.machine_spec.proofs.Runs.{slot, move_to, exit}

abbrev refusals : List (List ℕ × IsaFault)
refusals =
    ([], fault.Size)
    -- 12 bytes
    ∷ (exit ++ (0 ∷ 0 ∷ 0 ∷ 0 ∷ []), fault.Size)
    -- db is an opcode of a table, and outside the profile
    ∷ (slot 0xdb 0 0 0, fault.NotInProfile 0)
    -- ff is one of no table
    ∷ (slot 0xff 0 0 0, fault.Opcode 0)
    -- mov64 r11, 0
    ∷ (move_to 11 0, fault.Register 0)
    -- exit with an immediate
    ∷ (slot 0x95 0 0 1, fault.Unused 0)
    -- div64 with an offset that is neither 0 nor 1
    ∷ (slot 0x37 0 2 1, fault.Unused 0)
    -- add64 with an offset
    ∷ (slot 0x07 0 1 1, fault.Unused 0)
    -- movsx32 of 32 bits
    ∷ (slot 0xbc 0 32 0, fault.Unused 0)
    -- le of 8 bits
    ∷ (slot 0xd4 0 0 8, fault.Unused 0)
    -- neg64 with a register for its source is in no table
    ∷ (slot 0x8f 0 0 0, fault.Opcode 0)
    -- a 64-bit immediate without its second slot
    ∷ (exit ++ slot 0x18 0 0 0, fault.Wide 1)
    -- a second slot with an opcode
    ∷ (slot 0x18 0 0 0 ++ exit, fault.Wide 0)
    -- a second slot with an offset
    ∷ (slot 0x18 0 0 0 ++ slot 0 0 1 0, fault.Wide 0)
    -- src 1
    ∷ (slot 0x18 0x10 0 0 ++ slot 0 0 0 0, fault.NotInProfile 0)
    -- imm64 r11, 0, cut
    ∷ (slot 0x18 11 0 0, fault.Register 0)
    -- a 64-bit immediate with an offset, cut
    ∷ (slot 0x18 0 1 0, fault.Unused 0)
    -- ja with an immediate
    ∷ (slot 0x05 0 1 1, fault.Unused 0)
    -- a sign-extending load of eight bytes is in no table
    ∷ (slot 0x99 0 0 0, fault.Opcode 0)
    ∷ []

refusals_hold : map (λ row. read_image row.0) refusals ≡ map (λ row. Err row.1) refusals
unfolding read_image read_slot read_fields template_of is_left_out first_slots
refusals_hold = refl
