-- The fields that an instruction is spelled with encode that instruction.
use Rattle.std.proofs.Common.{◌≡◌, ℕ, ◌+◌, ◌*◌, ◌/◌, ◌%◌, ◌^◌, ◌<◌, ◌≤◌, Bool, true, cond, Option, Result, Ok, Err}
use Rattle.std.proofs.Common.{refl, arith}
use Rattle.std.specs.Int.{w32, cast_unsigned, cast_signed}
use Rattle.std.proofs.{lemmas.Bool.le-leb, lemmas.Int.of_z-to_z}
use Rattle.machine_spec.specs.{declared.instruction.Instruction.Instruction, declared.instruction.IsaFault.IsaFault}
use Rattle.machine_spec.specs.{Image.read_fields, Image.slots_of, declared.operation.Width.TheVariants.Bits32}
use Rattle.machine_spec.specs.declared.operation.Operation.TheVariants.{Add}
use Rattle.machine_spec.specs.declared.operation.ByteOrder.TheVariants.{LittleEndian}
use Rattle.machine_spec.specs.declared.operation.Test.TheVariants.{Equal}
use Rattle.machine_spec.specs.declared.instruction.Extension.TheVariants.{Sign}
use Rattle.machine_spec.specs.declared.instruction.Distance.TheVariants.{Short}
use Rattle.machine_spec.specs.declared.instruction.Source.TheVariants.{Register}
use Rattle.machine_spec.specs.declared.operation.SwappedWidth.TheVariants as swapped
use Rattle.machine_spec.specs.declared.operation.ExtendedWidth.TheVariants as extended
use Rattle.machine_spec.specs.declared.operation.Change.TheVariants.{Negate, Order, SignExtend}
use Rattle.machine_spec.specs.declared.instruction.Size.TheVariants.{Byte, Double}
use Rattle.machine_spec.specs.declared.instruction.Instruction.TheVariants.{Move, Compute, Load, Unary, Store, JumpIf}
use Rattle.machine_spec.specs.declared.instruction.Instruction.TheVariants.{Jump, Wide}
use Rattle.machine_spec.specs.declared.instruction.IsaFault.TheVariants as fault
use Rattle.machine_spec.specs.Opcodes.{Fields, Uses, template_of, uses_of, has_registers}
use Rattle.bpf_isa.specs.Spelling.{spelled_fields, HasRegisters}
use Rattle.bpf_asm.proofs.Ranges.{is_form, Ranged}

-- fields with another upper half
abbrev pub with_upper : Fields → Option ℕ → Fields
with_upper f upper = record {
  opcode = f.opcode;
  dst = f.dst;
  src = f.src;
  offset = f.offset;
  imm = f.imm;
  upper = upper;
}

abbrev pub if_registers : ℕ → Instruction → Bool → Result Instruction IsaFault
if_registers slot i are = cond are (Ok i) (Err (fault.Register slot))

-- An instruction's fields read as it, if they name registers, whatever the second slot is.
again : (slot : ℕ) (upper : Option ℕ) (i : Instruction) → is_form i ≡ true → Ranged i → slots_of i ≡ 1 →
    read_fields slot (with_upper (spelled_fields i) upper)
    ≡ if_registers slot i (has_registers (uses_of i) (spelled_fields i))
unfolding read_fields template_of
again _ _ (Move Bits32 _ (Register _)) _ _ _ = refl
again _ _ (Move _ _ (Register _)) _ _ _ = refl
again _ _ (Compute Bits32 Add _ (Register _)) _ _ _ = refl
again _ _ (Compute _ Add _ (Register _)) _ _ _ = refl
again _ _ (Compute _ _ _ (Register _)) _ _ _ = refl
again _ _ (Load Double Sign _ _ _) form _ _ = absurd cc
again _ _ (Load _ Sign _ _ _) _ _ _ = refl
again _ _ (Unary (Negate Bits32) _ _) _ same _ = rw same
again _ _ (Unary (Negate _) _ _) _ same _ = rw same
again _ _ (Unary (Order LittleEndian swapped.Bits16) _ _) _ same _ = rw same
again _ _ (Unary (Order _ swapped.Bits16) _ _) _ same _ = rw same
again _ _ (Unary (Order _ _) _ _) _ same _ = rw same
again _ _ (Unary (SignExtend Bits32 extended.Bits32) _ _) form _ _ = absurd cc
again _ _ (Unary (SignExtend _ extended.Bits8) _ _) _ _ _ = refl
again _ _ (Store Byte _ _ (Register _)) _ _ _ = refl
again _ _ (Store _ _ _ (Register _)) _ _ _ = refl
again _ _ (JumpIf Bits32 Equal _ (Register _) _) _ _ _ = refl
again _ _ (JumpIf _ Equal _ (Register _) _) _ _ _ = refl
again _ _ (JumpIf _ _ _ (Register _) _) _ _ _ = refl
again _ _ (Jump (Short _)) _ _ _ = refl
again _ _ (Wide _ _) _ _ one = absurd cc
again _ _ _ _ _ _ = refl

-- ---- registers

registers_hold : (uses : Uses) (f : Fields) → f.dst ≤ 10 → f.src ≤ 10 → has_registers uses f ≡ true
registers_hold uses f dst src = grind (arith, le-leb)

-- an instruction of one slot
pub narrow_read : (slot : ℕ) (upper : Option ℕ) (i : Instruction) → is_form i ≡ true → Ranged i → HasRegisters i →
    slots_of i ≡ 1 → read_fields slot (with_upper (spelled_fields i) upper) ≡ Ok i
narrow_read slot upper i form ranged registers one =
    let are = registers_hold (uses_of i) (spelled_fields i) registers.dst registers.src in
    rw are at (again slot upper i form ranged one)

-- the number of a 64-bit immediate is that of its halves
halves : (n : ℕ) → n < 2 ^ 64 → n / 2 ^ 32 * 2 ^ 32 + cast_unsigned w32 (cast_signed w32 (n % 2 ^ 32)) ≡ n
halves n small = omega (arith, of_z-to_z w32 (n % 2 ^ 32) (omega arith))

pub wide_read : (slot dst n : ℕ) → n < 2 ^ 64 → dst ≤ 10 →
    read_fields slot (spelled_fields (Wide dst n)) ≡ Ok (Wide dst n)
unfolding read_fields template_of
wide_read slot dst n small register =
    rw (halves n small, registers_hold (uses_of (Wide dst n)) (spelled_fields (Wide dst n)) register (omega arith))
