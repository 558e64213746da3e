-- The fields of a slot are those that its instruction is spelled with.
use Rattle.std.proofs.Common.{◌≡◌, ◌≤◌, ℕ, ◌+◌, ◌*◌, ◌^◌, ℤ, pos, Option, Some, None, refl, sym, Bool, subst}
use Rattle.std.proofs.Common.{zero, suc, false, arith, option_map, IfSome, cond}
use Rattle.std.specs.{Int.w32, Int.cast_unsigned, Ordering.int_eq}
use Rattle.std.proofs.{lemmas.Bool.Decides.Decides-int_eq, lemmas.Bool.cond_both}
use Rattle.machine_spec.specs.declared.{operation.Width.Width, operation.Operation.Operation}
use Rattle.machine_spec.specs.declared.{operation.ByteOrder.ByteOrder, operation.SwappedWidth.SwappedWidth}
use Rattle.machine_spec.specs.declared.{operation.ExtendedWidth.ExtendedWidth, instruction.Source.Source}
use Rattle.machine_spec.specs.declared.instruction.Instruction.{Instruction}
use Rattle.machine_spec.specs.declared.operation.Width.TheVariants.{Bits32}
use Rattle.machine_spec.specs.declared.operation.Operation.TheVariants.{Div, SignedDiv, Mod, SignedMod}
use Rattle.machine_spec.specs.declared.operation.SwappedWidth.TheVariants as swapped
use Rattle.machine_spec.specs.declared.operation.ExtendedWidth.TheVariants as extended
use Rattle.machine_spec.specs.declared.operation.Change.TheVariants.{Negate, Order, SignExtend}
use Rattle.machine_spec.specs.declared.instruction.Distance.TheVariants.{Short, Long}
use Rattle.machine_spec.specs.declared.instruction.Source.TheVariants.{Register, Immediate}
use Rattle.machine_spec.specs.declared.instruction.Instruction.TheVariants.{Move, Compute, Unary, Store, JumpIf, Jump}
use Rattle.machine_spec.specs.declared.instruction.Instruction.TheVariants.{Wide, Call, Exit}
use Rattle.machine_spec.specs.{Arithmetic.swapped_bits, Arithmetic.extended_bits, Image.slots_of}
use Rattle.machine_spec.specs.Opcodes.{Fields, arithmetic_class, operation_code, opcode_byte, order_opcode, opcode_of}
use Rattle.machine_spec.specs.Opcodes.{filled_source, signed_where, chosen_operation, extended_by, extending, moving}
use Rattle.machine_spec.specs.Opcodes.{swapped_by, with_fields, uses_source, has_signed_form, uses_of}
use Rattle.bpf_isa.specs.Spelling.{operation_offset, spelled_fields, changed_register}
use Rattle.bpf_isa.proofs.Cases.{HasZeros, all_made}

pub record IsSpelled (f : Fields) (i : Instruction) : Type 0 where
  pub opcode : f.opcode ≡ (spelled_fields i).opcode
  pub dst : f.dst ≡ (spelled_fields i).dst
  pub src : f.src ≡ (spelled_fields i).src
  pub offset : f.offset ≡ (spelled_fields i).offset
  pub imm : f.imm ≡ (spelled_fields i).imm

-- ---- what a field selects has that field

-- the first of three whose number a field has
first_of_three : {A : Type 0} (number : A → ℕ) (a b c : A) (z : ℤ) →
    IfSome (cond (int_eq z (pos (number a))) (Some a) (cond (int_eq z (pos (number b))) (Some b)
    (cond (int_eq z (pos (number c))) (Some c) None))) (λ x. z ≡ pos (number x))
first_of_three {A} number a b c z =
    by a _ (by b _ (by c None tt))
  where
    by : (x : A) (other : Option A) → IfSome other (λ x. z ≡ pos (number x)) →
        IfSome (cond (int_eq z (pos (number x))) (Some x) other) (λ x. z ≡ pos (number x))
    by x other rest = cond_both (int_eq z (pos (number x))) (Some x) other (λ o. IfSome o (λ x. z ≡ pos (number x)))
        (Decides-int_eq z (pos (number x))).0 (λ _. rest)

-- an operation that an offset selects has the template's code and that offset
abbrev IsSelected : Operation → ℤ → Operation → Type 0
IsSelected template offset operation =
    (operation_code operation ≡ operation_code template) × (offset ≡ operation_offset operation)

-- a quotient or a remainder
signed_selected : (template unsigned signed : Operation) (offset : ℤ) → IsSelected template (pos 0) unsigned →
    IsSelected template (pos 1) signed → IfSome (signed_where unsigned signed offset) (IsSelected template offset)
signed_selected template unsigned signed (pos zero) one other = one
signed_selected template unsigned signed (pos (suc zero)) one other = other
signed_selected template unsigned signed _ one other = tt

selected_operation : (template : Operation) (offset : ℤ) → (has_signed_form template ≡ false → offset ≡ pos 0) →
    IfSome (chosen_operation template offset) (IsSelected template offset)
selected_operation Div offset z = signed_selected Div Div SignedDiv offset (refl, refl) (refl, refl)
selected_operation SignedDiv offset z = signed_selected SignedDiv Div SignedDiv offset (refl, refl) (refl, refl)
selected_operation Mod offset z = signed_selected Mod Mod SignedMod offset (refl, refl) (refl, refl)
selected_operation SignedMod offset z = signed_selected SignedMod Mod SignedMod offset (refl, refl) (refl, refl)
selected_operation _ offset z = (refl, z refl)

-- ---- the fields of each form

-- what holds of a move and of each extension holds of what a move from a register is
module _ (f : Fields) (P : Instruction → Type 0) where
  extending_made : (width : Width) (part : Option ExtendedWidth) → ((part : ExtendedWidth) →
      f.offset ≡ pos (extended_bits part) → P (Unary (SignExtend width part) f.dst f.src)) →
      IfSome part (λ part. f.offset ≡ pos (extended_bits part)) → IfSome (extending width f.dst f.src part) P
  extending_made Bits32 (Some extended.Bits32) made is = tt
  extending_made _ (Some part) made is = made part is
  extending_made _ None made is = tt

  moving_made : (width : Width) → (f.offset ≡ pos 0 → P (Move width f.dst (Register f.src))) →
      ((part : ExtendedWidth) → f.offset ≡ pos (extended_bits part) → P (Unary (SignExtend width part) f.dst f.src)) →
      IfSome (moving width f.dst f.src f.offset) P
  moving_made width moved grown =
      cond_both (int_eq f.offset (pos 0)) (Some (Move width f.dst (Register f.src)))
      (extending width f.dst f.src (extended_by f.offset)) (λ made. IfSome made P)
      (λ at. moved ((Decides-int_eq f.offset (pos 0)).0 at))
      (λ _. extending_made width (extended_by f.offset) grown
      (first_of_three extended_bits extended.Bits8 extended.Bits16 extended.Bits32 f.offset))

module _ (f : Fields) where
  spelled : {i : Instruction} → (spelled_fields i).opcode ≡ f.opcode → f.dst ≡ (spelled_fields i).dst →
      f.src ≡ (spelled_fields i).src → f.offset ≡ (spelled_fields i).offset → f.imm ≡ (spelled_fields i).imm →
      IsSpelled f i
  spelled opcode dst src offset imm =
      record { opcode = sym opcode; dst = dst; src = src; offset = offset; imm = imm }

  -- a move from a register, by its offset
  moves : (width : Width) → opcode_byte 11 (Register 0) (arithmetic_class width) ≡ f.opcode → f.imm ≡ pos 0 →
      IfSome (moving width f.dst f.src f.offset) (IsSpelled f)
  moves width o m =
      moving_made f (IsSpelled f) width (λ at. spelled o refl refl at m) (λ part is. spelled o refl refl is m)

  orders : (order : ByteOrder) (width : Option SwappedWidth) → order_opcode order ≡ f.opcode → f.src ≡ 0 →
      f.offset ≡ pos 0 → IfSome width (λ width. f.imm ≡ pos (swapped_bits width)) →
      IfSome (option_map (λ w. Unary (Order order w) f.dst f.dst) width) (IsSpelled f)
  orders order None o s z is = tt
  orders order (Some width) o s z is = spelled o refl s z is

  -- an operation, by its source
  computes : (width : Width) (template : Operation) (source : Source) (operation : Option Operation) →
      opcode_byte (operation_code template) source (arithmetic_class width) ≡ f.opcode →
      HasZeros (uses_source source (has_signed_form template)) f →
      IfSome operation (IsSelected template f.offset) →
      IfSome (option_map (λ o. Compute width o f.dst (filled_source source f)) operation) (IsSpelled f)
  computes width template source None o z is = tt
  computes width template (Register r) (Some operation) o z is = spelled (rw is.0 o) refl refl is.1 (z.imm refl)
  computes width template (Immediate imm) (Some operation) o z is = spelled (rw is.0 o) refl (z.src refl) is.1 refl

  offset_unused : (source : Source) (signed : Bool) → HasZeros (uses_source source signed) f → signed ≡ false →
      f.offset ≡ pos 0
  offset_unused (Register r) signed z unused = z.offset unused
  offset_unused (Immediate imm) signed z unused = z.offset unused

  filled : (template : Instruction) → slots_of template ≡ 1 → opcode_of template ≡ f.opcode →
      HasZeros (uses_of template) f → IfSome (with_fields template f) (IsSpelled f)
  filled (Move width _ (Register _)) one o z = moves width o (z.imm refl)
  filled (Move width _ (Immediate _)) one o z = spelled o refl (z.src refl) (z.offset refl) refl
  filled (Compute width operation _ source) one o z =
      computes width operation source (chosen_operation operation f.offset) o z
      (selected_operation operation f.offset (offset_unused source (has_signed_form operation) z))
  filled (Unary (Negate _) _ _) one o z = spelled o refl (z.src refl) (z.offset refl) (z.imm refl)
  filled (Unary (Order order _) _ _) one o z = orders order (swapped_by f.imm) o (z.src refl) (z.offset refl)
      (first_of_three swapped_bits swapped.Bits16 swapped.Bits32 swapped.Bits64 f.imm)
  filled (Unary (SignExtend width _) _ _) one o z = moves width o (z.imm refl)
  filled (Store _ _ _ (Immediate _)) one o z = spelled o refl (z.src refl) refl refl
  filled (JumpIf _ _ _ (Immediate _) _) one o z = spelled o refl (z.src refl) refl refl
  filled (Jump (Short _)) one o z = spelled o (z.dst refl) (z.src refl) refl (z.imm refl)
  filled (Jump (Long _)) one o z = spelled o (z.dst refl) (z.src refl) (z.offset refl) refl
  filled (Wide _ _) one o z = absurd cc
  filled (Call _) one o z = spelled o (z.dst refl) (z.src refl) (z.offset refl) refl
  filled Exit one o z = spelled o (z.dst refl) (z.src refl) (z.offset refl) (z.imm refl)
  filled _ one o z = spelled o refl refl refl (z.imm refl)

-- of a template of one slot with the fields' opcode, where the fields that it does not use are 0
pub filled_spelled : (f : Fields) (template i : Instruction) → slots_of template ≡ 1 → opcode_of template ≡ f.opcode →
    with_fields template f ≡ Some i → HasZeros (uses_of template) f → IsSpelled f i
filled_spelled f template i one o e z = subst (λ made. IfSome made (IsSpelled f)) e (filled f template one o z)

-- ---- the register that a change reads

abbrev IsLow : Instruction → Type 0
IsLow i = changed_register i ≤ 10

module _ (f : Fields) (dst : f.dst ≤ 10) (src : f.src ≤ 10) where
  reads : (template : Instruction) → IfSome (with_fields template f) IsLow
  reads (Move width _ (Register _)) = moving_made f IsLow width (λ _. omega arith) (λ _ _. src)
  reads (Compute width operation _ source) = all_made (λ o. Compute width o f.dst (filled_source source f)) IsLow
      (chosen_operation operation f.offset) (λ _ _. omega arith)
  reads (Unary (Negate _) _ _) = dst
  reads (Unary (Order order _) _ _) =
      all_made (λ w. Unary (Order order w) f.dst f.dst) IsLow (swapped_by f.imm) (λ _ _. dst)
  reads (Unary (SignExtend width _) _ _) = moving_made f IsLow width (λ _. omega arith) (λ _ _. src)
  reads (Jump (Short _)) = omega arith
  reads (Wide _ _) =
      all_made (λ upper. Wide f.dst (upper * 2 ^ 32 + cast_unsigned w32 f.imm)) IsLow f.upper (λ _ _. omega arith)
  reads _ = omega arith

  pub filled_reads : (template i : Instruction) → with_fields template f ≡ Some i → changed_register i ≤ 10
  filled_reads template i e = subst (λ made. IfSome made IsLow) e (reads template)
