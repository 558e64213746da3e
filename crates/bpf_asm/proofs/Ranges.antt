-- What a slot of an image can hold: the forms that there are, and the ranges of their numbers.
use Rattle.std.proofs.Common.{IfSome, ◌≡◌, ℕ, ◌+◌, ◌*◌, ◌^◌, ◌<◌, ℤ, pos, Bool, true, false, List, [], ◌∷◌, Option}
use Rattle.std.proofs.Common.{Some, None, Ok, refl, sym, subst, arith, ◌==◌, cond, FitsSigned, find}
use Rattle.std.specs.{List.list_all, Ordering.int_eq}
use Rattle.std.specs.Int.{w16, w32, from_le_bytes, cast_unsigned}
use Rattle.std.proofs.{Math.Facts.sfits_to_z, lemmas.Bool.and_parts, lemmas.Int.of_z-to_z, lemmas.Option.same_Some}
use Rattle.machine_spec.specs.declared.{operation.Width.Width, operation.ExtendedWidth.ExtendedWidth}
use Rattle.machine_spec.specs.declared.{operation.Change.Change, instruction.Size.Size, instruction.Extension.Extension}
use Rattle.machine_spec.specs.declared.{instruction.Distance.Distance, instruction.Source.Source}
use Rattle.machine_spec.specs.declared.{instruction.Instruction.Instruction, opcode.TheConstants.TEMPLATES}
use Rattle.machine_spec.specs.declared.{operation.Width.TheVariants.Bits32, instruction.Size.TheVariants.Double}
use Rattle.machine_spec.specs.declared.{instruction.Extension.TheVariants.Sign}
use Rattle.machine_spec.specs.declared.operation.Change.TheVariants.{Order, SignExtend}
use Rattle.machine_spec.specs.declared.operation.ExtendedWidth.TheVariants as extended
use Rattle.machine_spec.specs.declared.instruction.Distance.TheVariants.{Short, Long}
use Rattle.machine_spec.specs.declared.instruction.Source.TheVariants.{Register, Immediate}
use Rattle.machine_spec.specs.declared.instruction.Instruction.TheVariants.{Move, Compute, Load, Unary, Store, JumpIf}
use Rattle.machine_spec.specs.declared.instruction.Instruction.TheVariants.{Jump, Wide, Call, Exit}
use Rattle.machine_spec.specs.Opcodes.{Fields, opcode_of, is_other_kind, template_of, filled_source, chosen_operation}
use Rattle.machine_spec.specs.Opcodes.{extended_by, extending, swapped_by, with_fields}
use Rattle.machine_spec.specs.Image.{byte_at, word_at, upper_at, fields_at, read_slot}
use Rattle.bpf_isa.specs.Code.{AreBytes}
use Rattle.bpf_isa.specs.Spelling.{spelled_fields, HasRegisters}
use Rattle.bpf_isa.proofs.{Bytes.slot_read, Bytes.second, Cases.on_choice, Cases.all_made}
use Rattle.bpf_asm.proofs.NumberTexts.{Fits}

-- ---- forms

-- no opcode sign-extends eight bytes
abbrev pub is_load : Size → Extension → Bool
is_load Double Sign = false
is_load _ _ = true

-- no move of 32 bits extends 32
abbrev pub is_change : Change → Bool
is_change (SignExtend Bits32 extended.Bits32) = false
is_change _ = true

abbrev pub is_form : Instruction → Bool
is_form (Load size extension _ _ _) = is_load size extension
is_form (Unary change _ _) = is_change change
is_form _ = true

-- ---- ranges

abbrev pub RangedSource : Source → Type 0
RangedSource (Register _) = Unit {0}
RangedSource (Immediate imm) = Fits (2 ^ 31) imm

-- a negation and a byte order change the register that they read
abbrev pub RangedChange : Change → ℕ → ℕ → Type 0
RangedChange (SignExtend _ _) dst src = Unit {0}
RangedChange _ dst src = src ≡ dst

abbrev pub RangedDistance : Distance → Type 0
RangedDistance (Short slots) = Fits (2 ^ 15) slots
RangedDistance (Long slots) = Fits (2 ^ 31) slots

abbrev pub Ranged : Instruction → Type 0
Ranged (Move _ _ source) = RangedSource source
Ranged (Compute _ _ _ source) = RangedSource source
Ranged (Load _ _ _ _ offset) = Fits (2 ^ 15) offset
Ranged (Unary change dst src) = RangedChange change dst src
Ranged (Store _ _ offset source) = Fits (2 ^ 15) offset × RangedSource source
Ranged (JumpIf _ _ _ source offset) = RangedSource source × Fits (2 ^ 15) offset
Ranged (Jump distance) = RangedDistance distance
Ranged (Wide _ number) = number < 2 ^ 64
Ranged (Call number) = Fits (2 ^ 31) number
Ranged Exit = Unit {0}

-- an instruction that a slot can hold
pub record IsHeld (i : Instruction) : Type 0 where
  pub form : is_form i ≡ true
  pub ranged : Ranged i

-- ---- the fields of a slot

fits_16 : (z : ℤ) → FitsSigned w16 z → Fits (2 ^ 15) z
fits_16 z fits = grind (arith, fits.sfits)

fits_32 : (z : ℤ) → FitsSigned w32 z → Fits (2 ^ 31) z
fits_32 z fits = grind (arith, fits.sfits)

pub record AreRanged (f : Fields) : Type 0 where
  pub offset : Fits (2 ^ 15) f.offset
  pub imm : Fits (2 ^ 31) f.imm
  pub bits : cast_unsigned w32 f.imm < 2 ^ 32
  pub upper : (upper : ℕ) → f.upper ≡ Some upper → upper < 2 ^ 32

upper_small : (image : List ℕ) (slot upper : ℕ) → AreBytes image → upper_at image slot ≡ Some upper → upper < 2 ^ 32
upper_small image slot upper fits e =
    let fit : (k : ℕ) → byte_at image slot k < 256 = λ k. fits (8 * slot + k) in
    omega (arith, fit 4, fit 5, fit 6, fit 7, (second image slot upper e).is)

upper_of : (image : List ℕ) (slot upper : ℕ) (b : Bool) → AreBytes image →
    cond b (upper_at image (slot + 1)) None ≡ Some upper → upper < 2 ^ 32
upper_of image slot upper b fits e = grind (arith, upper_small image (slot + 1) upper fits)

fields_ranged : (image : List ℕ) (slot : ℕ) → AreBytes image → AreRanged (fields_at image slot)
fields_ranged image slot fits =
    let byte = λ (k : ℕ). byte_at image slot k in
    let fit : (k : ℕ) → byte k < 256 = λ k. fits (8 * slot + k) in
    let half : from_le_bytes w16 (byte 2 ∷ byte 3 ∷ []) < 2 ^ 16 = omega (arith, fit 2, fit 3) in
    let word : word_at image slot 4 < 2 ^ 32 = omega (arith, fit 4, fit 5, fit 6, fit 7) in
    record {
      offset = fits_16 _ (sfits_to_z {w = w16} (record { fits = half }));
      imm = fits_32 _ (sfits_to_z {w = w32} (record { fits = word }));
      bits = subst (λ (n : ℕ). n < 2 ^ 32) (sym (of_z-to_z w32 (word_at image slot 4) word)) word;
      upper = λ upper. upper_of image slot upper (byte 0 == 0x18) fits;
    }

-- ---- what fields fill a template with

module _ (f : Fields) (ranged : AreRanged f) where
  source_ranged : (source : Source) → RangedSource (filled_source source f)
  source_ranged source = grind (arith, ranged)

  extends_held : (width : Width) (part : Option ExtendedWidth) → IfSome (extending width f.dst f.src part) IsHeld
  extends_held width part = grind arith

  moves_held : (width : Width) (zero_offset : Bool) →
      IfSome (cond zero_offset (Some (Move width f.dst (Register f.src)))
      (extending width f.dst f.src (extended_by f.offset))) IsHeld
  moves_held width zero_offset = grind (arith, extends_held)

  filled_held : (template : Instruction) → is_form template ≡ true → IfSome (with_fields template f) IsHeld
  filled_held (Move width _ (Register _)) form = moves_held width (int_eq f.offset (pos 0))
  filled_held (Compute width operation _ source) form =
      all_made (λ o. Compute width o f.dst (filled_source source f)) IsHeld (chosen_operation operation f.offset)
      (λ _ _. record { form = refl; ranged = source_ranged source })
  filled_held (Unary (Order order _) _ _) form =
      all_made (λ w. Unary (Order order w) f.dst f.dst) IsHeld (swapped_by f.imm)
      (λ _ _. record { form = refl; ranged = refl })
  filled_held (Unary (SignExtend width _) _ _) form = moves_held width (int_eq f.offset (pos 0))
  filled_held (Wide _ _) form =
      all_made (λ u. Wide f.dst (u * 2 ^ 32 + cast_unsigned w32 f.imm)) IsHeld f.upper
      (λ u at. let below = ranged.upper u at in record { form = refl; ranged = omega arith })
  filled_held _ form = grind (arith, ranged, source_ranged)

-- ---- the templates

-- what is found in a list of which all pass a test passes it
pub found_passes : {A : Type 0} (p q : A → Bool) (xs : List A) (x : A) → list_all q xs ≡ true → find p xs ≡ Some x →
    q x ≡ true
found_passes p q [] x all e = absurd cc
found_passes p q (y ∷ xs) x all e = grind (arith, and_parts, same_Some, found_passes p q xs x)

template_form : (f : Fields) (template : Instruction) → template_of f ≡ Some template → is_form template ≡ true
unfolding template_of
template_form f template e =
    on_choice (is_other_kind f) None (find (λ t. opcode_of t == f.opcode) TEMPLATES) (Some template)
    (is_form template ≡ true) e (λ _ e. absurd cc)
    (λ _. found_passes (λ t. opcode_of t == f.opcode) is_form TEMPLATES template refl)

pub slot_held : (image : List ℕ) (slot : ℕ) (i : Instruction) → AreBytes image → read_slot image slot ≡ Ok i → IsHeld i
slot_held image slot i fits e =
    let f = fields_at image slot in
    let read = slot_read image slot i e in
    subst (λ made. IfSome made IsHeld) read.is_filled (filled_held f (fields_ranged image slot fits) read.template
    (template_form f read.template read.found))

-- ---- the fields that an instruction is spelled with

-- an instruction that is in an image, or that a line says
pub record IsSaid (i : Instruction) : Type 0 where
  pub registers : HasRegisters i
  pub held : IsHeld i

-- the offset and the imm lie in their ranges
pub record FitSlots (f : Fields) : Type 0 where
  pub offset : Fits (2 ^ 15) f.offset
  pub imm : Fits (2 ^ 31) f.imm

pub spelled_fit : (i : Instruction) → Ranged i → FitSlots (spelled_fields i)
spelled_fit i ranged = grind arith
