-- Each instruction of the code of rules is read again from its spelling.
use Rattle.std.proofs.Common.{◌≡◌, ℕ, ◌^◌, ◌<◌, ℤ, pos, true, nat_le}
use Rattle.std.proofs.Common.{refl, arith, FitsSigned}
use Rattle.std.specs.Int.{w16, w32, cast_signed}
use Rattle.std.proofs.{lemmas.Int.fits_signed_from_abs, Math.Facts.sfits_to_z}
use Rattle.std.proofs.lemmas.Bool.{leb-true}
use Rattle.machine_spec.specs.declared.{operation.Operation.Operation, operation.Test.Test as Jumps}
use Rattle.machine_spec.specs.declared.instruction.Instruction.TheVariants.{Move, Compute, JumpIf, Call, Exit}
use Rattle.machine_spec.specs.declared.instruction.Source.TheVariants.{Register, Immediate}
use Rattle.machine_spec.specs.declared.operation.Operation.TheVariants.{Add, SignedDiv, SignedMod}
use Rattle.machine_spec.specs.declared.operation.Width.TheVariants.{Bits32, Bits64}
use Rattle.machine_spec.specs.declared.operation.Test.TheVariants as jumps
use Rattle.machine_spec.specs.{Image.read_fields, Opcodes.template_of}
use Rattle.bpf_isa.specs.Spelling.{operation_offset}
use Rattle.rules_compiler.specs.Pieces.{set, copy, change}
use Rattle.rules_compiler.proofs.Images.{IsSpelt}

-- ---- numbers that fit

pub fits_imm : (n : ℕ) → n < 2 ^ 31 → FitsSigned w32 (pos n)
fits_imm n small = fits_signed_from_abs w32 (pos n) small

pub fits_distance : (n : ℕ) → n < 2 ^ 15 → FitsSigned w16 (pos n)
fits_distance n small = fits_signed_from_abs w16 (pos n) small

pub fits_nothing : FitsSigned w16 (pos 0)
fits_nothing = fits_distance 0 (omega arith)

pub fits_zero : FitsSigned w32 (pos 0)
fits_zero = fits_imm 0 (omega arith)

pub fits_half : (n : ℕ) → n < 2 ^ 32 → FitsSigned w32 (cast_signed w32 n)
fits_half n small = sfits_to_z {w = w32} (record { fits = small })

-- ---- single instructions

module _ (r : ℕ) (low : nat_le r 10 ≡ true) where
  pub spelt_set : (z : ℤ) → FitsSigned w32 z → IsSpelt (set r z)
  unfolding read_fields template_of
  spelt_set z fits = record {
    reads = λ slot. rw low refl;
    names = record { dst = leb-true r 10 low; src = omega arith; changed = omega arith };
    upper = refl;
    narrow = refl;
    slots = refl;
    offset = fits_nothing;
    imm = fits;
  }

  pub spelt_half : (z : ℤ) → FitsSigned w32 z → IsSpelt (Move Bits32 r (Immediate z))
  unfolding read_fields template_of
  spelt_half z fits = record {
    reads = λ slot. rw low refl;
    names = record { dst = leb-true r 10 low; src = omega arith; changed = omega arith };
    upper = refl;
    narrow = refl;
    slots = refl;
    offset = fits_nothing;
    imm = fits;
  }

  pub spelt_change : (o : Operation) (z : ℤ) → operation_offset o ≡ pos 0 → FitsSigned w32 z → IsSpelt (change o r z)
  unfolding read_fields template_of
  spelt_change SignedDiv z plain fits = absurd cc
  spelt_change SignedMod z plain fits = absurd cc
  spelt_change Add z plain fits = record {
    reads = λ slot. rw low refl;
    names = record { dst = leb-true r 10 low; src = omega arith; changed = omega arith };
    upper = refl;
    narrow = refl;
    slots = refl;
    offset = fits_nothing;
    imm = fits;
  }
  spelt_change _ z plain fits = record {
    reads = λ slot. rw low refl;
    names = record { dst = leb-true r 10 low; src = omega arith; changed = omega arith };
    upper = refl;
    narrow = refl;
    slots = refl;
    offset = fits_nothing;
    imm = fits;
  }

  pub spelt_add : IsSpelt (Compute Bits64 Add r (Register 2))
  unfolding read_fields template_of
  spelt_add = record {
    reads = λ slot. rw low refl;
    names = record { dst = leb-true r 10 low; src = omega arith; changed = omega arith };
    upper = refl;
    narrow = refl;
    slots = refl;
    offset = fits_nothing;
    imm = fits_zero;
  }

  pub spelt_copy : (q : ℕ) → nat_le q 10 ≡ true → IsSpelt (copy r q)
  unfolding read_fields template_of
  spelt_copy q few = record {
    reads = λ slot. rw (low, few) refl;
    names = record { dst = leb-true r 10 low; src = leb-true q 10 few; changed = omega arith };
    upper = refl;
    narrow = refl;
    slots = refl;
    offset = fits_nothing;
    imm = fits_zero;
  }

  pub spelt_jump : (how : Jumps) (z : ℤ) (d : ℕ) → FitsSigned w32 z → d < 2 ^ 15 →
      IsSpelt (JumpIf Bits64 how r (Immediate z) (pos d))
  unfolding read_fields template_of
  spelt_jump jumps.Equal z d fits near = record {
    reads = λ slot. rw low refl;
    names = record { dst = leb-true r 10 low; src = omega arith; changed = omega arith };
    upper = refl;
    narrow = refl;
    slots = refl;
    offset = fits_distance d near;
    imm = fits;
  }
  spelt_jump _ z d fits near = record {
    reads = λ slot. rw low refl;
    names = record { dst = leb-true r 10 low; src = omega arith; changed = omega arith };
    upper = refl;
    narrow = refl;
    slots = refl;
    offset = fits_distance d near;
    imm = fits;
  }

pub spelt_against : (how : Jumps) (d : ℕ) → d < 2 ^ 15 → IsSpelt (JumpIf Bits64 how 0 (Register 1) (pos d))
unfolding read_fields template_of
spelt_against jumps.Equal d near = record {
  reads = λ slot. refl;
  names = record { dst = omega arith; src = omega arith; changed = omega arith };
  upper = refl;
  narrow = refl;
  slots = refl;
  offset = fits_distance d near;
  imm = fits_zero;
}
spelt_against _ d near = record {
  reads = λ slot. refl;
  names = record { dst = omega arith; src = omega arith; changed = omega arith };
  upper = refl;
  narrow = refl;
  slots = refl;
  offset = fits_distance d near;
  imm = fits_zero;
}

pub spelt_call : (n : ℕ) → n < 2 ^ 31 → IsSpelt (Call (pos n))
unfolding read_fields template_of
spelt_call n small = record {
  reads = λ slot. refl;
  names = record { dst = omega arith; src = omega arith; changed = omega arith };
  upper = refl;
  narrow = refl;
  slots = refl;
  offset = fits_nothing;
  imm = fits_imm n small;
}

pub spelt_exit : IsSpelt Exit
unfolding read_fields template_of
spelt_exit = record {
  reads = λ slot. refl;
  names = record { dst = omega arith; src = omega arith; changed = omega arith };
  upper = refl;
  narrow = refl;
  slots = refl;
  offset = fits_nothing;
  imm = fits_zero;
}
