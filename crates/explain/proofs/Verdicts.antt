-- The refusal of an image that a load refuses because it has no code.
use Rattle.std.proofs.Common.{◌≡◌, List, Option, Some, None, option_map, Result, Ok, Err}
use Rattle.machine_spec.specs.declared.{helper.Helper.Helper, instruction.IsaFault.IsaFault, instruction.Placed.Placed}
use Rattle.machine_spec.specs.Image.{Program, helpers_of, read_image}
use Rattle.verifier_spec.specs.{declared.fault.VerifyFault.VerifyFault, Loading.load_fault, Loading.code_fault}
use Rattle.verifier_spec.specs.declared.fault.LoadFault.TheVariants.{Isa, Verify}

not_verified : (o : Option VerifyFault) (f : IsaFault) → option_map Verify o ≡ Some (Isa f) → ⊥
not_verified None f e = cc
not_verified (Some v) f e = cc

no_code : (helpers : List Helper) (reading : Result (List Placed) IsaFault) (f : IsaFault) →
    code_fault helpers reading ≡ Some (Isa f) → reading ≡ Err f
no_code helpers (Ok code) f e = absurd (not_verified _ f e)
no_code helpers (Err g) f e = cc

pub not_read : (program : Program) (f : IsaFault) → load_fault program ≡ Some (Isa f) →
    read_image program.image ≡ Err f
unfolding load_fault
not_read program f e = no_code (helpers_of program.table) (read_image program.image) f e
