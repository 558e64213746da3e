-- Which programs are accepted, and the fault that names why another one is not.
use Rattle.std.specs.Prelude.{◌≡◌, List, Option, Some, option_map, Result, Ok, Err}
use Rattle.machine_spec.specs.declared.{helper.Helper.Helper, instruction.IsaFault.IsaFault, instruction.Placed.Placed}
use Rattle.machine_spec.specs.Image.{Program, helpers_of, read_image}
use Rattle.verifier_spec.specs.{declared.fault.LoadFault.LoadFault, JoinedStates.joined_states}
use Rattle.verifier_spec.specs.declared.fault.LoadFault.TheVariants.{Isa, Verify}
use Rattle.verifier_spec.specs.Annotation.{Claims, IsAnnotation, fault_of}

-- A program is accepted: its image decodes to code that has an annotation, whatever list of abstract states that is.
pub record IsAccepted (program : Program) : Type 0 where
  pub code : List Placed
  pub read : read_image program.image ≡ Ok code
  pub claims : Claims
  pub annotation : IsAnnotation (helpers_of program.table) code claims

-- the fault of an image: why it does not decode, or that of its code by its joined states
abbrev pub code_fault : List Helper → Result (List Placed) IsaFault → Option LoadFault
code_fault helpers (Ok code) = option_map Verify (fault_of helpers code (joined_states helpers code))
code_fault helpers (Err fault) = Some (Isa fault)

-- Its image does not decode, or its joined states have a fault. The joined states serve to name the fault alone.
unfoldable pub load_fault : Program → Option LoadFault
load_fault program = code_fault (helpers_of program.table) (read_image program.image)

-- A program is refused with a fault: it is not accepted, and that is its fault.
pub record IsRefusedWith (program : Program) (fault : LoadFault) : Type 0 where
  pub not_accepted : ¬ IsAccepted program
  pub fault_is : load_fault program ≡ Some fault
