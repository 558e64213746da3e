-- What the loader's parts answer, as the load's answer.
use Rattle.std.proofs.Common.{◌≡◌, ◌≢◌, List, Option, Ok, Err, sym, ap, ◌∙◌, option_map}
use Rattle.machine_spec.specs.declared.{instruction.IsaFault.IsaFault, instruction.Placed.Placed}
use Rattle.machine_spec.specs.Image.{Program, helpers_of, read_image}
use Rattle.machine_spec.specs.declared.instruction.IsaFault.TheVariants as isa
use Rattle.verifier_spec.specs.{declared.fault.VerifyFault.VerifyFault, Annotation.Claims, Annotation.fault_of}
use Rattle.verifier_spec.specs.JoinedStates.{joined_states}
use Rattle.verifier_spec.specs.declared.fault.LoadFault.TheVariants.{Isa, Verify}
use Rattle.verifier_spec.specs.Loading.{load_fault, code_fault, IsRefusedWith}

not_ok : (code : List Placed) (f : IsaFault) → Ok code ≡ Err f → ⊥
not_ok code f e = cc

module _ (program : Program) where
  -- a program whose image does not decode is not accepted
  pub isa_refused : (f : IsaFault) → (f ≢ isa.Memory → read_image program.image ≡ Err f) → f ≢ isa.Memory →
      IsRefusedWith program (Isa f)
  unfolding load_fault
  isa_refused f h ne =
      let read : read_image program.image ≡ Err f = h ne in
      record {
        not_accepted = λ accepted. not_ok accepted.code f (sym accepted.read ∙ read);
        fault_is = ap (code_fault (helpers_of program.table)) read;
      }

  pub claimed_fault : (code : List Placed) (claims : Claims) (fault : Option VerifyFault) →
      read_image program.image ≡ Ok code → claims ≡ joined_states (helpers_of program.table) code →
      fault_of (helpers_of program.table) code claims ≡ fault → load_fault program ≡ option_map Verify fault
  unfolding load_fault
  claimed_fault code claims fault read e h =
      let helpers = helpers_of program.table in
      ap (code_fault helpers) read
      ∙ ap (option_map Verify) (ap (λ (ns : Claims). fault_of helpers code ns) (sym e) ∙ h)
