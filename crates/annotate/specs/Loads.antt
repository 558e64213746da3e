-- What loading a program answers.
use Rattle.std.specs.Prelude.{◌≡◌, ◌≢◌, ℕ, true, Result, Ok, Err}
use Rattle.machine_spec.specs.Image.{Program, helpers_of, read_image, IsCodeOf}
use Rattle.machine_spec.specs.declared.instruction.IsaFault.TheVariants as isa
use Rattle.verifier_spec.specs.declared.fault.Check.TheVariants as check
use Rattle.verifier_spec.specs.Annotation.{Claims, claim_at, is_edge_covered, IsAnnotation}
use Rattle.verifier_spec.specs.{JoinedStates.joined_states, Run.Annotated, declared.fault.LoadFault.LoadFault}
use Rattle.verifier_spec.specs.Loading.{IsRefusedWith}
use Rattle.verifier_spec.specs.declared.fault.LoadFault.TheVariants.{Isa, Verify}

-- The program that was accepted: its table, and the code of its image with its joined states. They are an annotation,
-- and within those of every other one; what is unreached is within anything.
pub record Accepts (program : Program) (verified : Annotated) : Type 0 where
  pub table : verified.table ≡ program.table
  pub read : read_image program.image ≡ Ok verified.code
  pub code : IsCodeOf program.image verified.code
  pub claims : verified.claims ≡ joined_states (helpers_of program.table) verified.code
  pub annotation : IsAnnotation (helpers_of program.table) verified.code verified.claims
  pub best : (other : Claims) → IsAnnotation (helpers_of program.table) verified.code other → (k : ℕ) →
      is_edge_covered (claim_at verified.claims k) (claim_at other k) ≡ true

-- The image of a program with a refusal does not decode to code that has an annotation; nothing is said where memory
-- ran out.
abbrev pub FaultIs : Program → LoadFault → Type 0
FaultIs program (Isa fault) = fault ≢ isa.Memory → IsRefusedWith program (Isa fault)
FaultIs program (Verify fault) = fault.kind ≢ check.Memory → IsRefusedWith program (Verify fault)

-- The refusal is never that a list of states is no annotation.
abbrev pub IsOfImage : LoadFault → Type 0
IsOfImage (Isa fault) = Unit {0}
IsOfImage (Verify fault) = fault.kind ≢ check.Notes

-- where memory ran out for the verifier, the refusal is at 0
abbrev pub IsAtStart : LoadFault → Type 0
IsAtStart (Isa fault) = Unit {0}
IsAtStart (Verify fault) = fault.kind ≡ check.Memory → fault.pc ≡ 0

-- A program is accepted, or refused with its refusal.
abbrev pub Loads : Program → Result Annotated LoadFault → Type 0
Loads program (Ok verified) = Accepts program verified
Loads program (Err fault) = FaultIs program fault
