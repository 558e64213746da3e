-- What the checks and the transfer of an instruction promise: soundness against the machine, and that they keep the
-- order of abstract states.
use Rattle.std.specs.Prelude.{◌≡◌, Bool, true, false, ◌&&◌, List, Option, Some, None, is_some}
use Rattle.machine_spec.specs.declared.{helper.Helper.Helper, instruction.Instruction.Instruction}
use Rattle.machine_spec.specs.{Summaries.summary_of, Image.Program, Image.form_at, Machine.Input, Machine.State}
use Rattle.machine_spec.specs.{Traps.is_met, Meaning.Step}
use Rattle.verifier_spec.specs.{declared.state.Abstract.Abstract, States.is_proper, Checks.failed_check}
use Rattle.verifier_spec.specs.{Transfer.falls_to, Transfer.jumps_to, Annotation.is_edge_covered, StandsFor.StandsFor}

-- a state takes the jump that an instruction is
abbrev pub takes_jump : Instruction → State → Bool
takes_jump i s = is_some (summary_of i).jump && is_met (summary_of i).condition s.registers

-- the abstract state along the edge to a jump's target, or along the one to the next instruction
abbrev pub edge_of : Bool → Instruction → Abstract → Option Abstract
edge_of true i a = jumps_to i a
edge_of false i a = falls_to i a

-- Transfer is sound at an instruction: where an abstract state holds of the machine's before a step, the edge of that
-- step propagates an abstract state, which is in its ranges and holds of the machine's after the step.
pub record IsSoundAt (i : Instruction) (a : Abstract) : Type 0 where
  pub edge : (program : Program) (input : Input) (before next : State) → StandsFor input a before →
      form_at program.image before.slot ≡ Some i → Step program input before next →
      (b : Abstract) × (edge_of (takes_jump i before) i a ≡ Some b) × StandsFor input b next × (is_proper b ≡ true)

-- The order of two abstract states is kept at an instruction: the inner one passes the checks, and each edge propagates
-- from it a state within the one that it propagates from the outer one, or none.
pub record KeepsOrder (helpers : List Helper) (i : Instruction) (inner outer : Abstract) : Type 0 where
  pub checks : failed_check helpers i inner ≡ None
  pub falls : is_edge_covered (falls_to i inner) (falls_to i outer) ≡ true
  pub jumps : is_edge_covered (jumps_to i inner) (jumps_to i outer) ≡ true
