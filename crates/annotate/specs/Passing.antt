-- What a pass over the first instructions leaves.
use Rattle.std.specs.Prelude.{◌≡◌, ℕ, ◌<◌, min, true, List, length, take, Option, Some, None}
use Rattle.machine_spec.specs.declared.{helper.Helper.Helper, instruction.Placed.Placed}
use Rattle.notes.specs.Derived.{HasEachClaim}
use Rattle.verifier_spec.specs.{declared.state.Abstract.Abstract, States.is_proper, Annotation.Claims}
use Rattle.verifier_spec.specs.JoinedStates.{known_after, joined_states}
use Rattle.verifier_spec.specs.declared.{fault.Check.Check, fault.VerifyFault.VerifyFault}
use Rattle.verifier_spec.specs.{Checks.failed_check, Annotation.fault_from}

-- the first check that an instruction fails in its own claim: none where it is not reached
abbrev pub own_failed : List Helper → Placed → Option Abstract → Option Check
own_failed helpers placed None = None
own_failed helpers placed (Some s) = failed_check helpers placed.instruction s

-- the fault of the first k instructions in the joined states, if they have one
abbrev pub fault_before : List Helper → List Placed → ℕ → Option VerifyFault
fault_before helpers code k = fault_from helpers code (joined_states helpers code) 0 (take k code)

-- After the first k instructions those have their joined states, which are in their ranges, and each later one has what
-- they propagate.
pub record IsPassed (helpers : List Helper) (code : List Placed) (claims : Claims) (k : ℕ) : Type 0 where
  pub long : length claims ≡ length code
  pub each : HasEachClaim claims (λ j. known_after helpers code (min k j) j)
  pub proper : (i : ℕ) (s : Abstract) → i < k → known_after helpers code i i ≡ Some s → is_proper s ≡ true
