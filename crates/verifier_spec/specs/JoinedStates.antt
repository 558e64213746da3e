-- The joined states of a program: at each instruction the least state above all that the edges of reached instructions
-- before it propagate.
use Rattle.std.specs.Prelude.{ℕ, zero, suc, ◌+◌, ◌==◌, if◌then◌else◌, List, [], ◌∷◌, slice_get, Option, Some, None}
use Rattle.machine_spec.specs.{declared.helper.Helper.Helper, declared.instruction.Placed.Placed, Image.target_of}
use Rattle.verifier_spec.specs.declared.{state.Abstract.Abstract, fault.Check.Check}
use Rattle.verifier_spec.specs.{States.entry_state, Checks.failed_check, Checks.jump_of, Transfer.falls_to}
use Rattle.verifier_spec.specs.{Transfer.jumps_to, Joins.joined_state, Annotation.Claims}

-- the least claim above two; an unreached instruction has the least of all
abbrev pub joined_claims : Option Abstract → Option Abstract → Option Abstract
joined_claims None b = b
joined_claims (Some a) None = Some a
joined_claims (Some a) (Some b) = Some (joined_state a b)

-- the claim of instruction number j after one more edge, which propagates a state to its target
abbrev pub with_edge : ℕ → Option ℕ → Option Abstract → Option Abstract → Option Abstract
with_edge j None state claim = claim
with_edge j (Some target) state claim = if target == j then joined_claims claim state else claim

-- after both edges of instruction number k from a state
abbrev pub with_edges : List Placed → ℕ → ℕ → Placed → Abstract → Option Abstract → Option Abstract
with_edges code j k placed s claim =
    with_edge j (target_of code placed.slot (jump_of placed.instruction)) (jumps_to placed.instruction s)
    (with_edge j (Some (k + 1)) (falls_to placed.instruction s) claim)

-- the second claim where no check fails, else the first
abbrev pub if_passed : Option Check → Option Abstract → Option Abstract → Option Abstract
if_passed (Some _) known more = known
if_passed None known more = more

-- after instruction number k with its own claim: one that is not reached or fails a check propagates nothing
abbrev pub with_instruction : List Helper → List Placed → ℕ → ℕ → Option Placed → Option Abstract → Option Abstract →
    Option Abstract
with_instruction helpers code j k None own claim = claim
with_instruction helpers code j k (Some placed) None claim = claim
with_instruction helpers code j k (Some placed) (Some s) claim =
    if_passed (failed_check helpers placed.instruction s) claim (with_edges code j k placed s claim)

-- The claim of instruction number j after the edges of the first instructions, of as many as the first number says. At
-- first the entry state is known and no other.
unfoldable pub known_after : List Helper → List Placed → ℕ → ℕ → Option Abstract
known_after helpers code zero j = if j == 0 then Some entry_state else None
known_after helpers code (suc k) j =
    with_instruction helpers code j k (slice_get code k) (known_after helpers code k k) (known_after helpers code k j)

-- each instruction's claim after all instructions before it
abbrev pub states_from : List Helper → List Placed → ℕ → List Placed → Claims
states_from helpers code k [] = []
states_from helpers code k (placed ∷ rest) = known_after helpers code k k ∷ states_from helpers code (k + 1) rest

-- the claims of a program: the joined state of each instruction that is reached
unfoldable pub joined_states : List Helper → List Placed → Claims
joined_states helpers code = states_from helpers code 0 code
