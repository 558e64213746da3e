-- The states of a code that may call the helpers of a table, as they follow from those that are given of some
-- instructions.
use Rattle.std.specs.Prelude.{◌≡◌, ℕ, zero, suc, ◌+◌, ◌<◌, Bool, true, false, ◌==◌, ◌&&◌, nat_lt, nat_le, if◌then◌else◌}
use Rattle.std.specs.Prelude.{List, [], ◌∷◌, ◌++◌, length, slice_get, slice_index_or, Option, Some, None}
use Rattle.std.specs.List.{list_any}
use Rattle.machine_spec.specs.declared.{helper.Helper.Helper, instruction.Placed.Placed}
use Rattle.machine_spec.specs.{Image.target_of, Traps.first_of}
use Rattle.verifier_spec.specs.declared.{state.Abstract.Abstract, fault.Check.Check, fault.VerifyFault.VerifyFault}
use Rattle.verifier_spec.specs.{States.is_proper, States.entry_state, Transfer.falls_to, JoinedStates.if_passed}
use Rattle.verifier_spec.specs.Checks.{failed_check, shape_checks, jump_of}
use Rattle.verifier_spec.specs.Annotation.{Claims, claim_at, fault_of}

-- ---- what follows

-- What falls through from instruction number k: nothing where there is none, where it is not reached or where it fails
-- a check, of its shape or in its state.
abbrev pub state_fallen_to : List Helper → List Placed → ℕ → Option Placed → Option Abstract → Option Abstract
state_fallen_to helpers code k None s = None
state_fallen_to helpers code k (Some placed) None = None
state_fallen_to helpers code k (Some placed) (Some s) =
    if_passed (first_of (shape_checks code k placed)) None
    (if_passed (failed_check helpers placed.instruction s) None (falls_to placed.instruction s))

-- the state that is given of an instruction, or else the one that follows
abbrev pub given_or : Option Abstract → Option Abstract → Option Abstract
given_or (Some s) follows = Some s
given_or None follows = follows

-- The state of an instruction: the given one, or else what falls through from the one before; of the first the entry
-- state.
unfoldable pub derived_at : List Helper → List Placed → (ℕ → Option Abstract) → ℕ → Option Abstract
derived_at helpers code given zero = given_or (given 0) (Some entry_state)
derived_at helpers code given (suc k) =
    given_or (given (suc k)) (state_fallen_to helpers code k (slice_get code k) (derived_at helpers code given k))

-- the states of these instructions, of which the first has the number k
abbrev pub derived_from : List Helper → List Placed → (ℕ → Option Abstract) → ℕ → List Placed → Claims
derived_from helpers code given k [] = []
derived_from helpers code given k (placed ∷ rest) =
    derived_at helpers code given k ∷ derived_from helpers code given (k + 1) rest

-- the states of all instructions
unfoldable pub derived_claims : List Helper → List Placed → (ℕ → Option Abstract) → Claims
derived_claims helpers code given = derived_from helpers code given 0 code

-- ---- jump targets

-- a jump's target, if it has one, is instruction number k
abbrev pub leads_to : Option ℕ → ℕ → Bool
leads_to (Some target) k = target == k
leads_to None k = false

-- the instruction is a jump to instruction number k
abbrev pub jumps_at : List Placed → ℕ → Placed → Bool
jumps_at code k placed = leads_to (target_of code placed.slot (jump_of placed.instruction)) k

-- a jump of the code leads to instruction number k
unfoldable pub is_jump_target : List Placed → ℕ → Bool
is_jump_target code k = list_any (jumps_at code k) code

-- the claims of a list at jump targets; none elsewhere
abbrev pub at_targets : List Placed → Claims → ℕ → Option Abstract
at_targets code claims k = if is_jump_target code k then claim_at claims k else None

-- What a verified program has of a list of states: those at jump targets, and what follows from them.
abbrev pub settled_claims : List Helper → List Placed → Claims → Claims
settled_claims helpers code claims = derived_claims helpers code (at_targets code claims)

-- ---- states with the numbers of their instructions

-- the state with a number; the first where there are several
abbrev pub pair_at : List (ℕ × Abstract) → ℕ → Option Abstract
pair_at [] k = None
pair_at (pair ∷ pairs) k = if pair.0 == k then Some pair.1 else pair_at pairs k

-- the state of instruction number k, if it is reached and wanted
abbrev pub kept_claim : Bool → ℕ → Option Abstract → List (ℕ × Abstract)
kept_claim true k (Some s) = (k, s) ∷ []
kept_claim _ _ _ = []

-- the states at jump targets of these claims, of which the first is of instruction number k
abbrev pub kept_from : List Placed → ℕ → Claims → List (ℕ × Abstract)
kept_from code k [] = []
kept_from code k (claim ∷ claims) = kept_claim (is_jump_target code k) k claim ++ kept_from code (k + 1) claims

-- The states at the jump targets that are reached, in order, with their numbers.
unfoldable pub kept_states : List Placed → Claims → List (ℕ × Abstract)
kept_states code claims = kept_from code 0 claims

-- how many of the instructions from number k on are jump targets
abbrev pub targets_from : List Placed → ℕ → List Placed → ℕ
targets_from code k [] = 0
targets_from code k (placed ∷ rest) = (if is_jump_target code k then 1 else 0) + targets_from code (k + 1) rest

-- How many different instructions the jumps of a code lead to.
unfoldable pub target_count : List Placed → ℕ
target_count code = targets_from code 0 code

-- the numbers rise, from at least `least` on, and each is below `limit`
abbrev pub are_rising : ℕ → ℕ → List (ℕ × Abstract) → Bool
are_rising least limit [] = true
are_rising least limit (pair ∷ pairs) = (nat_lt pair.0 limit && nat_le least pair.0)
    && are_rising (pair.0 + 1) limit pairs

-- The refusal that is reported for states with numbers: at 0, that the numbers don't rise or are past the code's end;
-- else that of the list that follows from them.
unfoldable pub pairs_fault : List Helper → List Placed → List (ℕ × Abstract) → Option VerifyFault
pairs_fault helpers code pairs = if are_rising 0 (length code) pairs then fault_of helpers code
    (derived_claims helpers code (pair_at pairs)) else Some (record { pc = 0; kind = Check.Notes })

-- ---- lists by number

-- each claim of a list, by its number
abbrev pub HasEachClaim : Claims → (ℕ → Option Abstract) → Type 0
HasEachClaim claims claim = (j : ℕ) → j < length claims → claim_at claims j ≡ claim j

-- the states that follow are in their ranges
abbrev pub AreDerivedProper : List Helper → List Placed → (ℕ → Option Abstract) → ℕ → Type 0
AreDerivedProper helpers code given n = (k : ℕ) (s : Abstract) → k < n → derived_at helpers code given k ≡ Some s →
    is_proper s ≡ true

-- a list says of each instruction whether a jump leads to it
pub record AreTargets (code : List Placed) (targets : List Bool) : Type 0 where
  pub long : length targets ≡ length code
  pub each : (k : ℕ) → k < length code → slice_index_or targets k false ≡ is_jump_target code k
