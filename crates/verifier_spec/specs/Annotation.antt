-- Annotations: lists of abstract states that are closed under a program's edges and pass its checks.
use Rattle.std.specs.Prelude.{◌≡◌, ℕ, zero, suc, ◌+◌, Bool, true, false, ◌==◌, ◌&&◌, not, if◌then◌else◌, List, [], ◌∷◌}
use Rattle.std.specs.Prelude.{◌++◌, length, slice_get, Option, Some, None}
use Rattle.machine_spec.specs.declared.{helper.Helper.Helper, instruction.Placed.Placed}
use Rattle.machine_spec.specs.{Summaries.summary_of, Image.target_of, Traps.first_of}
use Rattle.verifier_spec.specs.{declared.state.Abstract.Abstract, declared.fault.Check.Check}
use Rattle.verifier_spec.specs.{declared.fault.VerifyFault.VerifyFault, Transfer.falls_to, Transfer.jumps_to}
use Rattle.verifier_spec.specs.States.{is_within, is_proper, entry_state}
use Rattle.verifier_spec.specs.Checks.{checks, failed_check, shape_checks, jump_of}

-- a state for each instruction, or none for one that is not reached
abbrev pub Claims : Type 0
Claims = List (Option Abstract)

-- the claim of an instruction that is there and reached
abbrev pub claim_at : Claims → ℕ → Option Abstract
claim_at [] k = None
claim_at (first ∷ claims) zero = first
claim_at (first ∷ claims) (suc k) = claim_at claims k

-- a state is within the one that the claim has, where it has one
abbrev pub is_covered : Abstract → Option Abstract → Bool
is_covered s (Some outer) = is_within s outer
is_covered s None = false

-- where an edge propagates a state, the instruction that it leads to has one that covers it
abbrev pub is_edge_covered : Option Abstract → Option Abstract → Bool
is_edge_covered None outer = true
is_edge_covered (Some s) outer = is_covered s outer

-- the claim at an instruction, by its number if it has one
abbrev pub claim_of : Claims → Option ℕ → Option Abstract
claim_of claims (Some k) = claim_at claims k
claim_of claims None = None

-- the edges of instruction number k from a state
abbrev pub are_edges_covered : List Placed → Claims → ℕ → Placed → Abstract → Bool
are_edges_covered code claims k placed s =
    is_edge_covered (falls_to placed.instruction s) (claim_at claims (k + 1))
    && is_edge_covered (jumps_to placed.instruction s)
    (claim_of claims (target_of code placed.slot (jump_of placed.instruction)))

-- A list of abstract states is an annotation of a code that may call the helpers of a table.
pub record IsAnnotation (helpers : List Helper) (code : List Placed) (claims : Claims) : Type 0 where
  -- it has a claim for each instruction
  pub long : length claims ≡ length code
  -- the state that every run begins in is within the first
  pub start : is_covered entry_state (claim_at claims 0) ≡ true
  -- jumps lead forward to instructions, and the last instruction is an EXIT or a jump without a condition
  pub shape : (k : ℕ) (placed : Placed) → slice_get code k ≡ Some placed → first_of (shape_checks code k placed) ≡ None
  -- each reached instruction passes its checks
  pub checked : (k : ℕ) (placed : Placed) (s : Abstract) → slice_get code k ≡ Some placed → claim_at claims k ≡ Some s →
      failed_check helpers placed.instruction s ≡ None
  -- what each of its edges propagates is within the state where it leads
  pub closed : (k : ℕ) (placed : Placed) (s : Abstract) → slice_get code k ≡ Some placed → claim_at claims k ≡ Some s →
      are_edges_covered code claims k placed s ≡ true
  -- each state is in its ranges
  pub proper : (k : ℕ) (s : Abstract) → claim_at claims k ≡ Some s → is_proper s ≡ true

-- ---- which refusal is reported

-- of a reached instruction, after the checks of its shape: its checks, then its edges
abbrev pub reached_checks : List Helper → List Placed → Claims → ℕ → Placed → Option Abstract → List (Bool × Check)
reached_checks helpers code claims k placed None = []
reached_checks helpers code claims k placed (Some s) = checks helpers (summary_of placed.instruction) s
    ++ (not (are_edges_covered code claims k placed s), Check.Notes) ∷ []

-- the first check that instruction number k fails
unfoldable pub failed_at : List Helper → List Placed → Claims → ℕ → Placed → Option Check
failed_at helpers code claims k placed =
    first_of (shape_checks code k placed ++ reached_checks helpers code claims k placed (claim_at claims k))

-- the refusal at instruction number k if it fails a check, else a later one
abbrev pub fault_or : ℕ → Option Check → Option VerifyFault → Option VerifyFault
fault_or k (Some kind) later = Some (record { pc = k; kind = kind })
fault_or k None later = later

-- the refusal of the lowest instruction from number k on that fails a check
abbrev pub fault_from : List Helper → List Placed → Claims → ℕ → List Placed → Option VerifyFault
fault_from helpers code claims k [] = None
fault_from helpers code claims k (placed ∷ rest) =
    fault_or k (failed_at helpers code claims k placed) (fault_from helpers code claims (k + 1) rest)

-- The refusal that is reported for a list: at 0, that it has another length than the code or that the entry is not
-- within its first state; else the first failed check of the lowest instruction that fails one.
unfoldable pub fault_of : List Helper → List Placed → Claims → Option VerifyFault
fault_of helpers code claims =
    if (length claims == length code) && is_covered entry_state (claim_at claims 0)
    then fault_from helpers code claims 0 code
    else Some (record { pc = 0; kind = Check.Notes })
