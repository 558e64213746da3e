-- The fault that a load refuses an image with is about something.
use Rattle.std.proofs.Common.{◌≡◌, ◌≢◌, ℕ, ◌<◌, Bool, not, true, false, ◌==◌, ◌&&◌, List, [], ◌∷◌, ◌++◌, length, Option}
use Rattle.std.proofs.Common.{Some, None, Ok, ◌⊎◌, refl, sym, ap, ◌∙◌, arith, inl, inr, is_some, option_map, slice_get}
use Rattle.std.proofs.lemmas.{Bool.cases_Bool, Bool.cases_lt, Option.slice_get_past, Option.slice_get_within}
use Rattle.machine_spec.specs.{declared.helper.Helper.Helper, declared.instruction.Placed.Placed}
use Rattle.machine_spec.specs.{declared.summary.Summary.Summary, Summaries.summary_of}
use Rattle.machine_spec.specs.Image.{Program, helpers_of, read_image, IsCodeOf}
use Rattle.machine_spec.specs.Traps.{calls_no_helper, helper_called, arguments_of, read_registers, first_of}
use Rattle.machine_spec.proofs.Slots.{number_of_zero, number_below}
use Rattle.verifier_spec.specs.declared.{state.Abstract.Abstract, fault.Check.Check, fault.VerifyFault.VerifyFault}
use Rattle.verifier_spec.specs.declared.fault.LoadFault.TheVariants.{Verify}
use Rattle.verifier_spec.specs.{Kinds.kind_at, Kinds.is_unknown, States.is_proper, States.entry_state}
use Rattle.verifier_spec.specs.JoinedStates.{joined_states}
use Rattle.verifier_spec.specs.Checks.{checks, shape_checks, leads_nowhere, leads_back, jump_of, may_write_record}
use Rattle.verifier_spec.specs.Checks.{may_leave_record, may_leave_stack}
use Rattle.verifier_spec.specs.Annotation.{Claims, claim_at, is_covered, are_edges_covered, reached_checks, failed_at}
use Rattle.verifier_spec.specs.Annotation.{fault_of}
use Rattle.verifier_spec.specs.Loading.{load_fault, code_fault, IsRefusedWith}
use Rattle.verifier_spec.proofs.{JoinedStates.claim_joined, BestAnnotation.AreJoinedProper}
use Rattle.verifier_spec.proofs.{BestAnnotation.fault_is_other, Faults.found_in_code, Faults.first_of-append}
use Rattle.verifier_spec.proofs.Faults.{first_of-reported}
use Rattle.explain.specs.declared.reason.Reason.{Reason}
use Rattle.explain.specs.Reasons.{landing_slot, outside_record, shape_reason, state_reason, reason_of, placed_reason}
use Rattle.explain.specs.Reasons.{reason_at}
use Rattle.explain.proofs.Reasoned.{some_map, some_if, found, takes_wrong, is_based_wrong, tests_wrong, reached_if}
use Rattle.explain.proofs.Reasoned.{argument_found}
use Rattle.explain.proofs.UnsetBytes.{byte_unset}

-- ---- rows of checks

-- a row that holds has a reason, where those before it don't hold
abbrev AreReasoned : (Check → Option Reason) → List (Bool × Check) → Type 0
AreReasoned reason [] = Unit {0}
AreReasoned reason (row ∷ rows) = (row.0 ≡ true → is_some (reason row.1) ≡ true)
    × (row.0 ≡ false → AreReasoned reason rows)

first_reasoned : (reason : Check → Option Reason) (rows : List (Bool × Check)) (kind : Check) →
    AreReasoned reason rows → first_of rows ≡ Some kind → is_some (reason kind) ≡ true
first_reasoned reason [] kind all e = cc
first_reasoned reason (row ∷ rows) kind all e = elim (cases_Bool row.0) [
  | inl holds ↦ let mine = all.0 holds in cc
  | inr fails ↦ first_reasoned reason rows kind (all.1 fails) (cc)
]

either : (xs ys : List (Bool × Check)) (kind : Check) → first_of (xs ++ ys) ≡ Some kind →
    (first_of xs ≡ Some kind) ⊎ (first_of ys ≡ Some kind)
either xs ys kind e = elim (first_of xs) as (λ first. first_of xs ≡ first →
    (first_of xs ≡ Some kind) ⊎ (first_of ys ≡ Some kind)) [
      | Some other ↦ λ is. inl (is ∙ sym (first_of-reported xs ys other is) ∙ e)
      | None ↦ λ none. inr (sym (first_of-append xs ys none) ∙ e)
    ] refl

-- ---- the rows of an instruction

shape_reasoned : (code : List Placed) (k : ℕ) (placed : Placed) →
    AreReasoned (shape_reason placed) (shape_checks code k placed)
shape_reasoned code k placed =
    let jump = jump_of placed.instruction in (
      λ e. some_map Reason.NoTarget _ (some_map (landing_slot placed.slot) jump
          (some_if (leads_nowhere code placed.slot) refl jump e)),
      λ _. (
        λ e. some_map Reason.Back _ (some_map (landing_slot placed.slot) jump (some_if leads_back refl jump e)),
        λ _. (λ e. refl, λ _. tt),
      ),
    )

state_reasoned : (helpers : List Helper) (placed : Placed) (m : Summary) (s : Abstract) → is_proper s ≡ true →
    AreReasoned (state_reason placed m s) (checks helpers m s)
state_reasoned helpers placed m s proper = (
  λ e. refl,
  λ _. (
    λ e. some_map Reason.NoHelper m.call (some_if (calls_no_helper helpers) refl m.call e),
    λ _. (
      λ e. some_map Reason.Unknown _ (found (λ r. is_unknown (kind_at s r)) (read_registers m) e),
      λ _. (
        takes_wrong m s,
        λ _. (
          is_based_wrong m s,
          λ _. (
            tests_wrong m s,
            λ _. (
              λ e. some_map Reason.ReadOnly _ (reached_if may_write_record refl m.memory s e),
              λ _. (
                λ e. some_map (outside_record s) _ (reached_if (may_leave_record s) refl m.memory s e),
                λ _. (
                  λ e. some_map Reason.OutsideStack _ (reached_if may_leave_stack refl m.memory s e),
                  λ inside. (
                    λ e. byte_unset m.memory s proper inside e,
                    λ _. (
                      λ e. argument_found s (arguments_of (helper_called m.call)) e,
                      λ _. (λ e. refl, λ _. tt),
                    ),
                  ),
                ),
              ),
            ),
          ),
        ),
      ),
    ),
  ),
)

only_claims : (b : Bool) (kind : Check) → first_of ((b, Check.Notes) ∷ []) ≡ Some kind → kind ≡ Check.Notes
only_claims b kind e = grind arith

rows_reasoned : (helpers : List Helper) (code : List Placed) (claims : Claims) (k : ℕ) (placed : Placed)
    (known : Option Abstract) (kind : Check) → ((s : Abstract) → known ≡ Some s → is_proper s ≡ true) →
    first_of (shape_checks code k placed ++ reached_checks helpers code claims k placed known) ≡ Some kind →
    kind ≢ Check.Notes → is_some (reason_of placed known kind) ≡ true
rows_reasoned helpers code claims k placed None kind proper e other = elim
    (either (shape_checks code k placed) [] kind e) [
      | inl shape ↦ first_reasoned (shape_reason placed) (shape_checks code k placed) kind
          (shape_reasoned code k placed) shape
      | inr none ↦ cc
    ]
rows_reasoned helpers code claims k placed (Some s) kind proper e other =
    let m = summary_of placed.instruction in
    let covered = are_edges_covered code claims k placed s in
    elim (either (shape_checks code k placed) (reached_checks helpers code claims k placed (Some s)) kind e) [
      | inl shape ↦ first_reasoned (state_reason placed m s) (shape_checks code k placed) kind
          (shape_reasoned code k placed) shape
      | inr reached ↦ elim (either (checks helpers m s) ((not covered, Check.Notes) ∷ []) kind reached) [
        | inl own ↦ first_reasoned (state_reason placed m s) (checks helpers m s) kind
            (state_reasoned helpers placed m s (proper s refl)) own
        | inr last ↦ absurd (other (only_claims (not covered) kind last))
      ]
    ]

-- ---- the fault of a code

module _ (helpers : List Helper) (code : List Placed) (claims : Claims)
    (proper : (k : ℕ) (s : Abstract) → k < length code →
    claim_at claims k ≡ Some s → is_proper s ≡ true) where
  at_reasoned : (k : ℕ) (placed : Placed) (kind : Check) → slice_get code k ≡ Some placed →
      failed_at helpers code claims k placed ≡ Some kind → kind ≢ Check.Notes →
      is_some (placed_reason (slice_get code k) (claim_at claims k) kind) ≡ true
  unfolding failed_at
  at_reasoned k placed kind at e other =
      rw at (rows_reasoned helpers code claims k placed (claim_at claims k) kind
      (λ s is. proper k s (slice_get_within code k placed at) is) e other)

  code_reasoned : (f : VerifyFault) → fault_of helpers code claims ≡ Some f → f.kind ≢ Check.Notes →
      is_some (reason_at code claims f) ≡ true
  unfolding fault_of
  code_reasoned f e other =
      elim (cases_Bool ((length claims == length code) && is_covered entry_state (claim_at claims 0))) [
        | inl passes ↦
            let found = found_in_code helpers code claims f (cc) in
            at_reasoned f.pc found.placed f.kind found.at found.failed other
        | inr fails ↦ absurd (other (cc))
      ]

-- ---- the fault of an image

verified : (o : Option VerifyFault) (f : VerifyFault) → option_map Verify o ≡ Some (Verify f) → o ≡ Some f
verified None f e = cc
verified (Some g) f e = cc

module _ (program : Program) (code : List Placed) (f : VerifyFault) where
  abbrev helpers : List Helper
  helpers = helpers_of program.table

  code_fault_is : read_image program.image ≡ Ok code → load_fault program ≡ Some (Verify f) →
      fault_of helpers code (joined_states helpers code) ≡ Some f
  unfolding load_fault
  code_fault_is read e = verified _ f (sym (ap (code_fault helpers) read) ∙ e)

  pub refusal_reasoned : IsCodeOf program.image code → read_image program.image ≡ Ok code →
      AreJoinedProper helpers code → IsRefusedWith program (Verify f) →
      is_some (reason_at code (joined_states helpers code) f) ≡ true
  refusal_reasoned of read proper refused =
      let fault = code_fault_is read refused.fault_is in
      let some : 0 < length code = number_below code 0 0 (number_of_zero program.image code of) in
      code_reasoned helpers code (joined_states helpers code) (λ k s below is. proper k s below
      (sym (claim_joined helpers code k below) ∙ is)) f fault
      (fault_is_other helpers program.image code of f some fault)

-- ---- where it is

-- a fault that is about something is at an instruction of the code
pub reasoned_within : (code : List Placed) (claims : Claims) (f : VerifyFault) →
    is_some (reason_at code claims f) ≡ true → f.pc < length code
reasoned_within code claims f reasoned = elim (cases_lt f.pc (length code)) [
  | inl below ↦ below
  | inr past ↦ let none = slice_get_past code f.pc past in cc
]
