-- The joined states of an image's code are within those of every annotation, and an annotation where there is one.
use Rattle.std.proofs.Common.{◌≡◌, ◌≢◌, ℕ, zero, suc, ◌+◌, ◌<◌, ◌≤◌, ℤ, Bool, true, false, not, ◌==◌, ◌&&◌, List, []}
use Rattle.std.proofs.Common.{◌∷◌, ◌++◌, length, slice_get, Option, Some, None, refl, sym, ◌∙◌, inl, inr, ⊎_elim}
use Rattle.std.proofs.Common.{zero-add, arith}
use Rattle.std.proofs.lemmas.Bool.{and_parts, and_from, cases_Bool, cases_lt, eq-eqb, eqb-true, not-false}
use Rattle.std.proofs.lemmas.Option.{slice_get_within}
use Rattle.machine_spec.specs.declared.{helper.Helper.Helper, instruction.Instruction.Instruction}
use Rattle.machine_spec.specs.declared.instruction.Placed.{Placed}
use Rattle.machine_spec.specs.declared.instruction.Instruction.TheVariants.{Jump, Exit}
use Rattle.machine_spec.specs.{Image.target_of, Image.IsCodeOf, Summaries.summary_of, Traps.first_of}
use Rattle.machine_spec.proofs.Slots.{lands, later_number, number_of_placed, number_below}
use Rattle.verifier_spec.specs.{declared.state.Abstract.Abstract, declared.fault.Check.Check}
use Rattle.verifier_spec.specs.{declared.fault.VerifyFault.VerifyFault, Transfer.falls_to, Transfer.jumps_to}
use Rattle.verifier_spec.specs.declared.fault.Check.TheVariants as check
use Rattle.verifier_spec.specs.States.{is_proper, entry_state}
use Rattle.verifier_spec.specs.Checks.{checks, failed_check, jump_of, shape_checks, leads_nowhere, leads_back}
use Rattle.verifier_spec.specs.Checks.{never_falls, runs_off}
use Rattle.verifier_spec.specs.Annotation.{Claims, claim_at, claim_of, is_covered, is_edge_covered, are_edges_covered}
use Rattle.verifier_spec.specs.Annotation.{IsAnnotation, reached_checks, failed_at, fault_of}
use Rattle.verifier_spec.specs.JoinedStates.{known_after, joined_states}
use Rattle.verifier_spec.proofs.Annotations.{none_of_three, covering, there, and_second}
use Rattle.verifier_spec.proofs.Faults.{Passes, first_of-reported, first_of-append, at_passes, none_from_each}
use Rattle.verifier_spec.proofs.Faults.{first_is_other, found_in_code}
use Rattle.verifier_spec.proofs.JoinedStates.{covered_refl, covered_trans, BringsWithin, known_least, grows_to}
use Rattle.verifier_spec.proofs.JoinedStates.{falls_known, jumps_known, length-joined_states, claim_joined}
use Rattle.verifier_spec.proofs.Monotone.{check_monotone, falls_monotone, jumps_monotone}

-- the joined states are in their ranges
abbrev pub AreJoinedProper : List Helper → List Placed → Type 0
AreJoinedProper helpers code = (k : ℕ) (s : Abstract) → k < length code → known_after helpers code k k ≡ Some s →
    is_proper s ≡ true

-- ---- within every annotation

module _ (helpers : List Helper) (code : List Placed) (claims : Claims) (annotation : IsAnnotation helpers code claims)
    (proper : AreJoinedProper helpers code) where
  brings_within : (i j : ℕ) (placed : Placed) (s : Abstract) → slice_get code i ≡ Some placed →
      known_after helpers code i i ≡ Some s → is_edge_covered (Some s) (claim_at claims i) ≡ true →
      BringsWithin helpers code j (claim_at claims j) i placed s
  brings_within i j placed s at known below =
      let outer = covering s (claim_at claims i) below in
      let instruction = placed.instruction in
      let target = target_of code placed.slot (jump_of instruction) in
      let passed = annotation.checked i placed outer.0 at outer.1 in
      let ps = proper i s (slice_get_within code i placed at) known in
      let pt = annotation.proper i outer.0 outer.1 in
      let closed = and_parts (is_edge_covered (falls_to instruction outer.0) (claim_at claims (i + 1)))
      (is_edge_covered (jumps_to instruction outer.0) (claim_of claims target))
      (annotation.closed i placed outer.0 at outer.1) in
      let falls = covered_trans (falls_to instruction s) _ (claim_at claims (i + 1))
      (falls_monotone helpers instruction s outer.0 outer.2 ps pt passed) closed.0 in
      let jumps = covered_trans (jumps_to instruction s) _ (claim_of claims target)
      (jumps_monotone helpers instruction s outer.0 outer.2 ps pt passed) closed.1 in
      record { falls = λ next. rw next at falls; jumps = λ is. rw is at jumps }

  first_below : (j : ℕ) → is_edge_covered (known_after helpers code 0 j) (claim_at claims j) ≡ true
  unfolding known_after
  first_below j = elim (cases_Bool (j == 0)) [
    | inl first ↦ rw (eqb-true j 0 first) annotation.start
    | inr later ↦ rw later
  ]

  below_to : (n k j : ℕ) → k ≤ n → is_edge_covered (known_after helpers code k j) (claim_at claims j) ≡ true
  below_to zero k j le =
      known_least helpers code j (claim_at claims j) k (first_below j) (λ i placed s under. absurd (omega arith))
  below_to (suc n) k j le =
      known_least helpers code j (claim_at claims j) k (first_below j) (λ i placed s under at known passed.
      brings_within i j placed s at known (rw known at (below_to n i i (omega arith))))

  pub known_below : (k j : ℕ) → is_edge_covered (known_after helpers code k j) (claim_at claims j) ≡ true
  known_below k j = below_to k k j (omega arith)

-- ---- which checks a list of checks names

is_claims : Check → Bool
is_claims check.Notes = true
is_claims _ = false

-- the first failed check of two lists is none of these where neither list gives one
either_is_other : (xs ys : List (Bool × Check)) (first : Option Check) (kind : Check) → first_of xs ≡ first →
    ((c : Check) → first_of xs ≡ Some c → is_claims c ≡ false) →
    (first_of xs ≡ None → first_of ys ≡ Some kind → is_claims kind ≡ false) → first_of (xs ++ ys) ≡ Some kind →
    is_claims kind ≡ false
either_is_other xs ys (Some c) kind is here there e =
    let found = first_of-reported xs ys c is in
    let other = here c is in
    cc
either_is_other xs ys None kind is here there e = there is (sym (first_of-append xs ys is) ∙ e)

last_is_other : (holds : Bool) (kind : Check) → holds ≡ true → first_of ((not holds, check.Notes) ∷ []) ≡ Some kind →
    is_claims kind ≡ false
last_is_other holds kind h e = cc

-- the entry state is the first joined state
pub start_covered : (helpers : List Helper) (code : List Placed) → 0 < length code →
    ((length (joined_states helpers code) == length code)
    && is_covered entry_state (claim_at (joined_states helpers code) 0)) ≡ true
unfolding known_after
start_covered helpers code some =
    and_from _ _ (eq-eqb _ _ (length-joined_states helpers code))
    (rw (claim_joined helpers code 0 some) (covered_refl (Some entry_state)))

-- ---- closed under edges

none_falls : (i : Instruction) (s : Abstract) (o : Option Abstract) → never_falls (summary_of i) ≡ true →
    is_edge_covered (falls_to i s) o ≡ true
unfolding falls_to
none_falls (Jump distance) s o e = refl
none_falls Exit s o e = refl
none_falls i s o e = cc

module _ (helpers : List Helper) (image : List ℕ) (code : List Placed) (is_code : IsCodeOf image code) where
  -- a jump leads further on, to an instruction
  pub target_later : (k : ℕ) (placed : Placed) (jump : Option ℤ) (t : ℕ) → slice_get code k ≡ Some placed →
      target_of code placed.slot jump ≡ Some t → (k < t) × (t < length code)
  target_later k placed None t at e = cc
  target_later k placed (Some offset) t at e =
      let there = lands code placed.slot offset t e in (
        later_number image code is_code _ _ _ _ (number_of_placed image code is_code _ _ at)
            there.there there.further,
        number_below code there.to t there.there,
      )

  module _ (k : ℕ) (placed : Placed) (s : Abstract) (at : slice_get code k ≡ Some placed)
      (known : known_after helpers code k k ≡ Some s)
      (passed : failed_check helpers placed.instruction s ≡ None) (shape : first_of (shape_checks code k placed) ≡ None)
    where
      shapes : (leads_nowhere code placed.slot (jump_of placed.instruction) ≡ false)
          × (leads_back (jump_of placed.instruction) ≡ false) ×
          (runs_off code k (summary_of placed.instruction) ≡ false)
      shapes =
          none_of_three (leads_nowhere code placed.slot (jump_of placed.instruction))
          (leads_back (jump_of placed.instruction)) (runs_off code k (summary_of placed.instruction))
          check.JumpTarget check.BackJump check.RunsOff shape

      falls_closed : is_edge_covered (falls_to placed.instruction s) (claim_at (joined_states helpers code) (k + 1))
          ≡ true
      falls_closed =
          let next : suc k ≡ k + 1 = omega arith in
          ⊎_elim
          (λ below.
          let is = claim_joined helpers code (k + 1) below in
          let falls = falls_known helpers code k placed s at known passed in
          cc)
          (λ past.
          let last : k + 1 ≡ length code = omega (arith, slice_get_within code k placed at, past) in
          none_falls placed.instruction s (claim_at (joined_states helpers code) (k + 1)) (not-false _ (and_second _ _
          (eq-eqb (k + 1) (length code) last) shapes.2))) (cases_lt (k + 1) (length code))

      target_closed : (t : ℕ) → target_of code placed.slot (jump_of placed.instruction) ≡ Some t
          → is_edge_covered (jumps_to placed.instruction s) (claim_at (joined_states helpers code) t) ≡ true
      target_closed t target =
          let jumps = jumps_to placed.instruction s in
          let later = target_later k placed (jump_of placed.instruction) t at target in
          rw (claim_joined helpers code t later.1) (covered_trans _ _ _
          (jumps_known helpers code _ _ _ at known passed t target) (grows_to helpers code (suc k) t t (omega arith)))

      jump_closed : (jump : Option ℤ) → jump_of placed.instruction ≡ jump →
          is_edge_covered (jumps_to placed.instruction s) (claim_of (joined_states helpers code)
          (target_of code placed.slot jump)) ≡ true
      unfolding jumps_to
      jump_closed None is = rw is
      jump_closed (Some offset) is =
          let nowhere = rw is at shapes.0 in
          let forward = rw is at shapes.1 in
          let target = there (target_of code placed.slot (Some offset)) (cc) in
          rw target.1 (target_closed target.0 (cc))

      pub edges_closed : are_edges_covered code (joined_states helpers code) k placed s ≡ true
      edges_closed = and_from _ _ falls_closed (jump_closed (jump_of placed.instruction) refl)

  -- ---- an annotation where there is one

  module _ (claims : Claims) (annotation : IsAnnotation helpers code claims) (proper : AreJoinedProper helpers code)
    where
      joined_passes : (k : ℕ) (placed : Placed) (s : Abstract) → slice_get code k ≡ Some placed →
          known_after helpers code k k ≡ Some s → failed_check helpers placed.instruction s ≡ None
      joined_passes k placed s at known =
          let below = slice_get_within _ _ _ at in
          let outer = covering _ _ (rw known at (known_below helpers code claims annotation proper k k)) in
          check_monotone _ _ _ _ outer.2 (proper k s below known)
          (annotation.proper k outer.0 outer.1) (annotation.checked k placed outer.0 at outer.1)

      instruction_passes : (k : ℕ) (placed : Placed) → slice_get code k ≡ Some placed →
          Passes helpers code (joined_states helpers code) k placed (claim_at (joined_states helpers code) k)
      instruction_passes k placed at =
          let is = claim_joined helpers code k (slice_get_within _ _ _ at) in
          record {
            shape = annotation.shape k placed at;
            checked = λ s claimed. joined_passes k placed s at (sym is ∙ claimed);
            closed = λ s claimed. edges_closed k placed s at (sym is ∙ claimed)
                (joined_passes k placed s at (sym is ∙ claimed)) (annotation.shape k placed at);
          }

      -- the joined states have no fault
      pub no_fault : 0 < length code → fault_of helpers code (joined_states helpers code) ≡ None
      unfolding fault_of
      no_fault some =
          let start = start_covered helpers code some in
          let joined = joined_states helpers code in
          let none = none_from_each helpers code joined 0 code (λ i placed at.
          rw zero-add (at_passes helpers code joined i placed (instruction_passes i placed at))) in
          cc

  -- ---- no refusal of the joined states is that they are no annotation

  reached_is_other : (k : ℕ) (placed : Placed) (claim : Option Abstract) (kind : Check) →
      slice_get code k ≡ Some placed → known_after helpers code k k ≡ claim →
      first_of (shape_checks code k placed) ≡ None →
      first_of (reached_checks helpers code (joined_states helpers code) k placed claim) ≡ Some kind →
      is_claims kind ≡ false
  unfolding failed_check is_claims
  reached_is_other k placed None kind at known shape e = cc
  reached_is_other k placed (Some s) kind at known shape e =
      let rows = checks helpers (summary_of placed.instruction) s in
      let closed = are_edges_covered code (joined_states helpers code) k placed s in
      either_is_other rows ((not closed, check.Notes) ∷ []) (first_of rows) kind refl
      (λ c. first_is_other is_claims rows c refl)
      (λ passed. last_is_other closed kind (edges_closed k placed s at known passed shape)) e

  failed_is_other : (k : ℕ) (placed : Placed) → slice_get code k ≡ Some placed → (kind : Check) →
      failed_at helpers code (joined_states helpers code) k placed ≡ Some kind → is_claims kind ≡ false
  unfolding failed_at is_claims
  failed_is_other k placed at kind e =
      let claim = claim_at (joined_states helpers code) k in
      let is = claim_joined helpers code k (slice_get_within _ _ _ at) in
      either_is_other (shape_checks code k placed) (reached_checks helpers code (joined_states helpers code) k placed
      claim) (first_of (shape_checks code k placed)) kind refl
      (λ c. first_is_other is_claims (shape_checks code k placed) c refl)
      (λ shape. reached_is_other k placed claim kind at (sym is) shape) e

  pub fault_is_other : (f : VerifyFault) → 0 < length code →
      fault_of helpers code (joined_states helpers code) ≡ Some f → f.kind ≢ check.Notes
  unfolding fault_of is_claims
  fault_is_other f some e is =
      let start = start_covered helpers code some in
      let found = found_in_code helpers code (joined_states helpers code) f (cc) in
      let other = failed_is_other f.pc found.placed found.at f.kind found.failed in
      cc
