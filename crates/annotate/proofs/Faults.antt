-- The faults that a pass meets are those of the joined states: where an instruction passes its own checks, its edges are
-- covered.
use Rattle.std.proofs.Common.{◌≡◌, ℕ, ◌+◌, ◌<◌, Bool, not, List, [], ◌∷◌, ◌++◌, length, take, slice_get, get_or, Option}
use Rattle.std.proofs.Common.{Some, None, refl, sym, ap, ◌∙◌, arith}
use Rattle.std.specs.Option.{option_or}
use Rattle.std.proofs.lemmas.List.{take_more, take_all, length-take-le}
use Rattle.std.proofs.lemmas.Option.{slice_get_within, slice_get-get_or, same_Some}
use Rattle.std.proofs.lemmas.Bool.{cond-true}
use Rattle.machine_spec.specs.declared.{helper.Helper.Helper, instruction.Placed.Placed}
use Rattle.machine_spec.specs.{Image.IsCodeOf, Summaries.summary_of, Traps.first_of}
use Rattle.verifier_spec.specs.declared.{state.Abstract.Abstract, fault.Check.Check, fault.VerifyFault.VerifyFault}
use Rattle.verifier_spec.specs.declared.fault.Check.TheVariants as check
use Rattle.verifier_spec.specs.Checks.{checks, failed_check, shape_checks}
use Rattle.verifier_spec.specs.Annotation.{Claims, are_edges_covered, reached_checks, failed_at, fault_or}
use Rattle.verifier_spec.specs.Annotation.{fault_from, fault_of}
use Rattle.verifier_spec.specs.JoinedStates.{known_after, joined_states}
use Rattle.verifier_spec.proofs.{Faults.first_of-append, Faults.first_of-reported, JoinedStates.claim_joined}
use Rattle.verifier_spec.proofs.BestAnnotation.{edges_closed, start_covered}
use Rattle.annotate.specs.Passing.{own_failed, fault_before}

taken_next : (code : List Placed) (k : ℕ) (placed : Placed) → slice_get code k ≡ Some placed →
    take (k + 1) code ≡ take k code ++ placed ∷ []
taken_next code k placed at =
    let below = slice_get_within code k placed at in
    let found : get_or code k placed ≡ placed =
    same_Some (get_or code k placed) placed (sym (slice_get-get_or code k placed below) ∙ at) in
    take_more code k placed below ∙ ap (λ p. take k code ++ p ∷ []) found

-- ---- one instruction

first_of-either : {A : Type 0} (xs ys : List (Bool × A)) (first : Option A) → first_of xs ≡ first →
    first_of (xs ++ ys) ≡ option_or first (first_of ys)
first_of-either xs ys (Some x) is = first_of-reported xs ys x is
first_of-either xs ys None is = first_of-append xs ys is

module _ (helpers : List Helper) (image : List ℕ) (code : List Placed) (is_code : IsCodeOf image code) where
  abbrev joined : Claims
  joined = joined_states helpers code

  module _ (k : ℕ) (placed : Placed) (at : slice_get code k ≡ Some placed)
      (shape : first_of (shape_checks code k placed) ≡ None) where
    reached_alone : (s : Abstract) (failed : Option Check) → known_after helpers code k k ≡ Some s →
        failed_check helpers placed.instruction s ≡ failed →
        option_or failed (first_of ((not (are_edges_covered code joined k placed s), check.Notes) ∷ [])) ≡ failed
    reached_alone s (Some kind) known is = refl
    reached_alone s None known is =
        ap (λ holds. first_of ((not holds, check.Notes) ∷ []))
        (edges_closed helpers image code is_code k placed s at known is shape)

    own_alone : (claim : Option Abstract) → known_after helpers code k k ≡ claim →
        first_of (reached_checks helpers code joined k placed claim) ≡ own_failed helpers placed claim
    unfolding failed_check
    own_alone None known = refl
    own_alone (Some s) known =
        first_of-either (checks helpers (summary_of placed.instruction) s)
        ((not (are_edges_covered code joined k placed s), check.Notes) ∷ [])
        (failed_check helpers placed.instruction s) refl
        ∙ reached_alone s (failed_check helpers placed.instruction s) known refl

  either_alone : (k : ℕ) (placed : Placed) (claim : Option Abstract) (first : Option Check) →
      slice_get code k ≡ Some placed → known_after helpers code k k ≡ claim →
      first_of (shape_checks code k placed) ≡ first →
      option_or first (first_of (reached_checks helpers code joined k placed claim))
      ≡ option_or first (own_failed helpers placed claim)
  either_alone k placed claim (Some kind) at known is = refl
  either_alone k placed claim None at known is = own_alone k placed at is claim known

  -- an instruction fails no other check in the joined states than those of its shape and of its own state
  failed_alone : (k : ℕ) (placed : Placed) (claim : Option Abstract) → slice_get code k ≡ Some placed →
      known_after helpers code k k ≡ claim →
      failed_at helpers code joined k placed
      ≡ option_or (first_of (shape_checks code k placed)) (own_failed helpers placed claim)
  unfolding failed_at
  failed_alone k placed claim at known =
      let claimed = claim_joined helpers code k (slice_get_within code k placed at) ∙ known in
      ap (λ c. first_of (shape_checks code k placed ++ reached_checks helpers code joined k placed c)) claimed
      ∙ first_of-either (shape_checks code k placed) (reached_checks helpers code joined k placed claim)
      (first_of (shape_checks code k placed)) refl
      ∙ either_alone k placed claim (first_of (shape_checks code k placed)) at known refl

  -- ---- all instructions

  fault_or-later : (k : ℕ) (failed : Option Check) (rest later : Option VerifyFault) →
      fault_or k failed (option_or rest later) ≡ option_or (fault_or k failed rest) later
  fault_or-later k (Some kind) rest later = refl
  fault_or-later k None rest later = refl

  fault_append : (n : ℕ) (first rest : List Placed) →
      fault_from helpers code joined n (first ++ rest)
      ≡ option_or (fault_from helpers code joined n first) (fault_from helpers code joined (n + length first) rest)
  fault_append n [] rest =
      let here : n ≡ n + 0 = omega arith in
      ap (λ m. fault_from helpers code joined m rest) here
  fault_append n (placed ∷ first) rest =
      let failed = failed_at helpers code joined n placed in
      let further : (n + 1) + length first ≡ n + length (placed ∷ first) = omega arith in
      ap (fault_or n failed) (fault_append (n + 1) first rest
      ∙ ap (λ m. option_or (fault_from helpers code joined (n + 1) first) (fault_from helpers code joined m rest))
      further)
      ∙ fault_or-later n failed (fault_from helpers code joined (n + 1) first)
      (fault_from helpers code joined (n + length (placed ∷ first)) rest)

  -- the fault of one more instruction comes after those before
  pub fault_next : (k : ℕ) (placed : Placed) (claim : Option Abstract) → slice_get code k ≡ Some placed →
      known_after helpers code k k ≡ claim →
      fault_before helpers code (k + 1)
      ≡ option_or (fault_before helpers code k)
      (fault_or k (option_or (first_of (shape_checks code k placed)) (own_failed helpers placed claim)) None)
  fault_next k placed claim at known =
      let below = slice_get_within code k placed at in
      let taken : 0 + length (take k code) ≡ k = omega (arith, length-take-le k code (omega (arith, below))) in
      ap (fault_from helpers code joined 0) (taken_next code k placed at)
      ∙ fault_append 0 (take k code) (placed ∷ [])
      ∙ ap (λ m. option_or (fault_before helpers code k) (fault_from helpers code joined m (placed ∷ []))) taken
      ∙ ap (λ failed. option_or (fault_before helpers code k) (fault_or k failed None))
      (failed_alone k placed claim at known)

  pub fault_whole : (k : ℕ) → k ≡ length code → 0 < length code →
      fault_before helpers code k ≡ fault_of helpers code joined
  unfolding fault_of
  fault_whole k all some =
      let start = start_covered helpers code some in
      ap (fault_from helpers code joined 0) (take_all k code (omega (arith, all))) ∙ sym (cond-true _ _ _ start)
