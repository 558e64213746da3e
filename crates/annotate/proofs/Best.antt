-- The joined states of an image's code are best: within every annotation's, and none has one where they have a fault.
use Rattle.std.proofs.Common.{◌≡◌, ◌≢◌, ℕ, ◌<◌, ◌≤◌, true, List, length, Option, Some, None, Ok}
use Rattle.std.proofs.Common.{refl, sym, ap, ◌∙◌, subst, inl, inr, arith}
use Rattle.std.proofs.{lemmas.Bool.cases_lt, lemmas.Option.none-some}
use Rattle.machine_spec.specs.declared.{helper.Helper.Helper, instruction.Placed.Placed}
use Rattle.machine_spec.specs.Image.{Program, helpers_of, read_image, IsCodeOf}
use Rattle.machine_spec.proofs.Slots.{number_of_zero, number_below}
use Rattle.verifier_spec.specs.declared.{state.Abstract.Abstract, fault.VerifyFault.VerifyFault}
use Rattle.verifier_spec.specs.declared.fault.LoadFault.TheVariants.{Verify}
use Rattle.verifier_spec.specs.declared.fault.Check.TheVariants as check
use Rattle.verifier_spec.specs.Annotation.{Claims, claim_at, is_edge_covered, fault_of, IsAnnotation}
use Rattle.verifier_spec.specs.{JoinedStates.joined_states, Loading.IsAccepted, Loading.IsRefusedWith}
use Rattle.verifier_spec.proofs.JoinedStates.{length-joined_states, claim_joined}
use Rattle.verifier_spec.proofs.Faults.{annotation_from_none}
use Rattle.verifier_spec.specs.States.{is_proper}
use Rattle.verifier_spec.proofs.BestAnnotation.{AreJoinedProper, known_below, no_fault, fault_is_other}
use Rattle.annotate.proofs.Answered.{claimed_fault}
use Rattle.notes.proofs.Lookups.{claim_at_past}

-- within every annotation's
pub joined_best : (helpers : List Helper) (code : List Placed) (claims : Claims) → claims ≡ joined_states helpers code →
    AreJoinedProper helpers code → (other : Claims) → IsAnnotation helpers code other → (k : ℕ) →
    is_edge_covered (claim_at claims k) (claim_at other k) ≡ true
joined_best helpers code claims is proper other annotation k =
    let P : Option Abstract → Type 0 = λ o. is_edge_covered o (claim_at other k) ≡ true in
    let Q : Claims → Type 0 = λ ns. is_edge_covered (claim_at ns k) (claim_at other k) ≡ true in
    subst Q (sym is) (elim (cases_lt k (length code)) [
      | inl below ↦ subst P (sym (claim_joined helpers code k below))
          (known_below helpers code other annotation proper k k)
      | inr past ↦
          let le : length (joined_states helpers code) ≤ k = omega (arith, past, length-joined_states helpers code) in
          subst P (sym (claim_at_past (joined_states helpers code) k le)) refl
    ])

-- an annotation where they have no fault
pub joined_annotation : (helpers : List Helper) (code : List Placed) (claims : Claims) →
    claims ≡ joined_states helpers code → AreJoinedProper helpers code →
    fault_of helpers code (joined_states helpers code) ≡ None → IsAnnotation helpers code claims
joined_annotation helpers code claims is proper none =
    let joined = joined_states helpers code in
    let each : (k : ℕ) (s : Abstract) → claim_at joined k ≡ Some s → is_proper s ≡ true =
    λ k s e. elim (cases_lt k (length code)) [
      | inl below ↦ proper k s below (sym (claim_joined helpers code k below) ∙ e)
      | inr past ↦
          let le : length joined ≤ k = omega (arith, past, length-joined_states helpers code) in
          absurd (none-some s (sym (claim_at_past joined k le) ∙ e))
    ] in
    subst (λ (ns : Claims). IsAnnotation helpers code ns) (sym is) (annotation_from_none helpers code joined none each)

module _ (program : Program) (code : List Placed) (is_code : IsCodeOf program.image code) where
  abbrev helpers : List Helper
  helpers = helpers_of program.table

  some_instruction : 0 < length code
  some_instruction = number_below code 0 0 (number_of_zero program.image code is_code)

  -- a program whose joined states have a fault is not accepted
  has_none : (claims : Claims) (f : VerifyFault) → read_image program.image ≡ Ok code →
      claims ≡ joined_states helpers code → AreJoinedProper helpers code → fault_of helpers code claims ≡ Some f →
      ¬ IsAccepted program
  has_none claims f read is proper fault accepted =
      let both = sym read ∙ accepted.read in
      let same : accepted.code ≡ code = cc in
      let P : List Placed → Type 0 = λ c. IsAnnotation helpers c accepted.claims in
      let none = no_fault helpers program.image code is_code accepted.claims (subst P same accepted.annotation) proper
      some_instruction in
      none-some f (sym none ∙ ap (λ (ns : Claims). fault_of helpers code ns) (sym is) ∙ fault)

  pub claimed_refused : (claims : Claims) (f : VerifyFault) → read_image program.image ≡ Ok code →
      claims ≡ joined_states helpers code → AreJoinedProper helpers code → fault_of helpers code claims ≡ Some f →
      IsRefusedWith program (Verify f)
  claimed_refused claims f read is proper fault = record {
    not_accepted = has_none claims f read is proper fault;
    fault_is = claimed_fault program code claims (Some f) read is fault;
  }

  pub no_claims_fault : (claims : Claims) (f : VerifyFault) → claims ≡ joined_states helpers code →
      fault_of helpers code claims ≡ Some f → f.kind ≢ check.Notes
  no_claims_fault claims f is fault =
      fault_is_other helpers program.image code is_code f some_instruction
      (ap (λ (ns : Claims). fault_of helpers code ns) (sym is) ∙ fault)
