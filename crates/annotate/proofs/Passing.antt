-- Lists of claims, and what one instruction of a pass changes.
use Rattle.std.proofs.Common.{◌≡◌, ◌≢◌, ℕ, zero, suc, ◌+◌, ◌<◌, ◌≤◌, min, true, ◌==◌, List, length, set, slice_get}
use Rattle.std.proofs.Common.{replicate, Option, Some, None, refl, sym, ap, ◌∙◌, subst, inl, inr, arith, length-set}
use Rattle.std.proofs.Common.{IfSome}
use Rattle.std.proofs.lemmas.Bool.{cond-true, cond-false, cases_eq, eq-eqb, eqb-true, cases_Bool, cases_lt, ne_eqb}
use Rattle.std.proofs.{lemmas.Option.slice_get_within, lemmas.List.length-replicate}
use Rattle.machine_spec.specs.{declared.helper.Helper.Helper, declared.instruction.Placed.Placed, Image.target_of}
use Rattle.verifier_spec.specs.{declared.state.Abstract.Abstract, Annotation.Claims, Annotation.claim_at}
use Rattle.verifier_spec.specs.{States.is_proper, States.entry_state, Checks.failed_check, Checks.jump_of}
use Rattle.verifier_spec.specs.{Transfer.falls_to, Transfer.jumps_to}
use Rattle.verifier_spec.specs.JoinedStates.{joined_claims, with_edge, with_edges, if_passed, with_instruction}
use Rattle.verifier_spec.specs.JoinedStates.{known_after, joined_states}
use Rattle.verifier_spec.proofs.JoinedStates.{length-joined_states, claim_joined}
use Rattle.notes.specs.Derived.{HasEachClaim}
use Rattle.annotate.specs.Passing.{IsPassed}
use Rattle.notes.proofs.{Steps.claim_at-set, Steps.claim_at-set_other, Derived.same_claims, Joined.edge_elsewhere}

other_claim : (claims : Claims) (k : ℕ) (s : Abstract) (j : ℕ) → j ≢ k →
    with_edge j (Some k) (Some s) (claim_at claims j) ≡ claim_at claims j
other_claim claims k s j other =
    elim (cases_Bool (k == j)) [
      | inl same ↦ absurd (other (sym (eqb-true k j same)))
      | inr apart ↦ cond-false (k == j) (joined_claims (claim_at claims j) (Some s)) (claim_at claims j) apart
    ]

-- one claim joined
pub brought : (claims : Claims) (k : ℕ) (s : Abstract) (new : Option Abstract) → k < length claims →
    new ≡ joined_claims (claim_at claims k) (Some s) → (j : ℕ) →
    claim_at (set claims k new) j ≡ with_edge j (Some k) (Some s) (claim_at claims j)
brought claims k s new inside is j = elim (cases_eq j k) [
  | inl same ↦
      let P : ℕ → Type 0 = λ n. claim_at (set claims k new) n ≡ with_edge n (Some k) (Some s) (claim_at claims n) in
      subst P (sym same) (claim_at-set claims k new inside ∙ is
      ∙ sym (cond-true (k == k) (joined_claims (claim_at claims k) (Some s)) (claim_at claims k)
      (eq-eqb k k refl)))
  | inr other ↦ claim_at-set_other claims k j new other ∙ sym (other_claim claims k s j other)
]

pub claim_at-replicate : (n j : ℕ) → claim_at (replicate n None) j ≡ None
claim_at-replicate zero j = refl
claim_at-replicate (suc n) zero = refl
claim_at-replicate (suc n) (suc j) = claim_at-replicate n j

-- ---- the pass

module _ (helpers : List Helper) where
  first_claim : (code : List Placed) (n j : ℕ) → 0 < n →
      claim_at (set (replicate n None) 0 (Some entry_state)) j ≡ known_after helpers code 0 j
  unfolding known_after
  first_claim code n j some = elim (cases_eq j 0) [
    | inl first ↦
        let P : ℕ → Type 0 = λ i. claim_at (set (replicate n None) 0 (Some entry_state)) i
        ≡ known_after helpers code 0 i in
        let long : 0 < length (replicate {A = Option Abstract} n None) =
        omega (arith, length-replicate {A = Option Abstract} n None) in
        subst P (sym first) (claim_at-set (replicate n None) 0 (Some entry_state) long)
    | inr later ↦
        claim_at-set_other (replicate n None) 0 j (Some entry_state) later ∙ claim_at-replicate n j
        ∙ sym (cond-false (j == 0) (Some entry_state) None (ne_eqb j 0 later))
  ]

  pub first_passed : (code : List Placed) → 0 < length code →
      IsPassed helpers code (set (replicate (length code) None) 0 (Some entry_state)) 0
  first_passed code some = record {
    long = length-set (replicate (length code) None) 0 (Some entry_state)
        ∙ length-replicate {A = Option Abstract} (length code) None;
    each = λ j under.
        let none : 0 ≡ min 0 j = omega arith in
        first_claim code (length code) j some ∙ ap (λ (k : ℕ). known_after helpers code k j) none;
    proper = λ i s under e. absurd (omega (arith, under));
  }

  module _ (code : List Placed) (k : ℕ) (placed : Placed) (at : slice_get code k ≡ Some placed)
      (later : (t : ℕ) → target_of code placed.slot (jump_of placed.instruction) ≡ Some t → k < t) where
    -- what is known up to an instruction stays
    earlier_stays : (j : ℕ) (own known : Option Abstract) → j ≤ k →
        with_instruction helpers code j k (Some placed) own known ≡ known
    earlier_stays j None known le = refl
    earlier_stays j (Some s) known le =
        let target = target_of code placed.slot (jump_of placed.instruction) in
        let fallen = with_edge j (Some (k + 1)) (falls_to placed.instruction s) known in
        let next : (t : ℕ) → Some (k + 1) ≡ Some t → t ≢ j =
        λ t e same.
        let is : k + 1 ≡ t = cc in
        omega (arith, is, same, le) in
        let further : (t : ℕ) → target ≡ Some t → t ≢ j =
        λ t e same.
        let is : k < t = later t e in
        omega (arith, is, same, le) in
        elim (failed_check helpers placed.instruction s) as (λ failed. if_passed failed known
        (with_edges code j k placed s known) ≡ known) [
          | Some _ ↦ refl
          | None ↦ edge_elsewhere j target (jumps_to placed.instruction s) fallen further
              ∙ edge_elsewhere j (Some (k + 1)) (falls_to placed.instruction s) known next
        ]

    later_known : (j : ℕ) → with_instruction helpers code j k (Some placed) (known_after helpers code k k)
        (known_after helpers code k j) ≡ known_after helpers code (suc k) j
    unfolding known_after
    later_known j = ap (λ (o : Option Placed). with_instruction helpers code j k o (known_after helpers code k k)
        (known_after helpers code k j)) (sym at)

    pub own_known : (states : Claims) (own : Option Abstract) → own ≡ claim_at states k →
        IsPassed helpers code states k → own ≡ known_after helpers code k k
    own_known states own is_own passed =
        let both : min k k ≡ k = omega arith in
        let below : k < length states = omega (arith, slice_get_within code k placed at, passed.long) in
        is_own ∙ passed.each k below ∙ ap (λ (n : ℕ). known_after helpers code n k) both

    module _ (states next : Claims) (own : Option Abstract) (is_own : own ≡ claim_at states k)
        (passed : IsPassed helpers code states k) (long : length next ≡ length states)
        (each : HasEachClaim next (λ j. with_instruction helpers code j k (Some placed) own (claim_at states j)))
        (proper : IfSome own (λ s. is_proper s ≡ true)) where
      is_known : own ≡ known_after helpers code k k
      is_known = own_known states own is_own passed

      each_known : (j : ℕ) → j < length next → claim_at next j ≡ known_after helpers code (min (k + 1) j) j
      each_known j under =
          let below : j < length states = omega (arith, under, long) in
          let one = each j under in
          let two = ap (λ (claim : Option Abstract). with_instruction helpers code j k (Some placed) own claim)
          (passed.each j below) in
          elim (cases_lt k j) [
            | inl after ↦
                let old : min k j ≡ k = omega (arith, after) in
                let new : suc k ≡ min (k + 1) j = omega (arith, after) in
                one ∙ two ∙ ap (λ (n : ℕ). with_instruction helpers code j k (Some placed) own
                (known_after helpers code n j)) old
                ∙ ap (λ (o : Option Abstract). with_instruction helpers code j k (Some placed) o
                (known_after helpers code k j)) is_known
                ∙ later_known j
                ∙ ap (λ (n : ℕ). known_after helpers code n j) new
            | inr before ↦
                let same : min k j ≡ min (k + 1) j = omega (arith, before) in
                one ∙ two ∙ earlier_stays j own (known_after helpers code (min k j) j) before
                ∙ ap (λ (n : ℕ). known_after helpers code n j) same
          ]

      own_proper : (s : Abstract) → own ≡ Some s → is_proper s ≡ true
      own_proper s e = subst (λ (o : Option Abstract). IfSome o (λ t. is_proper t ≡ true)) e proper

      pub passed_next : IsPassed helpers code next (k + 1)
      passed_next = record {
        long = long ∙ passed.long;
        each = each_known;
        proper = λ i s under e. elim (cases_eq i k) [
          | inl last ↦ own_proper s (is_known ∙ ap (λ (n : ℕ). known_after helpers code n n) (sym last) ∙ e)
          | inr other ↦ passed.proper i s (omega (arith, under, other)) e
        ];
      }

  -- after the whole pass
  pub all_passed : (code : List Placed) (states : Claims) → IsPassed helpers code states (length code) →
      states ≡ joined_states helpers code
  all_passed code states passed =
      same_claims states (joined_states helpers code) (passed.long ∙ sym (length-joined_states helpers code))
      (λ j under.
      let below : j < length code = omega (arith, under, passed.long) in
      let is : min (length code) j ≡ j = omega (arith, below) in
      passed.each j under ∙ ap (λ (n : ℕ). known_after helpers code n j) is ∙ sym (claim_joined helpers code j below))

  pub passed_all : (code : List Placed) (states : Claims) (k : ℕ) → k ≡ length code → IsPassed helpers code states k →
      states ≡ joined_states helpers code
  passed_all code states k all passed = all_passed code states (subst (λ n. IsPassed helpers code states n) all passed)
