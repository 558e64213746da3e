-- The states that follow from given ones: of an annotation's they are an annotation.
use Rattle.std.proofs.Common.{◌≡◌, ℕ, zero, suc, ◌+◌, ◌<◌, Bool, true, false, List, [], ◌∷◌, length, get_or}
use Rattle.std.proofs.Common.{Option, Some, None, refl, sym, ap, ◌∙◌, subst, ◌⊎◌, inl, inr, arith, ◌↔◌, IsTrue}
use Rattle.std.proofs.Common.{slice_get}
use Rattle.std.specs.Prelude.{unwrap_or}
use Rattle.std.proofs.lemmas.Bool.{cond-true, cond-false, cases_Bool, cases_lt, eq-eqb, and_parts, and_from, false≢true}
use Rattle.std.proofs.lemmas.Option.{none-some, slice_get_within, unwrap_or-slice_get}
use Rattle.std.proofs.lemmas.List.Folds.{list_any_at}
use Rattle.machine_spec.specs.declared.{helper.Helper.Helper, instruction.Placed.Placed, instruction.Region.Region}
use Rattle.machine_spec.specs.{Image.target_of, Traps.first_of}
use Rattle.verifier_spec.specs.declared.{state.Abstract.Abstract, fault.Check.Check, fault.VerifyFault.VerifyFault}
use Rattle.verifier_spec.specs.declared.fault.Check.TheVariants as check
use Rattle.verifier_spec.specs.{States.is_proper, States.entry_state, Transfer.falls_to, Transfer.jumps_to}
use Rattle.verifier_spec.specs.JoinedStates.{if_passed}
use Rattle.verifier_spec.specs.Checks.{failed_check, shape_checks, jump_of}
use Rattle.verifier_spec.specs.Annotation.{Claims, claim_at, claim_of, is_covered, is_edge_covered, are_edges_covered}
use Rattle.verifier_spec.specs.Annotation.{fault_of, IsAnnotation}
use Rattle.verifier_spec.proofs.{Annotations.covering, JoinedStates.covered_refl, JoinedStates.covered_trans}
use Rattle.verifier_spec.proofs.Monotone.{check_monotone, falls_monotone, jumps_monotone}
use Rattle.notes.specs.Derived.{state_fallen_to, given_or, derived_at, derived_from, derived_claims, leads_to, jumps_at}
use Rattle.notes.specs.Derived.{is_jump_target, at_targets, settled_claims, pair_at, kept_states, are_rising}
use Rattle.notes.specs.Derived.{pairs_fault, AreDerivedProper}
use Rattle.predecode.specs.declared.decoded.Decoded.{Decoded}
use Rattle.notes.specs.{Regions.AreRegions, Regions.NeedsStack, Decoded.AreDecoded, Decoded.IsVerified}
use Rattle.notes.proofs.{Lookups.claim_at_past, Kept.pair_kept}
use Rattle.verifier_spec.proofs.Annotations.{claim_within}

-- ---- claims

pub same_claims : (a b : Claims) → length a ≡ length b → ((j : ℕ) → j < length a → claim_at a j ≡ claim_at b j) → a ≡ b
same_claims [] [] long each = refl
same_claims [] (y ∷ b) long each = absurd (omega arith)
same_claims (x ∷ a) [] long each = absurd (omega arith)
same_claims (x ∷ a) (y ∷ b) long each =
    let first : x ≡ y = each 0 (omega arith) in
    let rest : a ≡ b = same_claims a b (omega arith) (λ j under. each (suc j) (omega arith)) in
    cc

-- ---- jump targets

-- what is given of an instruction is its claim, or nothing
pub at_cases : (code : List Placed) (claims : Claims) (k : ℕ) →
    (at_targets code claims k ≡ claim_at claims k) ⊎ (at_targets code claims k ≡ None)
at_cases code claims k = elim (cases_Bool (is_jump_target code k)) [
  | inl jumped ↦ inl (cond-true (is_jump_target code k) (claim_at claims k) None jumped)
  | inr apart ↦ inr (cond-false (is_jump_target code k) (claim_at claims k) None apart)
]

leads_itself : (o : Option ℕ) (t : ℕ) → o ≡ Some t → leads_to o t ≡ true
leads_itself (Some n) t e =
    let same : n ≡ t = cc in
    eq-eqb n t same
leads_itself None t e = absurd (none-some t e)

pub read_placed : (code : List Placed) (k : ℕ) (placed : Placed) → slice_get code k ≡ Some placed →
    get_or code k placed ≡ placed
read_placed code k placed at = sym (unwrap_or-slice_get code k placed)
    ∙ ap (λ (o : Option Placed). unwrap_or o placed) at

-- where a jump of the code leads is a target
pub target_is : (code : List Placed) (k : ℕ) (placed : Placed) (t : ℕ) → slice_get code k ≡ Some placed →
    target_of code placed.slot (jump_of placed.instruction) ≡ Some t → is_jump_target code t ≡ true
unfolding is_jump_target
target_is code k placed t at e =
    let read = read_placed code k placed at in
    let P : Placed → Type 0 = λ p. jumps_at code t p ≡ true in
    list_any_at (jumps_at code t) code k placed (slice_get_within code k placed at)
    (subst P (sym read) (leads_itself (target_of code placed.slot (jump_of placed.instruction)) t e))

-- ---- edges

-- what an edge propagates where a check passes is covered where the edge is
pub passed_covers : (failed : Option Check) (edge outer : Option Abstract) → is_edge_covered edge outer ≡ true →
    is_edge_covered (if_passed failed None edge) outer ≡ true
passed_covers (Some kind) edge outer h = refl
passed_covers None edge outer h = h

covers_given : (o follows outer : Option Abstract) → (o ≡ outer) ⊎ (o ≡ None) → is_edge_covered follows outer ≡ true →
    is_edge_covered (given_or o follows) outer ≡ true
covers_given None follows outer is h = h
covers_given (Some s) follows outer (inl same) h =
    subst (λ o. is_edge_covered (Some s) o ≡ true) same (covered_refl (Some s))
covers_given (Some s) follows outer (inr none) h = absurd (none-some s (sym none))

-- an edge that is covered by a claim is covered by what is given or, where nothing is, by itself
edge_given : (edge o outer : Option Abstract) → (o ≡ outer) ⊎ (o ≡ None) → is_edge_covered edge outer ≡ true →
    is_edge_covered edge (given_or o edge) ≡ true
edge_given edge None outer is h = covered_refl edge
edge_given edge (Some s) outer (inl same) h = subst (λ o. is_edge_covered edge o ≡ true) (sym same) h
edge_given edge (Some s) outer (inr none) h = absurd (none-some s (sym none))

-- what is covered by none is none, and so by anything
covered_first : (edge outer follows : Option Abstract) → is_edge_covered edge outer ≡ true →
    is_edge_covered edge (given_or outer follows) ≡ true
covered_first edge (Some s) follows h = h
covered_first None None follows h = refl
covered_first (Some s) None follows h = absurd (false≢true h)

-- ---- given states

given_twice : (o follows : Option Abstract) → given_or (given_or o follows) follows ≡ given_or o follows
given_twice None None = refl
given_twice None (Some s) = refl
given_twice (Some s) follows = refl

-- ---- what follows in a code that may call the helpers of a table

module _ (helpers : List Helper) where
  -- ---- the list

  length-derived_from : (code : List Placed) (given : ℕ → Option Abstract) (k : ℕ) (rest : List Placed) →
      length (derived_from helpers code given k rest) ≡ length rest
  length-derived_from code given k [] = refl
  length-derived_from code given k (placed ∷ rest) = ap (λ (n : ℕ). suc n) (length-derived_from code given (k + 1) rest)

  claim_from : (code : List Placed) (given : ℕ → Option Abstract) (k : ℕ) (rest : List Placed) (j : ℕ) →
      j < length rest → claim_at (derived_from helpers code given k rest) j ≡ derived_at helpers code given (k + j)
  claim_from code given k [] j under = absurd (omega arith)
  claim_from code given k (placed ∷ rest) zero under =
      let at : k ≡ k + 0 = omega arith in
      ap (λ (n : ℕ). derived_at helpers code given n) at
  claim_from code given k (placed ∷ rest) (suc j) under =
      let at : (k + 1) + j ≡ k + suc j = omega arith in
      claim_from code given (k + 1) rest j (omega arith) ∙ ap (λ (n : ℕ). derived_at helpers code given n) at

  pub length-derived : (code : List Placed) (given : ℕ → Option Abstract) →
      length (derived_claims helpers code given) ≡ length code
  unfolding derived_claims
  length-derived code given = length-derived_from code given 0 code

  pub claim_derived : (code : List Placed) (given : ℕ → Option Abstract) (j : ℕ) → j < length code →
      claim_at (derived_claims helpers code given) j ≡ derived_at helpers code given j
  unfolding derived_claims
  claim_derived code given j under =
      let at : 0 + j ≡ j = omega arith in
      claim_from code given 0 code j under ∙ ap (λ (n : ℕ). derived_at helpers code given n) at

  -- a list with these claims is the list of them
  pub is_derived : (code : List Placed) (given : ℕ → Option Abstract) (claims : Claims) → length claims ≡ length code →
      ((j : ℕ) → j < length code → claim_at claims j ≡ derived_at helpers code given j) →
      claims ≡ derived_claims helpers code given
  is_derived code given claims long each =
      same_claims claims (derived_claims helpers code given) (long ∙ sym (length-derived code given)) (λ j under.
      let below : j < length code = omega (arith, under, long) in
      each j below ∙ sym (claim_derived code given j below))

  -- ---- one state

  pub given_first : (code : List Placed) (given : ℕ → Option Abstract) →
      derived_at helpers code given 0 ≡ given_or (given 0) (Some entry_state)
  unfolding derived_at
  given_first code given = refl

  pub given_next : (code : List Placed) (given : ℕ → Option Abstract) (k : ℕ) →
      derived_at helpers code given (suc k) ≡ given_or (given (suc k))
      (state_fallen_to helpers code k (slice_get code k) (derived_at helpers code given k))
  unfolding derived_at
  given_next code given k = refl

  given_at : (code : List Placed) (given : ℕ → Option Abstract) (k : ℕ) →
      (follows : Option Abstract) × (derived_at helpers code given k ≡ given_or (given k) follows)
  given_at code given zero = (Some entry_state, given_first code given)
  given_at code given (suc k) = (
    state_fallen_to helpers code k (slice_get code k) (derived_at helpers code given k),
    given_next code
        given k,
  )

  -- ---- other given states

  -- a given state is what was derived, or there is none and was none
  abbrev pub IsAgain : List Placed → (ℕ → Option Abstract) → (ℕ → Option Abstract) → ℕ → Type 0
  IsAgain code given other k = (other k ≡ derived_at helpers code given k) ⊎ ((other k ≡ None) × (given k ≡ None))

  given_again : (code : List Placed) (given other : ℕ → Option Abstract) (k : ℕ) (follows : Option Abstract) →
      derived_at helpers code given k ≡ given_or (given k) follows → IsAgain code given other k →
      given_or (other k) follows ≡ derived_at helpers code given k
  given_again code given other k follows is (inl same) = ap (λ (o : Option Abstract). given_or o follows) (same ∙ is)
      ∙ given_twice (given k) follows ∙ sym is
  given_again code given other k follows is (inr none) =
      ap (λ (o : Option Abstract). given_or o follows) (none.0 ∙ sym none.1) ∙ sym is

  -- they give the same
  pub derived_again : (code : List Placed) (given other : ℕ → Option Abstract) (n : ℕ) →
      ((k : ℕ) → k < n → IsAgain code given other k) → (k : ℕ) → k < n →
      derived_at helpers code other k ≡ derived_at helpers code given k
  derived_again code given other n again zero under = given_first code other
      ∙ given_again code given other 0 (Some entry_state) (given_first code given) (again 0 under)
  derived_again code given other n again (suc k) under =
      let before = derived_again code given other n again k (omega arith) in
      given_next code other k
      ∙ (ap (λ (o : Option Abstract). given_or (other (suc k)) (state_fallen_to helpers code k (slice_get code k) o))
      before
      ∙ given_again code given other (suc k)
      (state_fallen_to helpers code k (slice_get code k) (derived_at helpers code given k))
      (given_next code given k) (again (suc k) under))

  derived_at-same : (code : List Placed) (given other : ℕ → Option Abstract) (n : ℕ) →
      ((k : ℕ) → k < n → other k ≡ given k) → (k : ℕ) → k < n →
      derived_at helpers code other k ≡ derived_at helpers code given k
  derived_at-same code given other n same zero under = given_first code other
      ∙ (ap (λ (o : Option Abstract). given_or o (Some entry_state)) (same 0 under) ∙ sym (given_first code given))
  derived_at-same code given other n same (suc k) under =
      given_next code other k
      ∙ (ap (λ (o : Option Abstract). given_or (other (suc k)) (state_fallen_to helpers code k (slice_get code k) o))
      (derived_at-same code given other n same k (omega arith))
      ∙ (ap (λ (o : Option Abstract). given_or o
      (state_fallen_to helpers code k (slice_get code k) (derived_at helpers code given k)))
      (same (suc k) under) ∙ sym (given_next code given k)))

  -- the same given states have the same following
  pub derived_same : (code : List Placed) (given other : ℕ → Option Abstract) →
      ((k : ℕ) → k < length code → other k ≡ given k) →
      derived_claims helpers code other ≡ derived_claims helpers code given
  derived_same code given other same =
      is_derived code given (derived_claims helpers code other) (length-derived code other)
      (λ k under. claim_derived code other k under ∙ derived_at-same code given other (length code) same k under)

  pub proper_same : (code : List Placed) (given other : ℕ → Option Abstract) (n : ℕ) →
      ((k : ℕ) → k < n → other k ≡ given k) → AreDerivedProper helpers code other n →
      AreDerivedProper helpers code given n
  proper_same code given other n same proper k s under e =
      proper k s under (derived_at-same code given other n same k under ∙ e)

  -- ---- within an annotation

  module _ (code : List Placed) (claims : Claims) (annotation : IsAnnotation helpers code claims)
      (proper : AreDerivedProper helpers code (at_targets code claims) (length code)) where
    abbrev given : ℕ → Option Abstract
    given = at_targets code claims

    -- both edges of an instruction, in a state within its claim
    module _ (k : ℕ) (placed : Placed) (s : Abstract) (at : slice_get code k ≡ Some placed) (ps : is_proper s ≡ true)
        (below : is_edge_covered (Some s) (claim_at claims k) ≡ true) where
      passed_within : failed_check helpers placed.instruction s ≡ None
      passed_within =
          let outer = covering s (claim_at claims k) below in
          check_monotone helpers placed.instruction s outer.0 outer.2 ps (annotation.proper k outer.0 outer.1)
          (annotation.checked k placed outer.0 at outer.1)

      falls_within : is_edge_covered (falls_to placed.instruction s) (claim_at claims (k + 1)) ≡ true
      falls_within =
          let i = placed.instruction in
          let outer = covering s (claim_at claims k) below in
          let t = outer.0 in
          let closed = and_parts (is_edge_covered (falls_to i t) (claim_at claims (k + 1)))
          (is_edge_covered (jumps_to i t) (claim_of claims (target_of code placed.slot (jump_of i))))
          (annotation.closed k placed t at outer.1) in
          covered_trans (falls_to i s) (falls_to i t) (claim_at claims (k + 1))
          (falls_monotone helpers i s t outer.2 ps (annotation.proper k t outer.1)
          (annotation.checked k placed t at outer.1)) closed.0

      jumps_within : is_edge_covered (jumps_to placed.instruction s)
          (claim_of claims (target_of code placed.slot (jump_of placed.instruction))) ≡ true
      jumps_within =
          let i = placed.instruction in
          let outer = covering s (claim_at claims k) below in
          let t = outer.0 in
          let target = claim_of claims (target_of code placed.slot (jump_of i)) in
          let closed = and_parts (is_edge_covered (falls_to i t) (claim_at claims (k + 1)))
          (is_edge_covered (jumps_to i t) target) (annotation.closed k placed t at outer.1) in
          covered_trans (jumps_to i s) (jumps_to i t) target
          (jumps_monotone helpers i s t outer.2 ps (annotation.proper k t outer.1)
          (annotation.checked k placed t at outer.1)) closed.1

    fallen_within : (k : ℕ) (at : Option Placed) (known : Option Abstract) → slice_get code k ≡ at →
        ((s : Abstract) → known ≡ Some s → is_proper s ≡ true) → is_edge_covered known (claim_at claims k) ≡ true →
        is_edge_covered (state_fallen_to helpers code k at known) (claim_at claims (k + 1)) ≡ true
    fallen_within k None known at ps below = refl
    fallen_within k (Some placed) None at ps below = refl
    fallen_within k (Some placed) (Some s) at ps below =
        let falls = falls_to placed.instruction s in
        passed_covers (first_of (shape_checks code k placed))
        (if_passed (failed_check helpers placed.instruction s) None falls) (claim_at claims (k + 1))
        (passed_covers (failed_check helpers placed.instruction s) falls (claim_at claims (k + 1))
        (falls_within k placed s at (ps s refl) below))

    -- each state that follows is within the claim there
    pub derived_within : (k : ℕ) → k < length code →
        is_edge_covered (derived_at helpers code given k) (claim_at claims k) ≡ true
    derived_within zero under =
        subst (λ o. is_edge_covered o (claim_at claims 0) ≡ true) (sym (given_first code given))
        (covers_given (given 0) (Some entry_state) (claim_at claims 0) (at_cases code claims 0) annotation.start)
    derived_within (suc k) under =
        let next : k + 1 ≡ suc k = omega arith in
        let known = derived_at helpers code given k in
        let follows = state_fallen_to helpers code k (slice_get code k) known in
        let below : k < length code = omega (arith, under) in
        let falls = fallen_within k (slice_get code k) known refl (λ s e. proper k s below e)
        (derived_within k below) in
        subst (λ o. is_edge_covered o (claim_at claims (suc k)) ≡ true) (sym (given_next code given k))
        (covers_given (given (suc k)) follows (claim_at claims (suc k)) (at_cases code claims (suc k))
        (subst (λ n. is_edge_covered follows (claim_at claims n) ≡ true) next falls))

    -- ---- an annotation

    abbrev states : Claims
    states = settled_claims helpers code claims

    state_is : (k : ℕ) (s : Abstract) → claim_at states k ≡ Some s →
        (k < length code) × (derived_at helpers code given k ≡ Some s)
    state_is k s e =
        let under : k < length code = omega (arith, claim_within states k s e, length-derived code given) in
        (under, sym (claim_derived code given k under) ∙ e)

    module _ (k : ℕ) (placed : Placed) (s : Abstract) (at : slice_get code k ≡ Some placed)
        (claimed : claim_at states k ≡ Some s) where
      ps : is_proper s ≡ true
      ps =
          let is = state_is k s claimed in
          proper k s is.0 is.1

      below : is_edge_covered (Some s) (claim_at claims k) ≡ true
      below =
          let is = state_is k s claimed in
          subst (λ o. is_edge_covered o (claim_at claims k) ≡ true) is.1 (derived_within k is.0)

      passed : failed_check helpers placed.instruction s ≡ None
      passed = passed_within k placed s at ps below

      falls_through : state_fallen_to helpers code k (slice_get code k) (derived_at helpers code given k)
          ≡ falls_to placed.instruction s
      falls_through =
          let i = placed.instruction in
          ap (λ (o : Option Placed). state_fallen_to helpers code k o (derived_at helpers code given k)) at
          ∙ (ap (λ (o : Option Abstract). state_fallen_to helpers code k (Some placed) o) (state_is k s claimed).1
          ∙ (ap (λ (failed : Option Check). if_passed failed None
          (if_passed (failed_check helpers i s) None (falls_to i s))) (annotation.shape k placed at)
          ∙ ap (λ (failed : Option Check). if_passed failed None (falls_to i s)) passed))

      falls_closed : is_edge_covered (falls_to placed.instruction s) (claim_at states (k + 1)) ≡ true
      falls_closed =
          let falls = falls_to placed.instruction s in
          let outer = falls_within k placed s at ps below in
          let next : suc k ≡ k + 1 = omega arith in
          elim (cases_lt (k + 1) (length code)) [
            | inl under ↦
                let is : derived_at helpers code given (suc k) ≡ given_or (given (suc k)) falls =
                given_next code given k
                ∙ ap (λ (o : Option Abstract). given_or (given (suc k)) o) falls_through in
                let claimed_next : claim_at states (k + 1) ≡ given_or (given (suc k)) falls =
                claim_derived code given (k + 1) under
                ∙ (ap (λ (n : ℕ). derived_at helpers code given n) (sym next) ∙ is) in
                subst (λ o. is_edge_covered falls o ≡ true) (sym claimed_next)
                (edge_given falls (given (suc k)) (claim_at claims (suc k)) (at_cases code claims (suc k))
                (subst (λ n. is_edge_covered falls (claim_at claims n) ≡ true) (sym next) outer))
            | inr past ↦
                let none : claim_at claims (k + 1) ≡ None =
                claim_at_past claims (k + 1) (omega (arith, past, annotation.long)) in
                let none_here : claim_at states (k + 1) ≡ None =
                claim_at_past states (k + 1) (omega (arith, past, length-derived code given)) in
                subst (λ o. is_edge_covered falls o ≡ true) (none ∙ sym none_here) outer
          ]

      target_closed : (t : ℕ) → target_of code placed.slot (jump_of placed.instruction) ≡ Some t →
          is_edge_covered (jumps_to placed.instruction s) (claim_at claims t) ≡ true →
          is_edge_covered (jumps_to placed.instruction s) (claim_at states t) ≡ true
      target_closed t e outer =
          let jumps = jumps_to placed.instruction s in
          elim (cases_lt t (length code)) [
            | inl under ↦
                let found = given_at code given t in
                let all : given t ≡ claim_at claims t =
                cond-true (is_jump_target code t) (claim_at claims t) None (target_is code k placed t at e) in
                let is : claim_at states t ≡ given_or (claim_at claims t) found.0 = claim_derived code given t under
                ∙ (found.1 ∙ ap (λ (o : Option Abstract). given_or o found.0) all) in
                subst (λ o. is_edge_covered jumps o ≡ true) (sym is)
                (covered_first jumps (claim_at claims t) found.0 outer)
            | inr past ↦
                let none : claim_at claims t ≡ None = claim_at_past claims t (omega (arith, past, annotation.long)) in
                let none_here : claim_at states t ≡ None =
                claim_at_past states t (omega (arith, past, length-derived code given)) in
                subst (λ o. is_edge_covered jumps o ≡ true) (none ∙ sym none_here) outer
          ]

      jumps_closed : (target : Option ℕ) → target_of code placed.slot (jump_of placed.instruction) ≡ target →
          is_edge_covered (jumps_to placed.instruction s) (claim_of claims target) ≡ true →
          is_edge_covered (jumps_to placed.instruction s) (claim_of states target) ≡ true
      jumps_closed None e outer = outer
      jumps_closed (Some t) e outer = target_closed t e outer

      closed : are_edges_covered code states k placed s ≡ true
      closed =
          and_from _ _ falls_closed
          (jumps_closed (target_of code placed.slot (jump_of placed.instruction)) refl
          (jumps_within k placed s at ps below))

    first_covered : is_covered entry_state (claim_at states 0) ≡ true
    first_covered =
        let under : 0 < length code = omega (arith, annotation.long, covering_length) in
        let is : claim_at states 0 ≡ given_or (given 0) (Some entry_state) = claim_derived code given 0 under
        ∙ given_first code given in
        subst (λ o. is_covered entry_state o ≡ true) (sym is)
        (edge_given (Some entry_state) (given 0) (claim_at claims 0) (at_cases code claims 0) annotation.start)
      where
        covering_length : 0 < length claims
        covering_length =
            let outer = covering entry_state (claim_at claims 0) annotation.start in
            claim_within claims 0 outer.0 outer.1

    -- What follows from an annotation's states at jump targets is an annotation.
    pub settled_annotation : IsAnnotation helpers code (settled_claims helpers code claims)
    settled_annotation = record {
      long = length-derived code given;
      start = first_covered;
      shape = annotation.shape;
      checked = λ k placed s at claimed. passed k placed s at claimed;
      closed = λ k placed s at claimed. closed k placed s at claimed;
      proper = λ k s claimed. proper k s (state_is k s claimed).0 (state_is k s claimed).1;
    }

  -- ---- kept states

  -- what settles settles as it is
  pub settled_twice : (code : List Placed) (claims : Claims) →
      settled_claims helpers code (settled_claims helpers code claims) ≡ settled_claims helpers code claims
  settled_twice code claims =
      let states = settled_claims helpers code claims in
      let given = at_targets code claims in
      let other = at_targets code states in
      let again : (k : ℕ) → k < length code → IsAgain code given other k =
      λ k under.
      elim (cases_Bool (is_jump_target code k)) [
        | inl jumped ↦ inl (cond-true (is_jump_target code k) (claim_at states k) None jumped
            ∙ claim_derived code given k under)
        | inr apart ↦ inr (
          cond-false (is_jump_target code k) (claim_at states k) None apart,
          cond-false (is_jump_target code k) (claim_at claims k) None apart,
        )
      ] in
      is_derived code given (derived_claims helpers code other) (length-derived code other)
      (λ k under. claim_derived code other k under ∙ derived_again code given other (length code) again k under)

  -- ---- what a verified program keeps

  module _ (code : List Placed) (states : Claims) (kept : List (ℕ × Abstract))
      (regions : List (Option Region × Option Region)) (all : List Decoded)
      (settled : settled_claims helpers code states ≡ states) (kept_is : kept ≡ kept_states code states) where
    pub kept_view : derived_claims helpers code (pair_at kept) ≡ states
    kept_view =
        ap (λ (pairs : List (ℕ × Abstract)). derived_claims helpers code (pair_at pairs)) kept_is
        ∙ derived_same code (at_targets code states) (pair_at (kept_states code states))
        (λ k under. pair_kept code states k)
        ∙ settled

    pub verified_from : AreRegions code states regions → AreDecoded code states all → (needs : Bool) →
        (IsTrue needs ↔ NeedsStack code states) → IsAnnotation helpers code states →
        IsVerified helpers code kept regions all needs
    verified_from regions_are decoded_are needs needs_are annotation =
        let P : Claims → Type 0 = λ ns. IsAnnotation helpers code ns in
        let Q : Claims → Type 0 = λ ns. AreRegions code ns regions in
        let F : Claims → Type 0 = λ ns. AreDecoded code ns all in
        let R : Claims → Type 0 = λ ns. kept ≡ kept_states code ns in
        record {
          annotation = subst P (sym kept_view) annotation;
          regions_are = subst Q (sym kept_view) regions_are;
          decoded_are = subst F (sym kept_view) decoded_are;
          kept_are = subst R (sym kept_view) kept_is;
          needs_are = subst (λ (ns : Claims). IsTrue needs ↔ NeedsStack code ns) (sym kept_view) needs_are;
        }

  -- the refusal of states with numbers that rise is that of the list that follows from them
  pub pairs_reported : (code : List Placed) (pairs : List (ℕ × Abstract)) (all : Claims) (fault : Option VerifyFault) →
      are_rising 0 (length code) pairs ≡ true → all ≡ derived_claims helpers code (pair_at pairs) →
      fault_of helpers code all ≡ fault → pairs_fault helpers code pairs ≡ fault
  unfolding pairs_fault
  pairs_reported code pairs all fault rising is reported =
      cond-true (are_rising 0 (length code) pairs) (fault_of helpers code (derived_claims helpers code (pair_at pairs)))
      (Some (record { pc = 0; kind = check.Notes })) rising
      ∙ (ap (λ (ns : Claims). fault_of helpers code ns) (sym is) ∙ reported)

  pub unordered_reported : (code : List Placed) (pairs : List (ℕ × Abstract)) →
      are_rising 0 (length code) pairs ≡ false →
      pairs_fault helpers code pairs ≡ Some (record { pc = 0; kind = check.Notes })
  unfolding pairs_fault
  unordered_reported code pairs e =
      cond-false (are_rising 0 (length code) pairs)
      (fault_of helpers code (derived_claims helpers code (pair_at pairs)))
      (Some (record { pc = 0; kind = check.Notes })) e
