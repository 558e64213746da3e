-- The joined states: they are within every annotation's, and an annotation themselves where there is one.
use Rattle.std.proofs.Common.{◌≡◌, ℕ, zero, suc, ◌+◌, ◌<◌, ◌≤◌, true, ◌==◌, List, [], ◌∷◌, length, slice_get, Option}
use Rattle.std.proofs.Common.{Some, None, refl, ap, inl, inr, arith}
use Rattle.std.proofs.lemmas.Bool.{cases_Bool, cases_eq, eq-eqb, eqb-true}
use Rattle.machine_spec.specs.{declared.helper.Helper.Helper, declared.instruction.Placed.Placed, Image.target_of}
use Rattle.verifier_spec.specs.{Checks.failed_check, Checks.jump_of, Transfer.falls_to, Transfer.jumps_to}
use Rattle.verifier_spec.specs.{Annotation.claim_at, Annotation.is_edge_covered, declared.state.Abstract.Abstract}
use Rattle.verifier_spec.specs.JoinedStates.{joined_claims, with_edge, with_edges, if_passed, with_instruction}
use Rattle.verifier_spec.specs.JoinedStates.{known_after, states_from, joined_states}
use Rattle.verifier_spec.proofs.Joins.{within_refl, within_trans, within_joined_left, within_joined_right, joined_least}

-- ---- the order of claims

pub covered_refl : (a : Option Abstract) → is_edge_covered a a ≡ true
covered_refl None = refl
covered_refl (Some a) = within_refl a

pub covered_trans : (a b c : Option Abstract) → is_edge_covered a b ≡ true → is_edge_covered b c ≡ true →
    is_edge_covered a c ≡ true
covered_trans (Some a) (Some b) (Some c) h g = within_trans a b c h g
covered_trans a b c h g = cc

pub claims_left : (a b : Option Abstract) → is_edge_covered a (joined_claims a b) ≡ true
claims_left None b = refl
claims_left (Some a) None = within_refl a
claims_left (Some a) (Some b) = within_joined_left a b

pub claims_right : (a b : Option Abstract) → is_edge_covered b (joined_claims a b) ≡ true
claims_right None b = covered_refl b
claims_right (Some a) None = refl
claims_right (Some a) (Some b) = within_joined_right a b

pub claims_least : (a b c : Option Abstract) → is_edge_covered a c ≡ true → is_edge_covered b c ≡ true →
    is_edge_covered (joined_claims a b) c ≡ true
claims_least (Some a) (Some b) (Some c) h g = joined_least a b c h g
claims_least a b c h g = cc

-- ---- one edge

edge_left : (j : ℕ) (target : Option ℕ) (state claim : Option Abstract) →
    is_edge_covered claim (with_edge j target state claim) ≡ true
edge_left j None state claim = covered_refl claim
edge_left j (Some target) state claim =
    elim (cases_Bool (target == j)) [
      | inl same ↦ rw same (claims_left _ _)
      | inr other ↦ rw other (covered_refl claim)
    ]

edge_right : (j : ℕ) (state claim : Option Abstract) → is_edge_covered state (with_edge j (Some j) state claim) ≡ true
edge_right j state claim = rw (eq-eqb j j refl) (claims_right _ _)

pub edge_least : (j : ℕ) (target : Option ℕ) (state claim outer : Option Abstract) →
    is_edge_covered claim outer ≡ true → (target ≡ Some j → is_edge_covered state outer ≡ true) →
    is_edge_covered (with_edge j target state claim) outer ≡ true
edge_least j None state known outer h g = h
edge_least j (Some target) state known outer h g =
    elim (cases_Bool (target == j)) [
      | inl same ↦ let is = eqb-true _ _ same in rw same (claims_least _ _ _ h (g (cc)))
      | inr other ↦ rw other h
    ]

-- ---- what is known grows

module _ (helpers : List Helper) (code : List Placed) where
  with_grows : (j k : ℕ) (at : Option Placed) (own claim : Option Abstract) →
      is_edge_covered claim (with_instruction helpers code j k at own claim) ≡ true
  with_grows j k None own claim = covered_refl claim
  with_grows j k (Some placed) None claim = covered_refl claim
  with_grows j k (Some placed) (Some s) claim =
      let target = target_of code placed.slot (jump_of placed.instruction) in
      let fallen = with_edge j (Some (k + 1)) (falls_to placed.instruction s) claim in
      elim (failed_check helpers placed.instruction s) as (λ failed. is_edge_covered claim
      (if_passed failed claim (with_edges code j k placed s claim)) ≡ true) [
        | Some _ ↦ covered_refl claim
        | None ↦
            covered_trans claim fallen (with_edges code j k placed s claim)
            (edge_left j (Some (k + 1)) (falls_to placed.instruction s) claim)
            (edge_left j target (jumps_to placed.instruction s) fallen)
      ]

  grows : (k j : ℕ) → is_edge_covered (known_after helpers code k j) (known_after helpers code (suc k) j) ≡ true
  unfolding known_after
  grows k j = with_grows j k _ _ _

  pub grows_to : (m k j : ℕ) → m ≤ k → is_edge_covered (known_after helpers code m j) (known_after helpers code k j)
      ≡ true
  grows_to m zero j le =
      let same : m ≡ 0 = omega arith in
      rw same (covered_refl (known_after helpers code 0 j))
  grows_to m (suc k) j le = elim (cases_eq m (suc k)) [
    | inl same ↦ rw same (covered_refl (known_after helpers code (suc k) j))
    | inr other ↦ covered_trans _ _ _ (grows_to m k j (omega arith)) (grows k j)
  ]

  -- ---- an instruction whose checks pass

  module _ (k : ℕ) (placed : Placed) (s : Abstract) (at : slice_get code k ≡ Some placed)
      (claim : known_after helpers code k k ≡ Some s) (passed : failed_check helpers placed.instruction s ≡ None)
    where
      pub next_known : (j : ℕ) → known_after helpers code (suc k) j
          ≡ with_edges code j k placed s (known_after helpers code k j)
      unfolding known_after
      next_known j = cc

      pub falls_known : is_edge_covered (falls_to placed.instruction s)
          (known_after helpers code (suc k) (k + 1)) ≡ true
      falls_known =
          let j = k + 1 in
          let before = known_after helpers code k j in
          let fallen = with_edge j (Some j) (falls_to placed.instruction s) before in
          let target = target_of code placed.slot (jump_of placed.instruction) in
          rw (next_known j) (covered_trans _ _ _ (edge_right j (falls_to placed.instruction s) before)
          (edge_left j _ _ _))

      pub jumps_known : (t : ℕ) → target_of code placed.slot (jump_of placed.instruction) ≡ Some t
          → is_edge_covered (jumps_to placed.instruction s) (known_after helpers code (suc k) t) ≡ true
      jumps_known t target =
          let before = known_after helpers code k t in
          let fallen = with_edge t (Some (k + 1)) (falls_to placed.instruction s) before in
          rw (next_known t, target) (edge_right t (jumps_to placed.instruction s) fallen)

-- ---- the least above what edges propagate

module _ (helpers : List Helper) (code : List Placed) (j : ℕ) (outer : Option Abstract) where
  -- both edges of an instruction are within a claim where they lead to j
  pub record BringsWithin (k : ℕ) (placed : Placed) (s : Abstract) : Type 0 where
    pub falls : k + 1 ≡ j → is_edge_covered (falls_to placed.instruction s) outer ≡ true
    pub jumps : target_of code placed.slot (jump_of placed.instruction) ≡ Some j →
        is_edge_covered (jumps_to placed.instruction s) outer ≡ true

  edges_least : (k : ℕ) (placed : Placed) (s : Abstract) (known : Option Abstract) →
      is_edge_covered known outer ≡ true → BringsWithin k placed s →
      is_edge_covered (with_edges code j k placed s known) outer ≡ true
  edges_least k placed s known h propagates =
      edge_least j (target_of code placed.slot (jump_of placed.instruction)) (jumps_to placed.instruction s)
      (with_edge j (Some (k + 1)) (falls_to placed.instruction s) known) outer
      (edge_least j (Some (k + 1)) (falls_to placed.instruction s) known outer h (λ e. propagates.falls (cc)))
      propagates.jumps

  instruction_least : (k : ℕ) (at : Option Placed) (own known : Option Abstract) → slice_get code k ≡ at →
      known_after helpers code k k ≡ own → is_edge_covered known outer ≡ true →
      ((placed : Placed) (s : Abstract) → slice_get code k ≡ Some placed → known_after helpers code k k ≡ Some s →
      failed_check helpers placed.instruction s ≡ None → BringsWithin k placed s) →
      is_edge_covered (with_instruction helpers code j k at own known) outer ≡ true
  instruction_least k (Some placed) (Some s) known at is h propagates =
      let checked = failed_check helpers placed.instruction s in
      elim checked as (λ failed. checked ≡ failed →
      is_edge_covered (if_passed failed known (with_edges code j k placed s known)) outer ≡ true) [
        | Some _ ↦ λ failed. h
        | None ↦ λ passed. edges_least k placed s known h (propagates placed s at is passed)
      ] refl
  instruction_least k placed own known at is h propagates = h

  -- What is known of an instruction is within each claim that the entry, if it is the first, and all that edges of
  -- reached instructions propagate are within.
  pub known_least : (k : ℕ) → is_edge_covered (known_after helpers code 0 j) outer ≡ true →
      ((i : ℕ) (placed : Placed) (s : Abstract) → i < k → slice_get code i ≡ Some placed →
      known_after helpers code i i ≡ Some s → failed_check helpers placed.instruction s ≡ None →
      BringsWithin i placed s) → is_edge_covered (known_after helpers code k j) outer ≡ true
  unfolding known_after
  known_least zero first propagates = first
  known_least (suc k) first propagates =
      instruction_least k _ _ _ refl refl
      (known_least k first (λ i placed s under. propagates i placed s (omega arith)))
      (λ placed s. propagates k placed s (omega arith))

-- ---- the list of them

pub length-states_from : (helpers : List Helper) (code : List Placed) (k : ℕ) (rest : List Placed) →
    length (states_from helpers code k rest) ≡ length rest
length-states_from helpers code k [] = refl
length-states_from helpers code k (placed ∷ rest) = ap (λ (n : ℕ). suc n) (length-states_from helpers code (k + 1) rest)

claim_from : (helpers : List Helper) (code : List Placed) (k : ℕ) (rest : List Placed) (j : ℕ) → j < length rest →
    claim_at (states_from helpers code k rest) j ≡ known_after helpers code (k + j) (k + j)
claim_from helpers code k [] j under = absurd (omega arith)
claim_from helpers code k (placed ∷ rest) zero under =
    let at : k ≡ k + 0 = omega arith in
    cc
claim_from helpers code k (placed ∷ rest) (suc j) under =
    let at : (k + 1) + j ≡ k + suc j = omega arith in
    let is = claim_from helpers code (k + 1) rest j (omega arith) in
    cc

pub length-joined_states : (helpers : List Helper) (code : List Placed) →
    length (joined_states helpers code) ≡ length code
unfolding joined_states
length-joined_states helpers code = length-states_from helpers code 0 code

pub claim_joined : (helpers : List Helper) (code : List Placed) (j : ℕ) → j < length code →
    claim_at (joined_states helpers code) j ≡ known_after helpers code j j
unfolding joined_states
claim_joined helpers code j under =
    let at : 0 + j ≡ j = omega arith in
    let is = claim_from helpers code 0 code j under in
    cc
