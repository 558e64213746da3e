-- No refusal is reported for a list of abstract states exactly where it is an annotation.
use Rattle.std.proofs.Common.{◌≡◌, ◌≢◌, ℕ, zero, suc, ◌+◌, Bool, true, false, not, ◌==◌, ◌&&◌, List, [], ◌∷◌, ◌++◌}
use Rattle.std.proofs.Common.{length, drop, refl, ◌∙◌, inl, inr, arith, Option, Some, None, slice_get}
use Rattle.std.specs.List.{list_any}
use Rattle.std.proofs.{Common.zero-add, lemmas.Option.same_Some}
use Rattle.std.proofs.lemmas.Bool.{cases_Bool, or_parts, and_parts, and_from, eqb-true, eq-eqb}
use Rattle.machine_spec.specs.declared.{helper.Helper.Helper, instruction.Placed.Placed}
use Rattle.machine_spec.specs.{Summaries.summary_of, Traps.first_of}
use Rattle.verifier_spec.specs.{declared.state.Abstract.Abstract, declared.fault.Check.Check}
use Rattle.verifier_spec.specs.{declared.fault.VerifyFault.VerifyFault, States.is_proper, States.entry_state}
use Rattle.verifier_spec.specs.declared.fault.Check.TheVariants as check
use Rattle.verifier_spec.specs.Checks.{checks, failed_check, shape_checks}
use Rattle.verifier_spec.specs.Annotation.{Claims, claim_at, is_covered, are_edges_covered, IsAnnotation}
use Rattle.verifier_spec.specs.Annotation.{reached_checks, failed_at, fault_or, fault_from, fault_of}
use Rattle.machine_spec.proofs.Slots.{drop_first}

-- ---- lists of checks

-- of two lists of checks in a row none fails exactly where none of either fails
first_of-none : {A : Type 0} (xs ys : List (Bool × A)) → first_of (xs ++ ys) ≡ None →
    (first_of xs ≡ None) × (first_of ys ≡ None)
first_of-none [] ys h = (refl, h)
first_of-none (x ∷ xs) ys h = let rest = first_of-none xs ys (grind arith) in (grind arith, rest.1)

pub first_of-append : {A : Type 0} (xs ys : List (Bool × A)) → first_of xs ≡ None → first_of (xs ++ ys) ≡ first_of ys
first_of-append [] ys h = refl
first_of-append (x ∷ xs) ys h = grind (arith, first_of-append xs ys)

-- the first check that fails in a list is the first of it and any other after it
pub first_of-reported : {A : Type 0} (xs ys : List (Bool × A)) (x : A) → first_of xs ≡ Some x →
    first_of (xs ++ ys) ≡ Some x
first_of-reported [] ys x h = cc
first_of-reported (row ∷ xs) ys x h = grind (arith, first_of-reported xs ys x)

pub last_holds : (holds : Bool) (kind : Check) → first_of ((not holds, kind) ∷ []) ≡ None → holds ≡ true
last_holds holds kind h = grind arith

pub fault_or_none : (k : ℕ) (failed : Option Check) (later : Option VerifyFault) → fault_or k failed later ≡ None →
    (failed ≡ None) × (later ≡ None)
fault_or_none k (Some kind) later h = cc
fault_or_none k None later h = (refl, h)

pub none_fault_or : (k : ℕ) (failed : Option Check) (later : Option VerifyFault) → failed ≡ None →
    fault_or k failed later ≡ later
none_fault_or k failed later h = rw h

-- the number of an instruction of a list's rest
shift : (k i : ℕ) → (k + 1) + i ≡ k + suc i
shift k i = omega arith

-- what each check of a list is not, its refusal is not
pub first_is_other : (test : Check → Bool) (rows : List (Bool × Check)) (kind : Check) →
    list_any (λ row. test row.1) rows ≡ false → first_of rows ≡ Some kind → test kind ≡ false
first_is_other test [] kind none e = cc
first_is_other test (row ∷ rows) kind none e =
    let parts = or_parts (test row.1) (list_any (λ r. test r.1) rows) none in
    elim (cases_Bool row.0) [
      | inl fails ↦ cc
      | inr passes ↦ first_is_other test rows kind parts.1 (cc)
    ]

module _ (helpers : List Helper) (code : List Placed) (claims : Claims) where
  -- ---- one instruction

  -- An instruction with a claim passes: its checks and its edges hold from the state of the claim, if it has one.
  pub record Passes (k : ℕ) (placed : Placed) (claim : Option Abstract) : Type 0 where
    pub shape : first_of (shape_checks code k placed) ≡ None
    pub checked : (s : Abstract) → claim ≡ Some s → failed_check helpers placed.instruction s ≡ None
    pub closed : (s : Abstract) → claim ≡ Some s → are_edges_covered code claims k placed s ≡ true

  reached_pass : (k : ℕ) (placed : Placed) (claim : Option Abstract) →
      first_of (reached_checks helpers code claims k placed claim) ≡ None → (s : Abstract) → claim ≡ Some s →
      (failed_check helpers placed.instruction s ≡ None) × (are_edges_covered code claims k placed s ≡ true)
  unfolding failed_check
  reached_pass k placed None h s e = cc
  reached_pass k placed (Some t) h s e =
      let parts = first_of-none (checks helpers (summary_of placed.instruction) t)
      ((not (are_edges_covered code claims k placed t), check.Notes) ∷ []) h in
      rw (← same_Some _ _ e) (parts.0, last_holds _ check.Notes parts.1)

  pass_reached : (k : ℕ) (placed : Placed) (claim : Option Abstract) → Passes k placed claim →
      first_of (reached_checks helpers code claims k placed claim) ≡ None
  unfolding failed_check
  pass_reached k placed None p = refl
  pass_reached k placed (Some t) p =
      let closed = p.closed t refl in
      first_of-append (checks helpers (summary_of placed.instruction) t)
      ((not (are_edges_covered code claims k placed t), check.Notes) ∷ []) (p.checked t refl) ∙ grind arith

  pub passes_at : (k : ℕ) (placed : Placed) → failed_at helpers code claims k placed ≡ None →
      Passes k placed (claim_at claims k)
  unfolding failed_at
  passes_at k placed h =
      let claim = claim_at claims k in
      let parts = first_of-none (shape_checks code k placed) (reached_checks helpers code claims k placed claim) h in
      let reached = reached_pass k placed claim parts.1 in
      record { shape = parts.0; checked = λ s e. (reached s e).0; closed = λ s e. (reached s e).1 }

  pub at_passes : (k : ℕ) (placed : Placed) → Passes k placed (claim_at claims k) →
      failed_at helpers code claims k placed ≡ None
  unfolding failed_at
  at_passes k placed p =
      first_of-append (shape_checks code k placed) (reached_checks helpers code claims k placed (claim_at claims k))
      p.shape ∙ pass_reached k placed (claim_at claims k) p

  -- ---- all instructions

  -- no refusal from number k on: each instruction from there on passes
  each_passes : (k : ℕ) (rest : List Placed) → fault_from helpers code claims k rest ≡ None →
      (i : ℕ) (placed : Placed) → slice_get rest i ≡ Some placed → failed_at helpers code claims (k + i) placed ≡ None
  each_passes k [] h i placed e = cc
  each_passes k (first ∷ rest) h zero placed e =
      let here : k + 0 ≡ k = omega arith in
      rw (here, ← same_Some _ _ e) (fault_or_none k (failed_at helpers code claims k first) _ h).0
  each_passes k (first ∷ rest) h (suc i) placed e =
      let later = (fault_or_none k (failed_at helpers code claims k first) _ h).1 in
      rw (← shift k i) (each_passes (k + 1) rest later i placed e)

  pub none_from_each : (k : ℕ) (rest : List Placed) →
      ((i : ℕ) (placed : Placed) → slice_get rest i ≡ Some placed → failed_at helpers code claims (k + i) placed ≡ None)
      → fault_from helpers code claims k rest ≡ None
  none_from_each k [] h = refl
  none_from_each k (first ∷ rest) h =
      let here : k + 0 ≡ k = omega arith in
      none_fault_or k _ _ (rw here at (h 0 first refl))
      ∙ none_from_each (k + 1) rest (λ i placed e. rw (shift k i) (h (suc i) placed e))

  -- ---- the law

  -- a list of states in their ranges that has no refusal is an annotation
  pub annotation_from_none : fault_of helpers code claims ≡ None →
      ((k : ℕ) (s : Abstract) → claim_at claims k ≡ Some s → is_proper s ≡ true) → IsAnnotation helpers code claims
  unfolding fault_of
  annotation_from_none h proper =
      let starts : ((length claims == length code) && is_covered entry_state (claim_at claims 0)) ≡ true =
      grind arith in
      let none : fault_from helpers code claims 0 code ≡ None = grind arith in
      let each : (i : ℕ) (placed : Placed) → slice_get code i ≡ Some placed → Passes i placed (claim_at claims i) =
      λ i placed e. passes_at i placed (rw zero-add at (each_passes 0 code none i placed e)) in
      let both = and_parts _ _ starts in
      record {
        long = eqb-true (length claims) (length code) both.0;
        start = both.1;
        shape = λ k placed e. (each k placed e).shape;
        checked = λ k placed s e n. (each k placed e).checked s n;
        closed = λ k placed s e n. (each k placed e).closed s n;
        proper = proper;
      }

  -- an annotation has no refusal
  pub none_from_annotation : IsAnnotation helpers code claims → fault_of helpers code claims ≡ None
  unfolding fault_of
  none_from_annotation a =
      let both = and_from _ _ (eq-eqb _ _ a.long) a.start in
      let none = none_from_each 0 code (λ i placed e. rw zero-add (at_passes i placed (record {
        shape = a.shape i placed e;
        checked = λ s. a.checked i placed s e;
        closed = λ s. a.closed i placed s e;
      }))) in
      cc

  -- ---- a refusal is the first failed check of an instruction

  pub record IsFound (f : VerifyFault) : Type 0 where
    pub placed : Placed
    pub at : slice_get code f.pc ≡ Some placed
    pub failed : failed_at helpers code claims f.pc placed ≡ Some f.kind

  pub found_from : (k : ℕ) (rest : List Placed) (f : VerifyFault) →
      ((i : ℕ) (placed : Placed) → slice_get rest i ≡ Some placed → slice_get code (k + i) ≡ Some placed) →
      fault_from helpers code claims k rest ≡ Some f → IsFound f
  found_from k [] f all e = cc
  found_from k (first ∷ rest) f all e =
      let here : k + 0 ≡ k = omega arith in
      let failed_here = failed_at helpers code claims k first in
      elim failed_here as (λ failed. failed_here ≡ failed →
      fault_or k failed (fault_from helpers code claims (k + 1) rest) ≡ Some f → IsFound f) [
        | Some kind ↦ λ is found.
            rw (← same_Some _ _ found) (record { placed = first; at = rw here at (all 0 first refl); failed = is })
        | None ↦ λ is. found_from (k + 1) rest f (λ i placed at. rw (shift k i) (all (suc i) placed at))
      ] refl e

  pub found_in_code : (f : VerifyFault) → fault_from helpers code claims 0 code ≡ Some f → IsFound f
  found_in_code f = found_from 0 code f (λ i placed at. rw zero-add at)

-- the refusal from an instruction on is its own, or else the one from the next on
pub fault_from-drop : (helpers : List Helper) (code : List Placed) (claims : Claims) (all : List Placed) (k : ℕ)
    (placed : Placed) → slice_get all k ≡ Some placed →
    fault_from helpers code claims k (drop k all)
    ≡ fault_or k (failed_at helpers code claims k placed) (fault_from helpers code claims (k + 1) (drop (k + 1) all))
fault_from-drop helpers code claims all k placed e = rw (drop_first all k placed e)

-- ---- running out of memory is no refusal of a list

is_memory : Check → Bool
is_memory check.Memory = true
is_memory _ = false

no_memory_rows : (helpers : List Helper) (code : List Placed) (claims : Claims) (k : ℕ) (placed : Placed)
    (known : Option Abstract) → list_any (λ row. is_memory row.1)
    (shape_checks code k placed ++ reached_checks helpers code claims k placed known) ≡ false
unfolding is_memory
no_memory_rows helpers code claims k placed None = refl
no_memory_rows helpers code claims k placed (Some s) = refl

no_memory_at : (helpers : List Helper) (code : List Placed) (claims : Claims) (k : ℕ) (placed : Placed) (kind : Check) →
    failed_at helpers code claims k placed ≡ Some kind → is_memory kind ≡ false
unfolding failed_at
no_memory_at helpers code claims k placed kind e =
    first_is_other is_memory
    (shape_checks code k placed ++ reached_checks helpers code claims k placed (claim_at claims k)) kind
    (no_memory_rows helpers code claims k placed (claim_at claims k)) e

-- no refusal of a list is that memory ran out
pub fault_of-kind : (helpers : List Helper) (code : List Placed) (claims : Claims) (f : VerifyFault) →
    fault_of helpers code claims ≡ Some f → f.kind ≢ check.Memory
unfolding fault_of is_memory
fault_of-kind helpers code claims f e is =
    let none : is_memory f.kind ≡ false =
    elim (cases_Bool ((length claims == length code) && is_covered entry_state (claim_at claims 0))) [
      | inl passes ↦
          let found = found_in_code helpers code claims f (cc) in
          no_memory_at helpers code claims f.pc found.placed f.kind found.failed
      | inr fails ↦ cc
    ] in
    cc
