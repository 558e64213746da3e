-- Steps of the passes over a list of states.
use Rattle.std.proofs.Common.{◌≡◌, ◌≢◌, ℕ, zero, suc, ◌+◌, ◌<◌, ◌≤◌, Bool, true, false, cond, ◌||◌, ◌==◌, List, [], ◌∷◌}
use Rattle.std.proofs.Common.{◌++◌, length, take, drop, replicate, get_or, set, Option, Some, None, refl, sym, ap, ◌∙◌}
use Rattle.std.proofs.Common.{subst, inl, inr, arith, length-set, slice_get}
use Rattle.std.specs.List.{list_any}
use Rattle.std.proofs.lemmas.Bool.{cond-true, cond-false, cases_Bool, cases_eq, eq-eqb, eqb-true}
use Rattle.std.proofs.{lemmas.Option.slice_get_within, lemmas.List.Folds.list_any_more}
use Rattle.std.proofs.lemmas.List.{get_or-set_same, get_or-set_other, get_or-replicate, length-replicate, drop_more}
use Rattle.std.proofs.lemmas.List.{append_assoc, append-nil}
use Rattle.machine_spec.specs.{declared.helper.Helper.Helper, declared.instruction.Placed.Placed, Image.target_of}
use Rattle.verifier_spec.specs.{declared.state.Abstract.Abstract, States.is_proper, States.entry_state, Checks.jump_of}
use Rattle.verifier_spec.specs.{Annotation.Claims, Annotation.claim_at}
use Rattle.notes.specs.Derived.{state_fallen_to, given_or, derived_at, leads_to, jumps_at, is_jump_target, at_targets}
use Rattle.notes.specs.Derived.{pair_at, kept_claim, kept_from, kept_states, HasEachClaim, AreDerivedProper, AreTargets}
use Rattle.notes.proofs.Derived.{given_first, given_next, read_placed}

-- ---- marks

or_none : (b : Bool) → b ≡ (b || false)
or_none true = refl
or_none false = refl

pub or_all : (b c : Bool) → c ≡ true → true ≡ (b || c)
or_all true c e = refl
or_all false c e = sym e

apart : (n k : ℕ) → k ≢ n → (n == k) ≡ false
apart n k other = elim (cases_Bool (n == k)) [
  | inl same ↦ absurd (other (sym (eqb-true n k same)))
  | inr other_number ↦ other_number
]

or_apart : (b : Bool) (n k : ℕ) → k ≢ n → b ≡ (b || (n == k))
or_apart b n k other = or_none b ∙ ap (λ (c : Bool). b || c) (sym (apart n k other))

pub marked : (marks : List Bool) (n k : ℕ) → n < length marks →
    get_or (set marks n true) k false ≡ (get_or marks k false || (n == k))
marked marks n k inside = elim (cases_eq k n) [
  | inl same ↦
      let P : ℕ → Type 0 = λ j. get_or (set marks n true) j false ≡ (get_or marks j false || (n == j)) in
      subst P (sym same) (get_or-set_same marks n true false inside
      ∙ or_all (get_or marks n false) (n == n) (eq-eqb n n refl))
  | inr other ↦ get_or-set_other marks n k true false other ∙ or_apart (get_or marks k false) n k other
]

-- after the jumps of the first k instructions
pub record AreMarked (code : List Placed) (marks : List Bool) (k : ℕ) : Type 0 where
  pub long : length marks ≡ length code
  pub each : (j : ℕ) → j < length code → get_or marks j false ≡ list_any (jumps_at code j) (take k code)

pub first_marked : (code : List Placed) → AreMarked code (replicate (length code) false) 0
first_marked code = record {
  long = length-replicate (length code) false;
  each = λ j under. get_or-replicate (length code) j false false under;
}

pub more_marked : (code : List Placed) (marks more : List Bool) (k : ℕ) (placed : Placed) →
    slice_get code k ≡ Some placed → length more ≡ length marks →
    ((j : ℕ) → j < length marks → get_or more j false
    ≡ (get_or marks j false || leads_to (target_of code placed.slot (jump_of placed.instruction)) j)) →
    AreMarked code marks k → AreMarked code more (k + 1)
more_marked code marks more k placed at long each before = record {
  long = long ∙ before.long;
  each = λ j under.
      let P : Placed → Type 0 = λ p. get_or more j false
      ≡ (list_any (jumps_at code j) (take k code) || jumps_at code j p) in
      let here = each j (omega (arith, under, before.long))
      ∙ ap (λ (b : Bool). b || jumps_at code j placed) (before.each j under) in
      subst P (sym (read_placed code k placed at)) here
      ∙ sym (list_any_more (jumps_at code j) code k placed (slice_get_within code k placed at));
}

take_all : {A : Type 0} (xs : List A) → take (length xs) xs ≡ xs
take_all [] = refl
take_all (x ∷ xs) = ap (λ ys. x ∷ ys) (take_all xs)

pub all_marked : (code : List Placed) (marks : List Bool) (k : ℕ) → k ≡ length code → AreMarked code marks k →
    AreTargets code marks
unfolding is_jump_target
all_marked code marks k all done = record {
  long = done.long;
  each = λ j under. done.each j under
      ∙ ap (λ (xs : List Placed). list_any (jumps_at code j) xs) (ap (λ (n : ℕ). take n code) all ∙ take_all code);
}

-- ---- one claim after another

pub claim_at-set : (claims : Claims) (k : ℕ) (new : Option Abstract) → k < length claims →
    claim_at (set claims k new) k ≡ new
claim_at-set [] k new lt = absurd (omega arith)
claim_at-set (first ∷ claims) zero new lt = refl
claim_at-set (first ∷ claims) (suc k) new lt = claim_at-set claims k new (omega arith)

pub claim_at-set_other : (claims : Claims) (k j : ℕ) (new : Option Abstract) → j ≢ k →
    claim_at (set claims k new) j ≡ claim_at claims j
claim_at-set_other [] k j new other = refl
claim_at-set_other (first ∷ claims) zero zero new other = absurd (other refl)
claim_at-set_other (first ∷ claims) zero (suc j) new other = refl
claim_at-set_other (first ∷ claims) (suc k) zero new other = refl
claim_at-set_other (first ∷ claims) (suc k) (suc j) new other =
    claim_at-set_other claims k j new (λ same. other (ap (λ (n : ℕ). suc n) same))

-- The first k claims are new ones, the others as they were.
pub record AreDone (old claims : Claims) (new : ℕ → Option Abstract) (k : ℕ) : Type 0 where
  pub long : length claims ≡ length old
  pub done : (j : ℕ) → j < k → claim_at claims j ≡ new j
  pub left : (j : ℕ) → k ≤ j → claim_at claims j ≡ claim_at old j

pub none_done : (old : Claims) (new : ℕ → Option Abstract) → AreDone old old new 0
none_done old new = record { long = refl; done = λ j under. absurd (omega (arith, under)); left = λ j from. refl }

pub one_done : (old claims : Claims) (new : ℕ → Option Abstract) (k : ℕ) (claim : Option Abstract) → k < length old →
    claim ≡ new k → AreDone old claims new k → AreDone old (set claims k claim) new (k + 1)
one_done old claims new k claim inside is before = record {
  long = length-set claims k claim ∙ before.long;
  done = λ j under. elim (cases_eq j k) [
    | inl same ↦
        let P : ℕ → Type 0 = λ n. claim_at (set claims k claim) n ≡ new n in
        let here : k < length claims = omega (arith, inside, before.long) in
        subst P (sym same) (claim_at-set claims k claim here ∙ is)
    | inr other ↦ claim_at-set_other claims k j claim other ∙ before.done j (omega (arith, under, other))
  ];
  left = λ j from.
      let other : j ≢ k = λ same. omega (arith, from, same) in
      claim_at-set_other claims k j claim other ∙ before.left j (omega (arith, from));
}

-- a claim that was not reached yet is the old one
pub old_claim : (old claims : Claims) (new : ℕ → Option Abstract) (k : ℕ) → AreDone old claims new k →
    claim_at claims k ≡ claim_at old k
old_claim old claims new k done = done.left k (omega arith)

-- those of marked instructions
abbrev pub if_marked : List Bool → Claims → ℕ → Option Abstract
if_marked marks claims j = cond (get_or marks j false) (claim_at claims j) None

-- ---- what follows

module _ (helpers : List Helper) where
  -- what follows has come to instruction k
  pub record HasFollowed (code : List Placed) (old : Claims) (follows : Option Abstract) (k : ℕ) : Type 0 where
    pub next : derived_at helpers code (claim_at old) k ≡ given_or (claim_at old k) follows
    pub proper : AreDerivedProper helpers code (claim_at old) k

  pub follows_first : (code : List Placed) (old : Claims) → HasFollowed code old (Some entry_state) 0
  follows_first code old = record {
    next = given_first helpers code (claim_at old);
    proper = λ k s under e. absurd (omega (arith, under));
  }

  pub follows_more : (code : List Placed) (old : Claims) (follows state falls : Option Abstract) (k : ℕ)
      (placed : Placed) → slice_get code k ≡ Some placed → state ≡ given_or (claim_at old k) follows →
      falls ≡ state_fallen_to helpers code k (Some placed) state →
      ((s : Abstract) → state ≡ Some s → is_proper s ≡ true) →
      HasFollowed code old follows k → HasFollowed code old falls (k + 1)
  follows_more code old follows state falls k placed at state_is falls_is proper before =
      let given = claim_at old in
      let here : derived_at helpers code given k ≡ state = before.next ∙ sym state_is in
      let one : suc k ≡ k + 1 = omega arith in
      let P : ℕ → Type 0 = λ n. derived_at helpers code given n ≡ given_or (given n) falls in
      record {
        next = subst P one
            (given_next helpers code given k
            ∙ ap (λ (o : Option Abstract). given_or (given (suc k)) o)
            (ap (λ (o : Option Placed). state_fallen_to helpers code k o (derived_at helpers code given k)) at
            ∙ (ap (λ (o : Option Abstract). state_fallen_to helpers code k (Some placed) o) here ∙ sym falls_is)));
        proper = λ j s under e. elim (cases_eq j k) [
          | inl same ↦ proper s (sym here ∙ (ap (λ (n : ℕ). derived_at helpers code given n) (sym same) ∙ e))
          | inr other ↦ before.proper j s (omega (arith, under, other)) e
        ];
      }

  -- what an instruction has after one step of the derivation
  pub followed_claim : (code : List Placed) (old claims : Claims) (k : ℕ) (follows : Option Abstract) →
      AreDone old claims (derived_at helpers code (claim_at old)) k → HasFollowed code old follows k →
      given_or (claim_at claims k) follows ≡ derived_at helpers code (claim_at old) k
  followed_claim code old claims k follows done followed =
      ap (λ (o : Option Abstract). given_or o follows)
      (old_claim old claims (derived_at helpers code (claim_at old)) k done)
      ∙ sym followed.next

-- ---- states with numbers

pair_at-append : (xs : List (ℕ × Abstract)) (pair : ℕ × Abstract) (k : ℕ) →
    pair_at (xs ++ pair ∷ []) k ≡ given_or (pair_at xs k) (cond (pair.0 == k) (Some pair.1) None)
pair_at-append [] pair k = refl
pair_at-append (x ∷ xs) pair k =
    elim (x.0 == k) as (λ same. cond same (Some x.1) (pair_at (xs ++ pair ∷ []) k)
    ≡ given_or (cond same (Some x.1) (pair_at xs k)) (cond (pair.0 == k) (Some pair.1) None)) [
      | true ↦ refl
      | false ↦ pair_at-append xs pair k
    ]

take_more : {A : Type 0} (xs : List A) (k : ℕ) (d : A) → k < length xs →
    take (k + 1) xs ≡ take k xs ++ (get_or xs k d ∷ [])
take_more [] k d under = absurd (omega arith)
take_more (x ∷ xs) zero d under = refl
take_more (x ∷ xs) (suc k) d under =
    let next : suc (k + 1) ≡ suc k + 1 = omega arith in
    subst (λ n. take n (x ∷ xs) ≡ take (suc k) (x ∷ xs) ++ (get_or (x ∷ xs) (suc k) d ∷ [])) next
    (ap (λ ys. x ∷ ys) (take_more xs k d (omega arith)))

pub put_more : (pairs : List (ℕ × Abstract)) (states more : Claims) (k : ℕ) (pair : ℕ × Abstract) → k < length pairs →
    pair ≡ get_or pairs k pair → length more ≡ length states →
    HasEachClaim more (λ j. given_or (claim_at states j) (cond (pair.0 == j) (Some pair.1) None)) →
    HasEachClaim states (pair_at (take k pairs)) → HasEachClaim more (pair_at (take (k + 1) pairs))
put_more pairs states more k pair under is long each before = λ j inside.
    let P : (ℕ × Abstract) → Type 0 = λ p. pair_at (take k pairs ++ p ∷ []) j
    ≡ given_or (pair_at (take k pairs) j) (cond (pair.0 == j) (Some pair.1) None) in
    let last = subst P is (pair_at-append (take k pairs) pair j) in
    each j inside
    ∙ (ap (λ (o : Option Abstract). given_or o (cond (pair.0 == j) (Some pair.1) None))
    (before j (omega (arith, inside, long)))
    ∙ (sym last ∙ ap (λ (xs : List (ℕ × Abstract)). pair_at xs j) (sym (take_more pairs k pair under))))

pub put_one : (states : Claims) (pair : ℕ × Abstract) (new : Option Abstract) → pair.0 < length states →
    new ≡ given_or (claim_at states pair.0) (Some pair.1) →
    HasEachClaim (set states pair.0 new) (λ j. given_or (claim_at states j) (cond (pair.0 == j) (Some pair.1) None))
put_one states pair new inside is = λ j under. elim (cases_eq j pair.0) [
  | inl same ↦
      let P : ℕ → Type 0 = λ n. claim_at (set states pair.0 new) n
      ≡ given_or (claim_at states n) (cond (pair.0 == n) (Some pair.1) None) in
      subst P (sym same)
      (claim_at-set states pair.0 new inside
      ∙ (is ∙ ap (λ (o : Option Abstract). given_or (claim_at states pair.0) o)
      (sym (cond-true (pair.0 == pair.0) (Some pair.1) None (eq-eqb pair.0 pair.0 refl)))))
  | inr other ↦
      claim_at-set_other states pair.0 j new other
      ∙ (given_none (claim_at states j)
      ∙ ap (λ (o : Option Abstract). given_or (claim_at states j) o)
      (sym (cond-false (pair.0 == j) (Some pair.1) None (apart pair.0 j other))))
]
  where
    given_none : (o : Option Abstract) → o ≡ given_or o None
    given_none None = refl
    given_none (Some s) = refl

-- ---- kept states

pub claim_at-get_or : (claims : Claims) (k : ℕ) (d : Option Abstract) → k < length claims →
    claim_at claims k ≡ get_or claims k d
claim_at-get_or [] k d lt = absurd (omega arith)
claim_at-get_or (first ∷ claims) zero d lt = refl
claim_at-get_or (first ∷ claims) (suc k) d lt = claim_at-get_or claims k d (omega arith)

pub kept_more : (code : List Placed) (claims : Claims) (k : ℕ) (wanted : Bool) (claim : Option Abstract) →
    k < length claims → wanted ≡ is_jump_target code k → claim ≡ get_or claims k claim →
    kept_from code k (drop k claims) ≡ kept_claim wanted k claim ++ kept_from code (k + 1) (drop (k + 1) claims)
kept_more code claims k wanted claim under is read =
    let P : Option Abstract → Type 0 = λ o. kept_from code k (drop k claims) ≡ kept_claim (is_jump_target code k) k o
    ++ kept_from code (k + 1) (drop (k + 1) claims) in
    let Q : Bool → Type 0 = λ b. kept_from code k (drop k claims) ≡ kept_claim b k claim
    ++ kept_from code (k + 1) (drop (k + 1) claims) in
    subst Q (sym is) (subst P (sym read) (ap (λ (ns : Claims). kept_from code k ns) (drop_more claims k claim under)))

-- one more in place of the old one
pub more_done : (old claims more : Claims) (new : ℕ → Option Abstract) (k : ℕ) (claim : Option Abstract) →
    k < length old → more ≡ set claims k claim → claim ≡ new k → AreDone old claims new k → AreDone old more new (k + 1)
more_done old claims more new k claim inside set_is is before =
    subst (λ (ns : Claims). AreDone old ns new (k + 1)) (sym set_is) (one_done old claims new k claim inside is before)

-- nothing is put at first
pub none_put : (states : Claims) → states ≡ replicate (length states) None → HasEachClaim states (pair_at [])
none_put states e = λ j under. ap (λ (ns : Claims). claim_at ns j) e ∙ none_there (length states) j
  where
    none_there : (n j : ℕ) → claim_at (replicate n None) j ≡ None
    none_there zero j = refl
    none_there (suc n) zero = refl
    none_there (suc n) (suc j) = none_there n j

-- ---- kept states, one after another

pub kept_step : (code : List Placed) (claims : Claims) (k : ℕ) (wanted : Bool) (claim : Option Abstract)
    (old more : List (ℕ × Abstract)) → k < length claims → wanted ≡ is_jump_target code k →
    claim ≡ claim_at claims k → more ≡ old ++ kept_claim wanted k claim →
    old ++ kept_from code k (drop k claims) ≡ kept_from code 0 claims →
    more ++ kept_from code (k + 1) (drop (k + 1) claims) ≡ kept_from code 0 claims
kept_step code claims k wanted claim old more under is read pushed before =
    let rest = kept_from code (k + 1) (drop (k + 1) claims) in
    ap (λ (xs : List (ℕ × Abstract)). xs ++ rest) pushed
    ∙ (append_assoc old (kept_claim wanted k claim) rest
    ∙ (ap (λ (xs : List (ℕ × Abstract)). old
    ++ xs) (sym (kept_more code claims k wanted claim under is (read ∙ claim_at-get_or claims k claim under)))
    ∙ before))

drop_all : {A : Type 0} (xs : List A) → drop (length xs) xs ≡ []
drop_all [] = refl
drop_all (x ∷ xs) = drop_all xs

pub kept_all : (code : List Placed) (claims : Claims) (k : ℕ) (kept : List (ℕ × Abstract)) → k ≡ length claims →
    kept ++ kept_from code k (drop k claims) ≡ kept_from code 0 claims → kept ≡ kept_states code claims
unfolding kept_states
kept_all code claims k kept all done =
    let none : drop k claims ≡ [] = ap (λ (n : ℕ). drop n claims) all ∙ drop_all claims in
    let P : Claims → Type 0 = λ ns. kept ++ kept_from code k ns ≡ kept_from code 0 claims in
    sym (append-nil kept) ∙ subst P none done

-- what is given after the marked states are left
pub marked_given : (code : List Placed) (targets : List Bool) (old claims : Claims) → AreTargets code targets →
    length old ≡ length code → length claims ≡ length old → HasEachClaim claims (if_marked targets old) → (k : ℕ) →
    k < length code → claim_at claims k ≡ at_targets code old k
marked_given code targets old claims are long same each k under =
    each k (omega (arith, under, long, same)) ∙ ap (λ (b : Bool). cond b (claim_at old k) None) (are.each k under)
