-- Marks of the instructions that come to one: what leads in one step to a marked one is marked.
use Rattle.std.proofs.Common.{◌≡◌, ◌⊎◌, ℤ, ℕ, zero, suc, ◌+◌, ◌<◌, ◌≤◌, Bool, true, false, ◌==◌, if◌then◌else◌}
use Rattle.std.proofs.Common.{List, [], ◌∷◌, ◌++◌, length, get_or, slice_get, slice_set, Option, Some, None, refl, sym}
use Rattle.std.proofs.Common.{ap, subst, ◌∙◌, replicate, add-one, arith, inl, inr}
use Rattle.std.proofs.lemmas.Bool.{cases_Bool, cases_lt, cases_eq, and_parts, or_cases, eq-eqb, eqb-true, both_ways}
use Rattle.std.proofs.lemmas.Bool.{false≢true, and_from, or_left, or_right}
use Rattle.std.proofs.lemmas.List.{append-nil, length-set, length-append, get_or_past}
use Rattle.std.proofs.lemmas.List.{get_or-set_same, get_or-set_other, get_or-replicate, length-replicate}
use Rattle.std.proofs.lemmas.Option.{same_Some, none-some, slice_get_past, slice_get_within, slice_get-get_or}
use Rattle.machine_spec.specs.{declared.instruction.Placed.Placed, Summaries.summary_of}
use Rattle.explain.specs.Loops.{is_there, jumps_to_marked, leads_to_marked, comes_to, is_marked}
use Rattle.explain.specs.Graphs.{jump_from, jump_number, jumps_to, numbers_below, sources_of}
use Rattle.explain.specs.Found.{follows, Leads, unmarked, marked_too, listed_too, AreFound, AreJumpsFound}

-- ---- one step

there : (test : ℕ → Bool) (o : Option ℕ) → is_there test o ≡ true → (t : ℕ) × (o ≡ Some t) × (test t ≡ true)
there test (Some t) e = (t, refl, e)
there test None e = absurd (false≢true e)

by_jump : (code : List Placed) (test : ℕ → Bool) (slot : ℕ) (jump : Option ℤ) →
    jumps_to_marked code test slot jump ≡ is_there test (jump_number code slot jump)
by_jump code test slot (Some offset) = refl
by_jump code test slot None = refl

-- an instruction leads in one step to one that passes a test
record Step (code : List Placed) (test : ℕ → Bool) (k : ℕ) : Type 0 where
  pub to : ℕ
  pub passes : test to ≡ true
  pub leads : Leads code to k

module _ (code : List Placed) (test : ℕ → Bool) (k : ℕ) where
  step_from : leads_to_marked code test k (slice_get code k) ≡ true → Step code test k
  step_from e = from (slice_get code k) refl e
    where
      from : (placed : Option Placed) → slice_get code k ≡ placed → leads_to_marked code test k placed ≡ true →
          Step code test k
      from (Some placed) at e = elim (or_cases _ _ e) [
        | inl falls ↦
            let parts = and_parts _ _ falls in
            record { to = k + 1; passes = parts.1; leads = inl (ap follows at ∙ parts.0, refl) }
        | inr jumps ↦
            let found = there test (jump_from code (Some placed))
            (sym (by_jump code test placed.slot (summary_of placed.instruction).jump) ∙ jumps) in
            record {
              to = found.0;
              passes = found.2;
              leads = inr (ap (λ (o : Option Placed). is_there (λ t. t == found.0) (jump_from code o)) at
                  ∙ (ap (is_there (λ t. t == found.0)) found.1 ∙ eq-eqb found.0 found.0 refl));
            }
      ]
      from None at e = absurd (false≢true e)

  step_of : Step code test k → leads_to_marked code test k (slice_get code k) ≡ true
  step_of step = from (slice_get code k) refl step.leads
    where
      from : (placed : Option Placed) → slice_get code k ≡ placed →
          Leads code step.to k → leads_to_marked code test k placed ≡ true
      from (Some placed) at (inl falls) =
          or_left _ _ (and_from _ _ (sym (ap follows at) ∙ falls.0) (ap test (sym falls.1) ∙ step.passes))
      from (Some placed) at (inr jumps) =
          let found = there (λ t. t == step.to) (jump_from code (Some placed))
          (sym (ap (λ (o : Option Placed). is_there (λ t. t == step.to) (jump_from code o)) at) ∙ jumps) in
          let same : found.0 ≡ step.to = eqb-true _ _ found.2 in
          or_right _ _ (by_jump code test placed.slot (summary_of placed.instruction).jump
          ∙ (ap (is_there test) found.1 ∙ (ap test same ∙ step.passes)))
      from None at (inl falls) = absurd (false≢true (sym (ap follows at) ∙ falls.0))
      from None at (inr jumps) =
          absurd (false≢true (sym (ap (λ (o : Option Placed). is_there (λ t. t == step.to) (jump_from code o)) at)
          ∙ jumps))

jumps_within : (code : List Placed) (j k : ℕ) → jumps_to code j k ≡ true → k < length code
jumps_within code j k e = elim (cases_lt k (length code)) [
  | inl below ↦ below
  | inr past ↦ absurd (false≢true (sym (ap (λ (o : Option Placed). is_there (λ t. t == j) (jump_from code o))
      (slice_get_past code k past)) ∙ e))
]

module _ (code : List Placed) (to : ℕ) where
  comes_more : (steps k : ℕ) → comes_to code to steps k ≡ true → comes_to code to (steps + 1) k ≡ true
  unfolding comes_to
  comes_more steps k e = rw add-one (or_left _ _ e)

  comes_next : (steps k : ℕ) → Step code (comes_to code to steps) k → comes_to code to (steps + 1) k ≡ true
  unfolding comes_to
  comes_next steps k step = rw add-one (or_right _ _ (step_of code (comes_to code to steps) k step))

  comes_within : (n steps k : ℕ) → steps ≤ n → comes_to code to steps k ≡ true → comes_to code to n k ≡ true
  comes_within zero steps k few e =
      let none : steps ≡ 0 = omega arith in subst (λ (s : ℕ). comes_to code to s k ≡ true) none e
  comes_within (suc n) steps k few e = elim (cases_lt steps (suc n)) [
    | inl below ↦
        let next : n + 1 ≡ suc n = omega arith in
        subst (λ (s : ℕ). comes_to code to s k ≡ true) next
        (comes_more n k (comes_within n steps k (omega arith) e))
    | inr past ↦
        let same : steps ≡ suc n = omega arith in subst (λ (s : ℕ). comes_to code to s k ≡ true) same e
  ]

-- ---- numbers that pass a test, in a list

get_before : (xs ys : List ℕ) (p i : ℕ) → slice_get xs p ≡ Some i → slice_get (xs ++ ys) p ≡ Some i
get_before [] ys p i e = absurd (none-some i e)
get_before (x ∷ xs) ys zero i e = e
get_before (x ∷ xs) ys (suc p) i e = get_before xs ys p i e

get_last : (xs : List ℕ) (y : ℕ) → slice_get (xs ++ y ∷ []) (length xs) ≡ Some y
get_last [] y = refl
get_last (x ∷ xs) y = get_last xs y

get_split : (xs : List ℕ) (y p i : ℕ) → slice_get (xs ++ y ∷ []) p ≡ Some i →
    (slice_get xs p ≡ Some i) ⊎ ((i ≡ y) × (p ≡ length xs))
get_split [] y zero i e = inr (sym (same_Some y i e), refl)
get_split [] y (suc p) i e = absurd (none-some i e)
get_split (x ∷ xs) y zero i e = inl e
get_split (x ∷ xs) y (suc p) i e = elim (get_split xs y p i e) [
  | inl old ↦ inl old
  | inr new ↦ inr (new.0, ap suc new.1)
]

get_was : (xs ys : List ℕ) (p i : ℕ) → p < length xs → slice_get (xs ++ ys) p ≡ Some i → slice_get xs p ≡ Some i
get_was [] ys p i below e = absurd (omega arith)
get_was (x ∷ xs) ys zero i below e = e
get_was (x ∷ xs) ys (suc p) i below e = get_was xs ys p i (omega arith) e

pub number_passes : (test : ℕ → Bool) (n p i : ℕ) → slice_get (numbers_below n test) p ≡ Some i →
    (test i ≡ true) × (i < n)
unfolding numbers_below
number_passes test zero p i e = absurd (none-some i e)
number_passes test (suc n) p i e = elim (cases_Bool (test n)) [
  | inl is ↦ elim (get_split (numbers_below n test) n p i (rw is at e)) [
    | inl old ↦ let rest = number_passes test n p i old in (rest.0, omega (arith, rest.1))
    | inr new ↦ (ap test new.0 ∙ is, omega (arith, new.0))
  ]
  | inr other ↦
      let rest = number_passes test n p i
      (subst (λ (xs : List ℕ). slice_get xs p ≡ Some i) (append-nil (numbers_below n test)) (rw other at e)) in
      (rest.0, omega (arith, rest.1))
]

number_listed : (test : ℕ → Bool) (n i : ℕ) → test i ≡ true → i < n →
    (p : ℕ) × (slice_get (numbers_below n test) p ≡ Some i)
unfolding numbers_below
number_listed test zero i is below = absurd (omega arith)
number_listed test (suc n) i is below = elim (cases_lt i n) [
  | inl before ↦
      let rest = number_listed test n i is before in
      (rest.0, get_before (numbers_below n test) (if test n then n ∷ [] else []) rest.0 i rest.1)
  | inr past ↦
      let same : n ≡ i = omega arith in
      let passes : test n ≡ true = ap test same ∙ is in
      (length (numbers_below n test), rw passes (get_last (numbers_below n test) n ∙ ap Some same))
]

-- ---- marks

marked_within : (marks : List Bool) (k : ℕ) → is_marked marks k ≡ true → k < length marks
marked_within marks k e = elim (cases_lt k (length marks)) [
  | inl below ↦ below
  | inr past ↦ absurd (false≢true (sym (get_or_past marks k false past) ∙ e))
]

set_only : (marks : List Bool) (k i : ℕ) → is_marked (slice_set marks k true) i ≡ true →
    (i ≡ k) ⊎ (is_marked marks i ≡ true)
set_only marks k i e = elim (cases_eq i k) [
  | inl same ↦ inl same
  | inr other ↦ inr (sym (get_or-set_other marks k i true false other) ∙ e)
]

set_kept : (marks : List Bool) (k i : ℕ) → is_marked marks i ≡ true → is_marked (slice_set marks k true) i ≡ true
set_kept marks k i e = elim (cases_eq i k) [
  | inl same ↦ subst (λ (j : ℕ). is_marked (slice_set marks k true) j ≡ true) (sym same)
      (get_or-set_same marks k true false (omega (arith, marked_within marks i e, same)))
  | inr other ↦ get_or-set_other marks k i true false other ∙ e
]

fewer : (marks : List Bool) (k : ℕ) → k < length marks → is_marked marks k ≡ false →
    unmarked (slice_set marks k true) + 1 ≡ unmarked marks
fewer [] k below e = absurd (omega arith)
fewer (true ∷ marks) zero below e = absurd (false≢true (sym e))
fewer (false ∷ marks) zero below e = refl
fewer (true ∷ marks) (suc k) below e = fewer marks k (omega arith) e
fewer (false ∷ marks) (suc k) below e = omega (arith, fewer marks k (omega arith) e)

none_marked : (n : ℕ) → unmarked (replicate n false) ≡ n
none_marked zero = refl
none_marked (suc n) = omega (arith, none_marked n)

none_in : (n k : ℕ) → is_marked (replicate n false) k ≡ false
none_in n k = elim (cases_lt k n) [
  | inl below ↦ get_or-replicate n k false false below
  | inr past ↦ get_or_past (replicate n false) k false (omega (arith, length-replicate n false))
]

-- ---- what is found

module _ (code : List Placed) (to : ℕ) where
  pub first_found : to < length code →
      AreFound code to 0 (slice_set (replicate (length code) false) to true) (to ∷ [])
  unfolding comes_to
  first_found within =
      let marks : List Bool = replicate (length code) false in
      let long : length marks ≡ length code = length-replicate (length code) false in
      let none = none_in (length code) in
      let below : to < length marks = omega (arith, long, within) in
      let here = get_or-set_same marks to true false below in
      record {
        long = length-set marks to true ∙ long;
        count = omega (arith, fewer marks to below (none to), none_marked (length code));
        within = omega arith;
        start = here;
        sound = λ p k e. elim (get_split [] to p k e) [
          | inl old ↦ absurd (none-some k old)
          | inr new ↦ subst (λ (n : ℕ). comes_to code to n k ≡ true) (sym new.1) (eq-eqb k to new.0)
        ];
        known = λ p k e. elim (get_split [] to p k e) [
          | inl old ↦ absurd (none-some k old)
          | inr new ↦ subst (λ (j : ℕ). is_marked (slice_set marks to true) j ≡ true) (sym new.0) here
        ];
        listed = λ k e. elim (set_only marks to k e) [
          | inl same ↦ (0, ap Some (sym same))
          | inr old ↦ absurd (both_ways _ (none k) old)
        ];
        before = λ p j k early at leads. absurd (omega arith);
      }

  -- what another instruction that is found leaves
  pub record Grown (done k : ℕ) (marks : List Bool) (found : List ℕ) (more : List Bool) (longer : List ℕ) : Type 0 where
    pub are : AreFound code to done more longer
    pub here : is_marked more k ≡ true
    pub kept : (i : ℕ) → is_marked marks i ≡ true → is_marked more i ≡ true
    pub list : (p i : ℕ) → slice_get found p ≡ Some i → slice_get longer p ≡ Some i

  module _ (done k : ℕ) (marks : List Bool) (found : List ℕ) (are : AreFound code to done marks found)
      (next : done < length found) (within : k < length code) (comes : comes_to code to (done + 1) k ≡ true) where
    new_found : is_marked marks k ≡ false → Grown done k marks found (slice_set marks k true) (found ++ k ∷ [])
    new_found e =
        let below : k < length marks = omega (arith, are.long, within) in
        let here = get_or-set_same marks k true false below in
        record {
          are = record {
            long = length-set marks k true ∙ are.long;
            count = omega (arith, fewer marks k below e, are.count, length-append found (k ∷ []));
            within = omega (arith, are.within, length-append found (k ∷ []));
            start = set_kept marks k to are.start;
            sound = λ p i e. elim (get_split found k p i e) [
              | inl old ↦ are.sound p i old
              | inr new ↦ subst (λ (j : ℕ). comes_to code to p j ≡ true) (sym new.0)
                  (comes_within code to p (done + 1) k (omega (arith, new.1, next)) comes)
            ];
            known = λ p i e. elim (get_split found k p i e) [
              | inl old ↦ set_kept marks k i (are.known p i old)
              | inr new ↦ subst (λ (j : ℕ). is_marked (slice_set marks k true) j ≡ true) (sym new.0) here
            ];
            listed = λ i e. elim (set_only marks k i e) [
              | inl same ↦ (length found, get_last found k ∙ ap Some (sym same))
              | inr old ↦
                  let before = are.listed i old in
                  (before.0, get_before found (k ∷ []) before.0 i before.1)
            ];
            before = λ p j i early at leads. set_kept marks k i
                (are.before p j i early (get_was found (k ∷ []) p j (omega (arith, early, next)) at) leads);
          };
          here = here;
          kept = λ i e. set_kept marks k i e;
          list = λ p i e. get_before found (k ∷ []) p i e;
        }

    pub grown : (more : List Bool) (longer : List ℕ) → more ≡ marked_too marks k → longer ≡ listed_too marks found k →
        Grown done k marks found more longer
    grown more longer is list = elim (cases_Bool (is_marked marks k)) [
      | inl e ↦ rw (is, list, e) (record { are = are; here = e; kept = λ i h. h; list = λ p i h. h })
      | inr e ↦ rw (is, list, e) (new_found e)
    ]

  -- all that leads to the next of the list is marked
  one_done : (at j : ℕ) (marks : List Bool) (found : List ℕ) → AreFound code to at marks found →
      slice_get found at ≡ Some j → ((k : ℕ) → Leads code j k → is_marked marks k ≡ true) →
      AreFound code to (at + 1) marks found
  one_done at j marks found are is all =
      record {
        long = are.long;
        count = are.count;
        within = omega (arith, slice_get_within found at j is);
        start = are.start;
        sound = are.sound;
        known = are.known;
        listed = are.listed;
        before = λ p i k early here leads. elim (cases_lt p at) [
          | inl before ↦ are.before p i k before here leads
          | inr past ↦
              let same : at ≡ p = omega arith in
              let one : i ≡ j = same_Some i j (sym here ∙ (ap (slice_get found) (sym same) ∙ is)) in
              all k (subst (λ (t : ℕ). Leads code t k) one leads)
        ];
      }

  module _ (at j : ℕ) (marks : List Bool) (found : List ℕ) where
    pub none_yet : AreFound code to at marks found → slice_get found at ≡ Some j →
        AreJumpsFound code to at j 0 marks found
    none_yet are is =
        record {
          are = are;
          next = is;
          within = omega (arith, marked_within marks j (are.known at j is), are.long);
          from = λ p k below. absurd (omega arith);
        }

    pub source_within : (count : ℕ) (sources : List ℕ) → AreJumpsFound code to at j count marks found →
        sources ≡ sources_of code j → count < length sources → get_or sources count 0 < length marks
    source_within count sources some is below =
        let here = slice_get-get_or sources count 0 below in
        let source = number_passes (jumps_to code j) (length code) count (get_or sources count 0)
        (ap (λ (xs : List ℕ). slice_get xs count) (sym is) ∙ here) in
        omega (arith, source.1, some.are.long)

    pub one_source : (count : ℕ) (sources : List ℕ) (more : List Bool) (longer : List ℕ) →
        AreJumpsFound code to at j count marks found → sources ≡ sources_of code j → count < length sources →
        more ≡ marked_too marks (get_or sources count 0) → longer ≡ listed_too marks found (get_or sources count 0) →
        AreJumpsFound code to at j (count + 1) more longer
    one_source count sources more longer some is below marked listed =
        let k = get_or sources count 0 in
        let here : slice_get (sources_of code j) count ≡ Some k =
        ap (λ (xs : List ℕ). slice_get xs count) (sym is) ∙ slice_get-get_or sources count 0 below in
        let source = number_passes (jumps_to code j) (length code) count k here in
        let passes = some.are.sound at j some.next in
        let comes = comes_next code to at k (record { to = j; passes = passes; leads = inr source.0 }) in
        let next = slice_get_within found at j some.next in
        let all = grown at k marks found some.are next source.1 comes more longer marked listed in
        record {
          are = all.are;
          next = all.list at j some.next;
          within = some.within;
          from = λ p i early e. elim (cases_lt p count) [
            | inl before ↦ all.kept i (some.from p i before e)
            | inr past ↦
                let same : count ≡ p = omega arith in
                let one : k ≡ i = same_Some k i (sym here ∙ (ap (slice_get (sources_of code j)) same ∙ e)) in
                subst (λ (x : ℕ). is_marked more x ≡ true) one all.here
          ];
        }

    -- the instruction before it, if it follows on that
    module _ (some : AreJumpsFound code to at j (length (sources_of code j)) marks found) where
      jump_found : (k : ℕ) → jumps_to code j k ≡ true → is_marked marks k ≡ true
      jump_found k e =
          let place = number_listed (jumps_to code j) (length code) k e (jumps_within code j k e) in
          some.from place.0 k (slice_get_within (sources_of code j) place.0 k place.1) place.1

      pub no_fall : ((k : ℕ) → j ≡ k + 1 → follows (slice_get code k) ≡ false) →
          AreFound code to (at + 1) marks found
      no_fall none =
          one_done at j marks found some.are some.next (λ k leads. elim leads [
            | inl falls ↦ absurd (both_ways _ (none k falls.1) falls.0)
            | inr jumps ↦ jump_found k jumps
          ])

      pub one_fall : (k : ℕ) (more : List Bool) (longer : List ℕ) → j ≡ k + 1 →
          follows (slice_get code k) ≡ true → more ≡ marked_too marks k → longer ≡ listed_too marks found k →
          AreFound code to (at + 1) more longer
      one_fall k more longer is falls marked listed =
          let passes = some.are.sound at j some.next in
          let comes = comes_next code to at k (record { to = j; passes = passes; leads = inl (falls, is) }) in
          let next = slice_get_within found at j some.next in
          let within : k < length code = omega (arith, some.within, is) in
          let all = grown at k marks found some.are next within comes more longer marked listed in
          one_done at j more longer all.are (all.list at j some.next) (λ i leads. elim leads [
            | inl other ↦
                let same : k ≡ i = omega (arith, is, other.1) in
                subst (λ (x : ℕ). is_marked more x ≡ true) same all.here
            | inr jumps ↦ all.kept i (jump_found i jumps)
          ])

  -- where all of the list are done, the marked ones are those that come to the instruction
  module _ (at : ℕ) (marks : List Bool) (found : List ℕ) (are : AreFound code to at marks found)
      (all : length found ≤ at) where
    complete : (steps k : ℕ) → comes_to code to steps k ≡ true → is_marked marks k ≡ true
    unfolding comes_to
    complete zero k e = subst (λ (j : ℕ). is_marked marks j ≡ true) (sym (eqb-true _ _ e)) are.start
    complete (suc steps) k e = elim (or_cases _ _ e) [
      | inl before ↦ complete steps k before
      | inr leads ↦ by_step (step_from code (comes_to code to steps) k leads)
          (λ j passes. are.listed j (complete steps j passes))
    ]
      where
        by_step : (step : Step code (comes_to code to steps) k) →
            ((j : ℕ) → comes_to code to steps j ≡ true → (p : ℕ) × (slice_get found p ≡ Some j)) →
            is_marked marks k ≡ true
        by_step step place =
            let here = place step.to step.passes in
            are.before here.0 step.to k (omega (arith, slice_get_within found here.0 step.to here.1, all)) here.1
            step.leads

    pub all_found : (k : ℕ) → is_marked marks k ≡ comes_to code to (length code) k
    all_found k = elim (cases_Bool (is_marked marks k)) [
      | inl e ↦
          let place = are.listed k e in
          let early : place.0 ≤ length code = omega (arith, slice_get_within found place.0 k place.1, are.count) in
          e ∙ sym (comes_within code to (length code) place.0 k early (are.sound place.0 k place.1))
      | inr e ↦ elim (cases_Bool (comes_to code to (length code) k)) [
        | inl comes ↦ absurd (both_ways _ e (complete (length code) k comes))
        | inr none ↦ e ∙ sym none
      ]
    ]
