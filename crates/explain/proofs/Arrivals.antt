-- The first edge that leads to an instruction, among those of the jumps to it and that of the instruction before it.
use Rattle.std.proofs.Common.{◌≡◌, ℕ, zero, suc, ◌+◌, ◌-◌, ◌<◌, ◌≤◌, ℤ, pos, negsuc, Bool, true, false, ◌==◌, ◌&&◌}
use Rattle.std.proofs.Common.{nat_lt, if◌then◌else◌, List, [], ◌∷◌, length, Option, Some, None, is_none, find}
use Rattle.std.proofs.Common.{slice_get, refl, sym, ap, ◌∙◌, arith, inl, inr, int_lt}
use Rattle.std.specs.Option.{option_or}
use Rattle.std.proofs.lemmas.Bool.{cases_lt, lt-ltb, le-ltb, ne_eqb, and_right}
use Rattle.std.proofs.lemmas.{Int.ints, List.Folds.find-append}
use Rattle.std.proofs.lemmas.Option.{slice_get_past}
use Rattle.machine_spec.specs.{declared.helper.Table.Table, declared.instruction.Placed.Placed, Image.helpers_of}
use Rattle.machine_spec.specs.{Image.target_of, Image.number_at}
use Rattle.verifier_spec.specs.declared.{state.Abs.Abs, state.Abstract.Abstract}
use Rattle.verifier_spec.specs.{Annotation.Claims, Annotation.claim_at, Checks.failed_check}
use Rattle.verifier_spec.specs.{Checks.jump_of}
use Rattle.explain.specs.{Reasons.first_below, Graphs.numbers_below, Graphs.sources_of, Loops.is_there}
use Rattle.explain.specs.Graphs as graphs
use Rattle.explain.specs.Meetings.{arrival, kind_passed, kind_from, is_number_of, passes}

-- ---- the first that passes a test

-- a search of the numbers that pass one test for one that passes another finds the first that passes both
find_below : (source test : ℕ → Bool) (n : ℕ) →
    find test (numbers_below n source) ≡ first_below n (λ k. source k && test k)
unfolding first_below numbers_below
find_below source test zero = refl
find_below source test (suc n) =
    find-append test (numbers_below n source) (if source n then n ∷ [] else [])
    ∙ (ap (λ (o : Option ℕ). option_or o (find test (if source n then n ∷ [] else []))) (find_below source test n)
    ∙ ap (option_or (first_below n (λ k. source k && test k))) (one (source n)))
  where
    one : (b : Bool) → find test (if b then n ∷ [] else []) ≡ (if b && test n then Some n else None)
    one true = refl
    one false = refl

same_below : (f g : ℕ → Bool) (n : ℕ) → ((k : ℕ) → k < n → f k ≡ g k) → first_below n f ≡ first_below n g
unfolding first_below
same_below f g zero same = refl
same_below f g (suc n) same =
    rw (same n (omega arith)) (ap (λ (o : Option ℕ). option_or o (if g n then Some n else None))
    (same_below f g n (λ k below. same k (omega arith))))

-- what no number from one on passes
none_from : (test : ℕ → Bool) (j n : ℕ) → j ≤ n → ((k : ℕ) → j ≤ k → test k ≡ false) →
    first_below n test ≡ first_below j test
unfolding first_below
none_from test j zero few fail = let none : j ≡ 0 = omega arith in ap (λ (k : ℕ). first_below k test) (sym none)
none_from test j (suc n) few fail = elim (cases_lt j (suc n)) [
  | inl below ↦
      let before : first_below n test ≡ first_below j test = none_from test j n (omega arith) fail in
      let fails : test n ≡ false = fail n (omega arith) in
      rw (fails, before) (or_none (first_below j test))
  | inr past ↦ let same : j ≡ suc n = omega arith in ap (λ (k : ℕ). first_below k test) (sym same)
]
  where
    or_none : (o : Option ℕ) → option_or o None ≡ o
    or_none (Some k) = refl
    or_none None = refl

-- ---- among the numbers that pass another test, and the one before a number

module _ (source test : ℕ → Bool) (n : ℕ) (past : (k : ℕ) → n ≤ k → test k ≡ false) where
  last_again : (o : Option ℕ) (m : ℕ) (b c : Bool) →
      option_or (option_or o (if b && c then Some m else None)) (if c then Some m else None)
      ≡ option_or o (if c then Some m else None)
  last_again (Some k) m b c = refl
  last_again None m true true = refl
  last_again None m true false = refl
  last_again None m false c = refl

  abbrev both : ℕ → ℕ → Bool
  both j k = source k && (nat_lt k j && test k)

  up_to : (j : ℕ) → first_below n (both j) ≡ first_below j (both j)
  up_to j = elim (cases_lt j n) [
    | inl below ↦ none_from (both j) j n (omega arith)
        (λ k from. rw (le-ltb k j from) (and_right (source k) false refl))
    | inr few ↦ sym (none_from (both j) n j few
        (λ k from. rw (past k from) (and_right _ _ (and_right _ _ refl))))
  ]

  pub first_edge : (j : ℕ) → ((k : ℕ) → (k + 1 == j) ≡ false → source k ≡ false → test k ≡ false) →
      option_or (find (λ k. nat_lt k j && test k) (numbers_below n source))
      (if nat_lt 0 j && test (j - 1) then Some (j - 1) else None)
      ≡ first_below j test
  unfolding first_below
  first_edge j only =
      ap (λ (o : Option ℕ). option_or o (if nat_lt 0 j && test (j - 1) then Some (j - 1) else None))
      (find_below source (λ k. nat_lt k j && test k) n ∙ up_to j) ∙ from j only
    where
      same : (m k : ℕ) → ((k + 1 == suc m) ≡ false → source k ≡ false → test k ≡ false) → k < m →
          both (suc m) k ≡ test k
      same m k only below =
          rw (lt-ltb k (suc m) (omega arith))
          (by_source (source k) (test k) (only (ne_eqb (k + 1) (suc m) (λ e. omega arith))))
        where
          by_source : (s t : Bool) → (s ≡ false → t ≡ false) → (s && t) ≡ t
          by_source true t only = refl
          by_source false t only = sym (only refl)

      from : (j : ℕ) → ((k : ℕ) → (k + 1 == j) ≡ false → source k ≡ false → test k ≡ false) →
          option_or (first_below j (both j)) (if nat_lt 0 j && test (j - 1) then Some (j - 1) else None)
          ≡ first_below j test
      from zero only = refl
      from (suc m) only =
          let less : suc m - 1 ≡ m = omega arith in
          rw (
            less,
            lt-ltb 0 (suc m) (omega arith),
            lt-ltb m (suc m) (omega arith),
            same_below (both (suc m)) test m (λ k below. same m k (only k) below),
          )
          (last_again (first_below m test) m (source m) (test m))

-- ---- edges

forward : (code : List Placed) (j slot : ℕ) (jump : Option ℤ) →
    is_there (λ t. t == j) (graphs.jump_number code slot jump) ≡ false →
    is_number_of (target_of code slot jump) j ≡ false
forward code j slot None e = refl
forward code j slot (Some (pos distance)) e =
    let ahead : int_lt (pos (slot + 1 + distance)) (pos 0) ≡ false = grind (arith, ints) in
    same (number_at code (slot + 1 + distance))
    (ap (λ (b : Bool). is_there (λ t. t == j) (if b then None else number_at code (slot + 1 + distance))) (sym ahead)
    ∙ e)
  where
    same : (o : Option ℕ) → is_there (λ t. t == j) o ≡ false → is_number_of o j ≡ false
    same (Some k) e = e
    same None e = refl
forward code j slot (Some (negsuc _)) e = refl

module _ (table : Table) (code : List Placed) (claims : Claims) (r : ℕ) where
  no_edge : (j k : ℕ) → (k + 1 == j) ≡ false → graphs.jumps_to code j k ≡ false → arrival table code claims r j k ≡ None
  unfolding arrival
  no_edge j k next jumps = from (slice_get code k) (claim_at claims k) jumps
    where
      none : (b : Bool) (o : Option Abs) → o ≡ None → (if b then o else None) ≡ None
      none true o e = e
      none false o e = refl

      from : (placed : Option Placed) (s : Option Abstract) →
          is_there (λ t. t == j) (graphs.jump_from code placed) ≡ false → kind_passed table code r j k placed s ≡ None
      from (Some placed) (Some s) e =
          none (is_none (failed_check (helpers_of table) placed.instruction s)) (kind_from code r j k placed s)
          (rw (next, forward code j placed.slot (jump_of placed.instruction) e) refl)
      from (Some placed) None e = refl
      from None s e = refl

  no_code : (j k : ℕ) → length code ≤ k → arrival table code claims r j k ≡ None
  unfolding arrival
  no_code j k past = rw (slice_get_past code k past) refl

  none_passes : (other : Option Abs) (j k : ℕ) → arrival table code claims r j k ≡ None →
      passes table code claims r other j k ≡ false
  none_passes None j k none = rw none refl
  none_passes (Some kind) j k none = rw none refl

  -- What is found among the jumps to an instruction is the first that passes; else that may be the one before it.
  module _ (other : Option Abs) (j : ℕ) where
    before : Option ℕ
    before = if nat_lt 0 j && passes table code claims r other j (j - 1) then Some (j - 1) else None

    by_jumps : (o : Option ℕ) →
        find (λ k. nat_lt k j && passes table code claims r other j k) (sources_of code j) ≡ o →
        first_below j (passes table code claims r other j) ≡ option_or o before
    unfolding before
    by_jumps o is =
        sym (first_edge (graphs.jumps_to code j) (passes table code claims r other j) (length code)
        (λ k past. none_passes other j k (no_code j k past)) j
        (λ k next jumps. none_passes other j k (no_edge j k next jumps)))
        ∙ ap (λ (found : Option ℕ). option_or found before) is

    pub among_jumps : (k : ℕ) →
        find (λ k. nat_lt k j && passes table code claims r other j k) (sources_of code j) ≡ Some k →
        first_below j (passes table code claims r other j) ≡ Some k
    among_jumps k is = by_jumps (Some k) is

    pub after_jumps : find (λ k. nat_lt k j && passes table code claims r other j k) (sources_of code j) ≡ None →
        first_below j (passes table code claims r other j)
        ≡ (if nat_lt 0 j && passes table code claims r other j (j - 1) then Some (j - 1) else None)
    unfolding before
    after_jumps is = by_jumps None is
