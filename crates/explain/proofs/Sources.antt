-- The instructions whose jumps lead to each one, one instruction after another.
use Rattle.std.proofs.Common.{◌≡◌, ◌≢◌, ℕ, zero, suc, ◌+◌, ◌<◌, ◌≤◌, Bool, true, false, List, [], ◌∷◌, ◌++◌}
use Rattle.std.proofs.Common.{Some, None, if◌then◌else◌, length, get_or, slice_get, slice_set, refl, sym, ap}
use Rattle.std.proofs.Common.{subst, ◌∙◌, add-one, arith, inl, inr, Vec}
use Rattle.std.specs.declared.alloc.Global.{Global}
use Rattle.std.proofs.lemmas.Bool.{cases_eq, eq-eqb, ne_eqb}
use Rattle.std.proofs.lemmas.List.{append-nil, length-set}
use Rattle.machine_spec.specs.declared.instruction.Placed.{Placed}
use Rattle.explain.specs.Graphs.{jump_from, jumps_to, numbers_below, sources_of, list_at, AreSources}

-- one more empty list
pub empty_more : (lists : List (Vec ℕ Global)) (new : Vec ℕ Global) (j : ℕ) → new.items ≡ [] →
    ((i : ℕ) → list_at lists i ≡ []) → list_at (lists ++ new ∷ []) j ≡ []
empty_more [] new zero none empty = none
empty_more [] new (suc j) none empty = refl
empty_more (first ∷ lists) new zero none empty = empty 0
empty_more (first ∷ lists) new (suc j) none empty = empty_more lists new j none (λ i. empty (suc i))

-- what a list of lists has where one is put in place of another, and elsewhere
set_here : (lists : List (Vec ℕ Global)) (j : ℕ) (new : Vec ℕ Global) → j < length lists →
    list_at (slice_set lists j new) j ≡ new.items
set_here [] j new within = absurd (omega arith)
set_here (first ∷ lists) zero new within = refl
set_here (first ∷ lists) (suc j) new within = set_here lists j new (omega arith)

set_apart : (lists : List (Vec ℕ Global)) (j i : ℕ) (new : Vec ℕ Global) → i ≢ j →
    list_at (slice_set lists j new) i ≡ list_at lists i
set_apart [] j i new apart = refl
set_apart (first ∷ lists) zero zero new apart = absurd (apart refl)
set_apart (first ∷ lists) zero (suc i) new apart = refl
set_apart (first ∷ lists) (suc j) zero new apart = refl
set_apart (first ∷ lists) (suc j) (suc i) new apart = set_apart lists j i new (λ e. apart (ap suc e))

get_here : (lists : List (Vec ℕ Global)) (j : ℕ) (other : Vec ℕ Global) → j < length lists →
    list_at lists j ≡ (get_or lists j other).items
get_here [] j other within = absurd (omega arith)
get_here (first ∷ lists) zero other within = refl
get_here (first ∷ lists) (suc j) other within = get_here lists j other (omega arith)

-- ---- numbers that pass a test

pub none_below : (test : ℕ → Bool) → numbers_below 0 test ≡ []
unfolding numbers_below
none_below test = refl

next_below : (test : ℕ → Bool) (n : ℕ) (b : Bool) → test n ≡ b →
    numbers_below (n + 1) test ≡ numbers_below n test ++ (if b then n ∷ [] else [])
unfolding numbers_below
next_below test n b e = rw (add-one, e)

module _ (code : List Placed) (k : ℕ) (lists : List (Vec ℕ Global)) (are : AreSources code k lists) where
  -- an instruction more whose jump leads nowhere
  pub no_jump : jump_from code (slice_get code k) ≡ None → AreSources code (k + 1) lists
  no_jump at =
      record {
        long = are.long;
        are = λ j. are.are j ∙ sym (next_below (jumps_to code j) k false (rw at) ∙ append-nil _);
      }

  -- one whose jump leads to an instruction, which is added to the list of that one
  module _ (t : ℕ) (other new : Vec ℕ Global) (at : jump_from code (slice_get code k) ≡ Some t)
      (within : t < length code) (items : new.items ≡ (get_or lists t other).items ++ k ∷ []) where
    pub one_jump : AreSources code (k + 1) (slice_set lists t new)
    one_jump =
        record {
          long = length-set lists t new ∙ are.long;
          are = λ j. elim (cases_eq j t) [
            | inl same ↦
                let here : t < length lists = omega (arith, are.long, within) in
                subst (λ (i : ℕ). list_at (slice_set lists t new) i ≡ numbers_below (k + 1) (jumps_to code i))
                (sym same) (set_here lists t new here
                ∙ (items ∙ (ap (λ (xs : List ℕ). xs ++ k ∷ []) (sym (get_here lists t other here) ∙ are.are t)
                ∙ sym (next_below (jumps_to code t) k true (rw at (eq-eqb t t refl))))))
            | inr apart ↦
                set_apart lists t j new apart
                ∙ (are.are j ∙ sym (next_below (jumps_to code j) k false (rw at (ne_eqb t j (λ e. apart (sym e))))
                ∙ append-nil _))
          ];
        }

pub at_start : (code : List Placed) (lists : List (Vec ℕ Global)) → length lists ≡ length code →
    ((j : ℕ) → list_at lists j ≡ []) → AreSources code 0 lists
at_start code lists long empty =
    record { long = long; are = λ j. empty j ∙ sym (none_below (jumps_to code j)) }

-- ---- reading

past_lists : (lists : List (Vec ℕ Global)) (j : ℕ) → length lists ≤ j → list_at lists j ≡ []
past_lists [] j past = refl
past_lists (first ∷ lists) zero past = absurd (omega arith)
past_lists (first ∷ lists) (suc j) past = past_lists lists j (omega arith)

module _ (code : List Placed) (lists : List (Vec ℕ Global)) (are : AreSources code (length code) lists) (j : ℕ) where
  pub listed : (list : Vec ℕ Global) → j < length lists → list ≡ get_or lists j list → list.items ≡ sources_of code j
  listed list within is = ap (λ (v : Vec ℕ Global). v.items) is ∙ (sym (get_here lists j list within) ∙ are.are j)

  pub none_listed : length lists ≤ j → [] ≡ sources_of code j
  none_listed past = sym (past_lists lists j past) ∙ are.are j
