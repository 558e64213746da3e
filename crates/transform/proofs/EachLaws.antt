-- One output partition after the other.
use Rattle.std.proofs.Common.{◌≡◌, ℕ, ◌+◌, ◌<◌, ◌≤◌, List, [], length, Some, slice_get, refl, sym, subst, ◌∙◌, ⊎_elim}
use Rattle.std.proofs.Common.{arith}
use Rattle.std.proofs.{lemmas.Bool.cases_lt, lemmas.Option.get_or_from_slice_get}
use Rattle.log_spec.specs.declared.row.Row.{Row}
use Rattle.item_rows.specs.ItemRows.{rows_in}
use Rattle.transform.specs.Outlets.{Outflow}
use Rattle.transform.specs.Transforms.{output_at, InEach, InOne, Stays}

-- something holds of each of the first output partitions, and the others stay
pub record InFirst (n : ℕ) (old new : List Outflow) (Holds : ℕ → Outflow → Outflow → Type 0) : Type 0 where
  pub count : length new ≡ length old
  pub done : (q : ℕ) → q < length old → q < n → Holds q (output_at old q) (output_at new q)
  pub left : (q : ℕ) → q < length old → n ≤ q → output_at new q ≡ output_at old q

module _ (Holds : ℕ → Outflow → Outflow → Type 0) where
  pub first_none : (old : List Outflow) → InFirst 0 old old Holds
  first_none old = record { count = refl; done = λ q lt below. absurd (omega arith); left = λ q lt le. refl }

  pub first_more : (n : ℕ) (old mid new : List Outflow) (Here : Outflow → Outflow → Type 0) → InFirst n old mid Holds →
      InOne mid new n Here (λ other. Stays) → ((x y : Outflow) → Here x y → Holds n x y) →
      InFirst (n + 1) old new Holds
  first_more n old mid new Here first one so = record {
    count = one.count ∙ first.count;
    done = λ q lt below. ⊎_elim (λ before. earlier q lt before) (λ le. now q lt (omega arith)) (cases_lt q n);
    left = λ q lt le.
        one.others q (omega (arith, first.count)) (λ e. omega (arith, e, le)) ∙ first.left q lt (omega arith);
  }
    where
      earlier : (q : ℕ) → q < length old → q < n → Holds q (output_at old q) (output_at new q)
      earlier q lt before =
          subst (Holds q (output_at old q)) (sym (one.others q (omega (arith, first.count))
          (λ e. omega (arith, e, before))))
          (first.done q lt before)

      now : (q : ℕ) → q < length old → q ≡ n → Holds q (output_at old q) (output_at new q)
      now q lt is =
          let same : output_at mid n ≡ output_at old n = first.left n (omega (arith, is, lt)) (omega arith) in
          subst (λ (k : ℕ). Holds k (output_at old k) (output_at new k)) (sym is)
          (subst (λ (x : Outflow). Holds n x (output_at new n)) same (so (output_at mid n) (output_at new n) one.here))

  pub first_all : (n : ℕ) (old new : List Outflow) → InFirst n old new Holds → length old ≤ n → InEach old new Holds
  first_all n old new first all =
      record { count = first.count; each = λ q lt. first.done q lt (omega (arith, lt, all)) }

  pub first_stops : (n : ℕ) (old mid new : List Outflow) (Here : Outflow → Outflow → Type 0)
      (Partly : ℕ → Outflow → Outflow → Type 0) → InFirst n old mid Holds → InOne mid new n Here (λ other. Stays) →
      ((q : ℕ) (x y : Outflow) → Holds q x y → Partly q x y) → ((q : ℕ) (x : Outflow) → Partly q x x) →
      InOne old new n Here Partly
  first_stops n old mid new Here Partly first one less none = record {
    count = one.count ∙ first.count;
    within = omega (arith, one.within, first.count);
    here = subst (λ (x : Outflow). Here x (output_at new n))
        (first.left n (omega (arith, one.within, first.count)) (omega arith)) one.here;
    others = λ q lt not.
        let stays : output_at new q ≡ output_at mid q = one.others q (omega (arith, first.count, lt)) not in
        subst (Partly q (output_at old q)) (sym stays)
        (⊎_elim (λ before. less q (output_at old q) (output_at mid q) (first.done q lt before))
        (λ le. subst (Partly q (output_at old q)) (sym (first.left q lt le)) (none q (output_at old q)))
        (cases_lt q n));
  }

-- the rows of an output partition
pub rows_at : (n : ℕ) (all : List (List Row)) (rows : List Row) → slice_get all n ≡ Some rows → rows ≡ rows_in all n
rows_at n all rows at = sym (get_or_from_slice_get all n rows [] at)
