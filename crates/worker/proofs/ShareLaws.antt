-- The rows of an item, taken for one output after the other.
use Rattle.std.proofs.Common.{◌≡◌, ℕ, ◌+◌, ◌<◌, ◌≤◌, List, [], ◌∷◌, ◌++◌, length, All, Some, slice_get, slice_set, refl}
use Rattle.std.proofs.Common.{sym, ap, subst, ◌∙◌, arith}
use Rattle.std.proofs.{lemmas.Option.get_or_from_slice_get, lemmas.List.length-append, lemmas.List.get_or-set_other}
use Rattle.log_spec.specs.{declared.row.Row.Row, Logs.IsRowsAt, Logs.RowFits}
use Rattle.part_log.specs.Parts.{Log}
use Rattle.fates.specs.Totals.{Totals}
use Rattle.item_rows.specs.ItemRows.{rows_in}
use Rattle.worker.specs.Walks.{last, AreRowsOfLast, AreCountsOfLast}
use Rattle.worker.specs.Processed.{OutputShare, output_share, IsOfLast, IsShare, AreInTurn}
use Rattle.log_spec.proofs.LogLaws.{pushed}

-- the rows of the first outputs are taken, and those of the others are left
pub record AreTaken (walk : Log) (all left : List (List Row)) (n : ℕ) (shares : List OutputShare) : Type 0 where
  pub count : length shares ≡ n
  pub kept : length left ≡ length all
  pub left_are : (output : ℕ) → n ≤ output → rows_in left output ≡ rows_in all output
  pub each : (output : ℕ) (share : OutputShare) → slice_get shares output ≡ Some share →
      IsShare walk output (rows_in all output) share

pub none_taken : (walk : Log) (all : List (List Row)) → AreTaken walk all all 0 []
none_taken walk all = record {
  count = refl;
  kept = refl;
  left_are = λ output le. refl;
  each = λ output share e. absurd cc;
}

pub one_more : (walk : Log) (all left after : List (List Row)) (n : ℕ) (shares : List OutputShare) (rows : List Row)
    (share : OutputShare) → AreTaken walk all left n shares → slice_get left n ≡ Some rows →
    after ≡ slice_set left n [] → length after ≡ length left → IsShare walk n rows share →
    AreTaken walk all after (n + 1) (shares ++ share ∷ [])
one_more walk all left after n shares rows share taken at set long is =
    let here : rows ≡ rows_in all n = sym (get_or_from_slice_get left n rows [] at) ∙ taken.left_are n (omega arith) in
    let whole : IsShare walk n (rows_in all n) share = subst (λ (rs : List Row). IsShare walk n rs share) here is in
    let end : 0 + length shares ≡ n = omega (arith, taken.count) in
    let start : (k : ℕ) → 0 + k ≡ k = λ k. omega arith in
    record {
      count = omega (arith, length-append shares (share ∷ []), taken.count);
      kept = long ∙ taken.kept;
      left_are = λ output le.
          ap (λ (rs : List (List Row)). rows_in rs output) set
          ∙ (get_or-set_other left n output [] [] (λ e. omega (arith, e)) ∙ taken.left_are output (omega arith));
      each = λ output s e.
          subst (λ k. IsShare walk k (rows_in all k) s) (start output)
          (pushed (λ k t. IsShare walk k (rows_in all k) t) shares 0 share
          (λ k t h. subst (λ m. IsShare walk m (rows_in all m) t) (sym (start k)) (taken.each k t h))
          (subst (λ k. IsShare walk k (rows_in all k) share) (sym end) whole) output s e);
    }

pub all_taken : (walk : Log) (all left : List (List Row)) (n : ℕ) (shares : List OutputShare) →
    AreTaken walk all left n shares → n ≡ length all → AreInTurn walk all shares
all_taken walk all left n shares taken whole = record {
  count = taken.count ∙ whole;
  each = taken.each;
}

-- the rows of one output and the counts are those of the last item
pub is_of_last : (outputs : ℕ) (walk : Log) (all left : List (List Row)) (n : ℕ) (shares : List OutputShare)
    (rows : List Row) (counts : Totals) → AreRowsOfLast outputs walk all → AreCountsOfLast outputs walk counts →
    AreTaken walk all left n shares → slice_get left n ≡ Some rows → n < length all →
    IsOfLast outputs (output_share walk n rows counts)
is_of_last outputs walk all left n shares rows counts are many taken at within =
    let lt : n < outputs = omega (arith, are.count) in
    let here : rows ≡ rows_in all n = sym (get_or_from_slice_get left n rows [] at) ∙ taken.left_are n (omega arith) in
    record {
      output = lt;
      rows_are = subst (λ (rs : List Row). IsRowsAt walk.partition n outputs walk.items (last walk.items) rs) (sym here)
          (are.each n lt);
      fit = subst (λ (rs : List Row). All RowFits rs) (sym here) (are.fit n lt);
      counts_are = many;
    }
