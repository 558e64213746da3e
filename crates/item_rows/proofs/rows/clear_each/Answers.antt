use Rattle.std.proofs.Common.{◌≡◌, ℕ, [], length, slice_set, subst, ◌∙◌, ⊎_elim, arith}
use Rattle.std.proofs.lemmas.{Bool.cases_lt}
use Rattle.std.proofs.lemmas.List.{length-set, get_or-set_same, get_or-set_other, get_or_past}
use Rattle.item_rows.specs.ItemRows.{rows_in}
use Rattle.item_rows.proofs.rows.clear_each.Goals as goal

pub loop-output-preserved : goal.loop-output-preserved
loop-output-preserved c =
    let all = c.loop-output.all in let output = c.loop-output.output in let none = c.clear.new.self in
    let inv = c.loop-output.invariant in (
      length-set all output none ∙ inv.0,
      λ k lt. ⊎_elim
          (λ before. get_or-set_other all output k none [] (λ e. omega (arith, e, before)) ∙ inv.1 k before)
          (λ le.
          let here : output ≡ k = omega (arith, le, lt) in
          subst (λ (j : ℕ). rows_in (slice_set all output none) j ≡ []) here
          (get_or-set_same all output none [] (omega (arith, c.loop-output-test.true)) ∙ c.clear.ensures))
          (cases_lt k output),
    )

pub returns : goal.returns
returns c =
    let all = c.loop-output.all in let inv = c.loop-output.invariant in record {
      count = inv.0;
      each = λ k. ⊎_elim (λ lt. inv.1 k (omega (arith, lt, c.loop-output-test.false))) (λ le. get_or_past all k [] le)
          (cases_lt k (length all));
    }
