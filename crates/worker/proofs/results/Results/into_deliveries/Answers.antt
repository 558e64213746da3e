use Rattle.std.proofs.Common.{◌≡◌, ◌<◌, ◌+◌, [], List, length, sym, ap, subst, ◌∙◌, arith}
use Rattle.std.specs.Arc.{arc_value}
use Rattle.std.proofs.lemmas.List.{length-set}
use Rattle.log_spec.specs.declared.row.Row.{Row}
use Rattle.part_log.specs.Parts.{Log}
use Rattle.fates.specs.Totals.{Totals}
use Rattle.worker.specs.Walks.{AreRowsOfLast, AreCountsOfLast}
use Rattle.worker.specs.Processed.{Processed, OutputShare, output_share, IsOfLast, IsShare}
use Rattle.worker.proofs.ShareLaws.{AreTaken, none_taken, one_more, all_taken, is_of_last}
use Rattle.worker.proofs.results.Results.into_deliveries.Goals as goal

pub loop-output-init : goal.loop-output-init
loop-output-init g c =
    let walk = c.args.self.walk in let all = c.args.self.rows in (
      subst (λ (left : List (List Row)). AreTaken walk all left 0 c.in_ok-deliveries.deliveries.items)
          (sym (ap (λ (p : Processed). p.rows) c.self.view_is))
          (subst (λ (shares : List OutputShare). AreTaken walk all all 0 shares) (sym c.in_ok-deliveries.ensures.items)
          (none_taken walk all)),
      ap (λ (p : Processed). p.counts) c.self.view_is,
    )

pub take-rows-requires : goal.take-rows-requires
take-rows-requires g c =
    let count = c.outputs-outputs.ensures ∙ ap (λ (p : Processed). length p.rows) c.self.view_is in
    omega (arith, c.loop-output-test.true, count, c.loop-output.invariant.0.kept)

pub new-requires : goal.new-requires
new-requires g c =
    let walk = c.args.self.walk in let all = c.args.self.rows in let outputs = g.Id.Names.outputs in
    let count = c.outputs-outputs.ensures ∙ ap (λ (p : Processed). length p.rows) c.self.view_is in
    let within : c.loop-output.output < length all = omega (arith, c.loop-output-test.true, count) in
    let are = subst (λ (p : Processed). AreRowsOfLast outputs p.walk p.rows) c.self.view_is c.self.invariant.0 in
    let many = subst (λ (p : Processed). AreCountsOfLast outputs p.walk p.counts) c.self.view_is c.self.invariant.1 in
    let same = c.again.ensures ∙ ap (λ (p : Processed). p.walk) c.self.view_is in
    let counts : arc_value c.in_ok-counts.counts ≡ c.args.self.counts = c.in_ok-counts.ensures ∙ (c.counts.ensures
    ∙ c.loop-output.invariant.1) in
    subst (λ (w : Log). IsOfLast outputs (output_share w c.loop-output.output c.take-rows.result.items
    (arc_value c.in_ok-counts.counts))) (sym same)
    (subst (λ (t : Totals). IsOfLast outputs (output_share walk c.loop-output.output c.take-rows.result.items t))
    (sym counts)
    (is_of_last outputs walk all c.loop-output.left.rows c.loop-output.output c.loop-output.deliveries.items
    c.take-rows.result.items c.args.self.counts are many c.loop-output.invariant.0 c.take-rows.ensures.rows within))

pub loop-output-preserved : goal.loop-output-preserved
loop-output-preserved g c =
    let walk = c.args.self.walk in let all = c.args.self.rows in let n = c.loop-output.output in let rows =
    c.take-rows.result.items in
    let same = c.again.ensures ∙ ap (λ (p : Processed). p.walk) c.self.view_is in
    let share : IsShare walk n rows c.new.result = record {
      walk_is = ap (λ (s : OutputShare). s.walk) c.new.ensures ∙ same;
      output_is = ap (λ (s : OutputShare). s.output) c.new.ensures;
      rows_are = ap (λ (s : OutputShare). s.rows) c.new.ensures;
    } in
    let long = ap length c.take-rows.ensures.left ∙ length-set c.loop-output.left.rows n [] in (
      subst (λ (shares : List OutputShare). AreTaken walk all c.take-rows.new.self.rows (n + 1) shares)
          (sym c.in_ok-push.ensures.items)
          (one_more walk all c.loop-output.left.rows c.take-rows.new.self.rows n c.loop-output.deliveries.items rows
          c.new.result c.loop-output.invariant.0 c.take-rows.ensures.rows c.take-rows.ensures.left long share),
      c.take-rows.ensures.counts ∙ c.loop-output.invariant.1,
    )

pub returns : goal.returns
returns g c =
    let count = c.outputs-outputs.ensures ∙ ap (λ (p : Processed). length p.rows) c.self.view_is in
    let done = c.loop-output.invariant.0 in
    let whole : c.loop-output.output ≡ length c.args.self.rows =
    omega (arith, c.loop-output-test.false, count, c.loop-output.auto.output-end) in
    all_taken c.args.self.walk c.args.self.rows c.loop-output.left.rows c.loop-output.output
    c.loop-output.deliveries.items done whole
