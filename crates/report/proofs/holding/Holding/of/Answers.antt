use Rattle.std.proofs.Common.{◌≡◌, ℕ, List, length, rules, sym, subst, ◌∙◌}
use Rattle.std.specs.Arc.{arc_value}
use Rattle.log_spec.specs.{declared.row.Row.Row, Logs.IsRowsOf}
use Rattle.part_log.specs.Parts.{Log}
use Rattle.fates.specs.Totals.{Totals, AreCountsOf}
use Rattle.out_book.specs.Books.{rows_from}
use Rattle.report.specs.Holdings.{held, IsHeld}
use Rattle.report.proofs.CountLaws.{counted_again}
use Rattle.report.proofs.holding.Holding.of.Goals as goal

pub invariant_of-result : goal.invariant_of-result
invariant_of-result g c =
    let outputs = g.Id.Names.outputs in let book = c.args.book.now in let i = c.args.input in let q =
    c.output.result in let t : Log = c.trail.result.now in let rows : List Row = c.in_ok-rows.rows.items in
    let rows_are : rows ≡ rows_from i book.rows = c.in_ok-rows.ensures ∙ c.rows_from.ensures in
    let of_rows : IsRowsOf i book.output outputs t.items (length t.items) rows =
    subst (λ (rs : List Row). IsRowsOf i book.output outputs t.items (length t.items) rs) (sym rows_are)
    c.trail.ensures.rows in
    let of_output : IsRowsOf i q outputs t.items (length t.items) rows =
    subst (λ (k : ℕ). IsRowsOf i k outputs t.items (length t.items) rows) (sym c.output.ensures.output) of_rows in
    let is_held : IsHeld outputs (held q t rows) =
    subst (λ (k : ℕ). IsRowsOf k q outputs t.items (length t.items) rows) (sym c.trail.ensures.partition) of_output in
    let many : AreCountsOf i outputs t.items (length t.items) c.add_all.new.self =
    counted_again i outputs t.items (length t.items) c.new-counts.result c.counts.result.now c.add_all.new.self
    c.new-counts.ensures.counts c.in_ok-add_all.ensures.counts (c.counts.ensures.are t c.trail.ensures.trail) in
    let kept : arc_value c.in_ok-counts.counts ≡ c.add_all.new.self = search rules in
    let shared : AreCountsOf i outputs t.items (length t.items) (arc_value c.in_ok-counts.counts) =
    subst (λ (n : Totals). AreCountsOf i outputs t.items (length t.items) n) (sym kept) many in
    let at : AreCountsOf t.partition outputs t.items (length t.items) (arc_value c.in_ok-counts.counts) =
    subst (λ (k : ℕ). AreCountsOf k outputs t.items (length t.items) (arc_value c.in_ok-counts.counts))
    (sym c.trail.ensures.partition) shared in (
      subst (λ (l : Log). IsHeld outputs (held q l rows)) (sym c.again.ensures) is_held,
      subst (λ (l : Log). AreCountsOf l.partition outputs l.items (length l.items) (arc_value c.in_ok-counts.counts))
          (sym c.again.ensures) at,
    )
