use Rattle.std.proofs.Common.{List, length, ap, sym, subst, arith, ◌∙◌, option_map}
use Rattle.log_spec.specs.declared.row.Row.{Row}
use Rattle.log_item.specs.Items.{item_view}
use Rattle.fates.specs.Totals.{AreItemCounts}
use Rattle.item_rows.specs.ItemRows.{ItemYield, item_yield, AreRowsFrom, AreEmpty}
use Rattle.item_rows.proofs.RowLaws.{rows_are_from, whole}
use Rattle.item_rows.proofs.item.rows_from.Goals as goal

pub returns : goal.returns
returns c =
    let first = c.args.first in let count = c.args.count in let origin = c.args.origin.now in let program =
    option_map (λ p. p.now) c.args.program in let kept = item_view c.args.item.now in
    let new = c.push_item.new.all in let old = c.in_ok-all.all.items in let counts = c.in_ok-counts.counts in
    let a = c.as_mut_slice.ensures in let made = c.in_ok-counts.ensures in
    let none : AreEmpty count c.as_mut_slice.result.now =
    subst (λ (rs : List (List Row)). AreEmpty count rs) (sym a.value) c.in_ok-all.ensures in
    let are = rows_are_from first count origin program kept c.as_mut_slice.result.now new none made.1 in
    let written = whole c.in_ok-all.all.len new old (omega (arith, made.1.count, a.len))
    (omega (arith, ap length a.value, a.len)) in
    subst (λ (y : ItemYield). AreItemCounts origin.input origin.outputs program origin.offset kept y.counts
    × AreRowsFrom first count origin program kept y.rows)
    (sym (c.new.ensures ∙ ap (λ (rs : List (List Row)). item_yield rs counts) written)) (made.0, are)
