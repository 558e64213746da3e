use Rattle.std.proofs.Common.{option_map, sym, subst}
use Rattle.log_item.specs.Items.{item_view}
use Rattle.item_rows.specs.ItemRows.{ItemYield, AreRowsFrom}
use Rattle.item_rows.proofs.RowLaws.{one_output_is}
use Rattle.item_rows.proofs.item.output_rows.Goals as goal

pub returns-clause-rows : goal.returns-clause-rows
returns-clause-rows c =
    let output = c.args.output in let origin = c.args.origin.now in let program = option_map
    (λ p. p.now) c.args.program in
    let item = item_view c.args.item.now in
    one_output_is output origin program item c.in_ok-rows.rows.rows c.take.result.items
    (subst (λ (y : ItemYield). AreRowsFrom output 1 origin program item y.rows) (sym c.in_ok-rows.ensures)
    c.in_ok-made.ensures.1) c.take.ensures.rows
