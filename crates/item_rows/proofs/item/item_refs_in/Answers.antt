use Rattle.std.proofs.Common.{option_map}
use Rattle.log_item.specs.Items.{item_view}
use Rattle.fates.specs.Totals.{AreItemCounts}
use Rattle.item_rows.specs.ItemRows.{ItemYield, AreItemRows, AreRowsFrom}
use Rattle.item_rows.proofs.RowLaws.{item_rows_are, if_ok}
use Rattle.item_rows.proofs.item.item_refs_in.Goals as goal

pub returns-clause-rows : goal.returns-clause-rows
returns-clause-rows c =
    let origin = c.args.origin.now in let program = option_map (λ p. p.now) c.args.program in let kept =
    item_view c.args.item.now in
    if_ok c.rows_from.result (λ (m : ItemYield).
    AreItemCounts origin.input origin.outputs program origin.offset kept m.counts
    × AreRowsFrom 0 origin.outputs origin program kept m.rows)
    (λ (m : ItemYield). AreItemRows origin program kept m.rows) c.rows_from.ensures
    (λ m made. item_rows_are origin program kept m.rows made.1)
