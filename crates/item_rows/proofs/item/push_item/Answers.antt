use Rattle.std.proofs.Common.{sym, ap, option_map}
use Rattle.log_spec.specs.Logs.{IsRecordsRows, Records}
use Rattle.log_item.specs.Items.{item_view}
use Rattle.fates.specs.Fates.{AreRecordsFates}
use Rattle.fates.specs.Totals.{Totals, AreCountsWith, AreItemCounts}
use Rattle.item_rows.specs.ItemRows.{GivesRows, Adds}
use Rattle.item_rows.proofs.RowLaws.{batch_made, item_made, if_ok}
use Rattle.item_rows.proofs.item.push_item.Goals as goal

pub returns-in-Batch : goal.returns-in-Batch
returns-in-Batch c =
    let first = c.args.first in let origin = c.args.origin.now in let batch = c.in-Batch.logged in let program =
    option_map (λ p. p.now) c.args.program in let item = item_view c.args.item.now in
    let one = c.args.all.now in let two = c.push_records.new.all in
    if_ok c.push_records.result (λ (counts : Totals).
    AreCountsWith (AreRecordsFates origin.input origin.outputs program batch origin.offset batch.records) counts
    × Adds first one two (λ q here. IsRecordsRows origin.input q origin.outputs program batch origin.offset
    batch.records here))
    (λ (counts : Totals). AreItemCounts origin.input origin.outputs program origin.offset item counts
    × Adds first one two (GivesRows origin program item)) c.push_records.ensures
    (λ counts made. item_made first origin program (Records batch) item one two counts
    (sym (ap item_view c.in-Batch.is))
    (batch_made first origin program batch one two counts c.len-fits.ensures.fits made))
