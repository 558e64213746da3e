use Rattle.row_batch.proofs.RowLaws.{one_row}
use Rattle.row_batch.proofs.laws.one_row_fits.Goals as goal

pub returns : goal.returns
returns c = one_row
