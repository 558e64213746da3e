use Rattle.row_batch.proofs.ShownLaws.{none_in}
use Rattle.row_batch.proofs.open.OpenBatch.new.Goals as goal

pub returns : goal.returns
returns c = none_in 0 _
