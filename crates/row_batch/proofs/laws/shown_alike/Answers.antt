use Rattle.row_batch.proofs.ShownLaws.{shown_batch}
use Rattle.row_batch.proofs.laws.shown_alike.Goals as goal

pub returns : goal.returns
returns c = shown_batch
