use Rattle.wire_spec.proofs.BatchLaws.{one_batch}
use Rattle.batch.proofs.reading.one_spelling.Goals as goal

pub returns : goal.returns
returns c = λ b d x y fits also e. one_batch b d x y fits also e
