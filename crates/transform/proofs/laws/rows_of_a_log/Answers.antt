use Rattle.transform.proofs.LogOfLaws.{of_a_log}
use Rattle.transform.proofs.laws.rows_of_a_log.Goals as goal

pub returns : goal.returns
returns c = of_a_log
