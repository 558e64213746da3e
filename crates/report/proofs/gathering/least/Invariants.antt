use Rattle.report.proofs.PlaceLaws.{IsLeastOf}
use Rattle.report.proofs.gathering.least.Given as goal

abbrev pub invariant-loop-holdings : goal.invariant-loop-holdings
invariant-loop-holdings g l = IsLeastOf l.outputs l.holdings-index l.input l.first.done
