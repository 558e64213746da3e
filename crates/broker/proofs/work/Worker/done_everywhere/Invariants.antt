use Rattle.std.proofs.Common.{◌≡◌}
use Rattle.broker.proofs.work.Worker.done_everywhere.Given as goal

abbrev pub invariant-loop-output : goal.invariant-loop-output
invariant-loop-output g l = l.least.partition ≡ l.self.input
