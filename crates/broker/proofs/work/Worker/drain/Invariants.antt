use Rattle.std.proofs.Common.{◌≡◌, length}
use Rattle.broker.proofs.work.Worker.drain.Given as goal

abbrev pub invariant-loop-index : goal.invariant-loop-index
invariant-loop-index g l = (l.walk.partition ≡ l.fn.walk.partition) × (length l.walk.items ≡ l.index)
