use Rattle.std.proofs.Common.{length}
use Rattle.rules.proofs.writing.conditions.+push_first.Given as goal

abbrev pub decreases-push_first : goal.decreases-push_first
decreases-push_first l = length l.nodes.now
