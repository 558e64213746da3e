use Rattle.std.proofs.Common.{length}
use Rattle.rules.proofs.truth.+first_holds.Given as goal

abbrev pub decreases-first_holds : goal.decreases-first_holds
decreases-first_holds l = length l.nodes.now
