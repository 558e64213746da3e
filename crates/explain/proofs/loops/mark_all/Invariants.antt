use Rattle.std.proofs.Common.{◌-◌, length}
use Rattle.explain.specs.Found.{AreFound}
use Rattle.explain.proofs.loops.mark_all.Given as goal

abbrev pub invariant-loop-at : goal.invariant-loop-at
invariant-loop-at l = AreFound l.graph l.to l.at l.marks l.list.items

abbrev pub decreases-loop-at : goal.decreases-loop-at
decreases-loop-at l = length l.graph - l.at
