use Rattle.explain.specs.Found.{AreJumpsFound}
use Rattle.explain.proofs.loops.mark_jumps.Given as goal

abbrev pub invariant-loop-k : goal.invariant-loop-k
invariant-loop-k l = AreJumpsFound l.graph l.to l.at l.j l.k-index l.marks l.list.items
