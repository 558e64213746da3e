use Rattle.notes.proofs.Steps.{AreMarked}
use Rattle.notes.proofs.targets.mark_all.Given as goal

abbrev pub invariant-loop-k : goal.invariant-loop-k
invariant-loop-k l = AreMarked l.code l.targets l.k
