use Rattle.explain.specs.Graphs.{AreSources}
use Rattle.explain.proofs.graph.add_sources.Given as goal

abbrev pub invariant-loop-k : goal.invariant-loop-k
invariant-loop-k l = AreSources l.code l.k l.lists
