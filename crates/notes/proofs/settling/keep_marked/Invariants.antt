use Rattle.notes.proofs.Steps.{AreDone, if_marked}
use Rattle.notes.proofs.settling.keep_marked.Given as goal

abbrev pub invariant-loop-k : goal.invariant-loop-k
invariant-loop-k l = AreDone l.initial.states l.states (if_marked l.marks l.initial.states) l.k
