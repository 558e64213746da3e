use Rattle.std.proofs.Common.{◌≡◌, ◌++◌, drop}
use Rattle.notes.specs.Derived.{kept_from}
use Rattle.notes.proofs.settling.kept_states.Given as goal

abbrev pub invariant-loop-k : goal.invariant-loop-k
invariant-loop-k l = l.kept.items ++ kept_from l.code l.k (drop l.k l.states) ≡ kept_from l.code 0 l.states
