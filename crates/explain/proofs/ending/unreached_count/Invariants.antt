use Rattle.std.proofs.Common.{◌≡◌, ◌≤◌}
use Rattle.explain.specs.Endings.{unreached_count}
use Rattle.explain.proofs.ending.unreached_count.Given as goal

abbrev pub invariant-loop-k : goal.invariant-loop-k
invariant-loop-k l = record { is : l.found ≡ unreached_count l.states l.k; few : l.found ≤ l.k }
