use Rattle.std.proofs.Common.{◌≡◌, [], Some}
use Rattle.std.specs.Prelude.{replicate}
use Rattle.transform.specs.{Backlogs.waiting, Outlets.outflow}
use Rattle.transform.proofs.memory.empty_outlets.Given as goal

abbrev pub invariant-loop : goal.invariant-loop
invariant-loop l = l.outlets.items ≡ replicate l.counter (outflow (Some []) (waiting 0 []))
