use Rattle.std.proofs.Common.{◌≡◌}
use Rattle.machine_spec.specs.Image.{helpers_of}
use Rattle.annotate.specs.Passing.{IsPassed, fault_before}
use Rattle.annotate.proofs.joining.pass.Given as goal

abbrev pub invariant-loop-k : goal.invariant-loop-k
invariant-loop-k l = record {
  passed : IsPassed (helpers_of l.table) l.code l.states l.k;
  fault : l.first ≡ fault_before (helpers_of l.table) l.code l.k;
}
