use Rattle.std.proofs.Common.{◌≡◌, drop}
use Rattle.machine_spec.specs.Image.{helpers_of}
use Rattle.verifier_spec.specs.Annotation.{fault_from}
use Rattle.notes.specs.Proper.{AreProperBelow}
use Rattle.notes.proofs.faults.first_fault.Given as goal

abbrev pub invariant-loop-k : goal.invariant-loop-k
invariant-loop-k l = record {
  rest : fault_from (helpers_of l.table) l.code l.claims 0 l.code
      ≡ fault_from (helpers_of l.table) l.code l.claims l.k (drop l.k l.code);
  proper : AreProperBelow l.claims l.k;
}
