use Rattle.std.proofs.Common.{◌≡◌}
use Rattle.verifier_spec.specs.StackSets.{with_places}
use Rattle.lattice.proofs.places.with_places.Given as goal

abbrev pub invariant-loop-k : goal.invariant-loop-k
invariant-loop-k l = l.with ≡ with_places l.set l.place l.k
