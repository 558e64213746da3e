use Rattle.std.proofs.Common.{◌≡◌}
use Rattle.verifier_spec.specs.Checks.{are_set}
use Rattle.lattice.proofs.places.contains_all.Given as goal

abbrev pub invariant-loop-left : goal.invariant-loop-left
invariant-loop-left l = are_set l.set l.next l.left ≡ are_set l.fn.set l.fn.place l.fn.count

abbrev pub decreases-loop-left : goal.decreases-loop-left
decreases-loop-left l = l.left
