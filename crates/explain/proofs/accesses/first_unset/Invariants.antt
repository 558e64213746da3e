use Rattle.std.proofs.Common.{◌≡◌, None}
use Rattle.explain.specs.Reasons.{first_below, is_unset_in}
use Rattle.explain.proofs.accesses.first_unset.Given as goal

abbrev pub invariant-loop-place : goal.invariant-loop-place
invariant-loop-place l = first_below l.place (is_unset_in l.set l.bytes) ≡ None
