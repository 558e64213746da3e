use Rattle.std.proofs.Common.{◌≡◌, None}
use Rattle.explain.specs.{Reasons.first_below, Hints.ends_unset}
use Rattle.explain.proofs.hints.last_unset.Given as goal

abbrev pub invariant-loop-place : goal.invariant-loop-place
invariant-loop-place l = first_below l.place (ends_unset l.set l.bytes l.first) ≡ None
