use Rattle.std.proofs.Common.{◌≡◌, drop}
use Rattle.rules.specs.Meaning as definitions
use Rattle.rules.proofs.truth.occurs.Given as goal

abbrev pub invariant-loop-place : goal.invariant-loop-place
invariant-loop-place l = definitions.occurs l.text l.bytes ≡ definitions.occurs l.text (drop l.place l.bytes)
