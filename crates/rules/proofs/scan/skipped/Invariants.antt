use Rattle.std.proofs.Common.{◌≡◌, drop}
use Rattle.rules.specs.Scanning as definitions
use Rattle.rules.proofs.scan.skipped.Given as goal

abbrev pub invariant-loop-place : goal.invariant-loop-place
invariant-loop-place l = definitions.skipped l.text ≡ definitions.skipped (drop l.place l.text)
