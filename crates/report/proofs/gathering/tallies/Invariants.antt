use Rattle.std.proofs.Common.{◌≡◌, length}
use Rattle.report.specs.Snapshots.{AreTallies}
use Rattle.report.proofs.gathering.tallies.Given as goal

abbrev pub invariant-loop-input : goal.invariant-loop-input
invariant-loop-input g l = (length l.all.items ≡ l.input) × AreTallies g.Id.Names.outputs l.outputs l.all.items
