use Rattle.std.proofs.Common.{◌≡◌, length}
use Rattle.report.specs.Snapshots.{AreOutputs}
use Rattle.report.proofs.gathering.holdings.Given as goal

abbrev pub invariant-loop-output : goal.invariant-loop-output
invariant-loop-output g l = (length l.all.items ≡ l.output)
    × AreOutputs g.Id.Names.inputs g.Id.Names.outputs l.all.items
