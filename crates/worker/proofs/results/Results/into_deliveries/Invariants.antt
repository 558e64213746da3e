use Rattle.std.proofs.Common.{◌≡◌}
use Rattle.worker.proofs.ShareLaws.{AreTaken}
use Rattle.worker.proofs.results.Results.into_deliveries.Given as goal

abbrev pub invariant-loop-output : goal.invariant-loop-output
invariant-loop-output g l =
    AreTaken l.fn.self.walk l.fn.self.rows l.left.rows l.output l.deliveries.items × (l.left.counts ≡ l.fn.self.counts)
