use Rattle.std.proofs.Common.{◌≡◌, ◌++◌, length}
use Rattle.report.proofs.holding.shared.Given as goal

abbrev pub invariant-loop-row : goal.invariant-loop-row
invariant-loop-row l = l.list.items ++ l.left ≡ l.fn.rows

abbrev pub decreases-loop-row : goal.decreases-loop-row
decreases-loop-row l = length l.left
