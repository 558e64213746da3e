use Rattle.std.proofs.Common.{arith}
use Rattle.verifier_spec.specs.Intervals.{IsRangeOf}
use Rattle.verifier_spec.proofs.ComputedRanges.{computed_proper}
use Rattle.lattice.proofs.operations.result_range.Goals as goal

-- what the operation makes of the cut operands is an interval of the width
is_range : (c : goal.After-computed_range) → IsRangeOf c.args.width c.computed_range.result
is_range c =
    rw c.computed_range.ensures (computed_proper c.args.width c.cut.result c.cut-2.result
    (omega (arith, c.cut.ensures)) (omega (arith, c.cut-2.ensures)) c.args.operation)

pub returns-clause-ordered : goal.returns-clause-ordered
returns-clause-ordered c = (is_range c).order

pub returns-clause-limited : goal.returns-clause-limited
returns-clause-limited c = (is_range c).limited
