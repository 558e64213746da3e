use Rattle.std.proofs.Common.{arith}
use Rattle.explain.proofs.Marks.{all_found}
use Rattle.explain.proofs.loops.mark_all.Goals as goal

pub returns : goal.returns
returns c =
    all_found c.args.graph.now c.args.to c.loop-at.at c.loop-at.marks c.loop-at.list.items c.loop-at.invariant
    (omega (arith, c.loop-at-test.false, c.len.ensures))
