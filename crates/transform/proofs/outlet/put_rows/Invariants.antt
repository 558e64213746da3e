use Rattle.std.proofs.Common.{drop}
use Rattle.transform.specs.{Backlogs.with_rows, Outlets.WroteFull}
use Rattle.transform.proofs.outlet.put_rows.Given as goal

abbrev pub invariant-loop-index : goal.invariant-loop-index
invariant-loop-index g l =
    WroteFull (with_rows l.initial.backlog l.rows) (g.W.Write.contents l.initial.writer)
    (with_rows l.backlog (drop l.index l.rows)) (g.W.Write.contents l.writer)
