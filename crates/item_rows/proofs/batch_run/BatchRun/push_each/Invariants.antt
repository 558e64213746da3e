use Rattle.std.proofs.Common.{◌+◌, ◌-◌}
use Rattle.item_rows.specs.Blocks.{records_from, HaveRun}
use Rattle.item_rows.proofs.batch_run.BatchRun.push_each.Given as goal

abbrev pub invariant-loop-number : goal.invariant-loop-number
invariant-loop-number l =
    HaveRun l.self (l.self.origin.now.offset + l.fn.part.first)
    (records_from l.fn.part.first (l.number - l.fn.part.first) l.self.batch.now.records) l.initial.all l.all
    l.initial.counts l.counts
