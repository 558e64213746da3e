use Rattle.std.proofs.Common.{◌-◌, ◌≤◌, length, take}
use Rattle.item_rows.specs.Blocks.{HaveRun}
use Rattle.item_rows.proofs.batch_run.BatchRun.push_all.Given as goal

abbrev pub invariant-loop-done : goal.invariant-loop-done
invariant-loop-done l =
    (l.done ≤ length l.self.batch.now.records)
    × HaveRun l.self l.self.origin.now.offset (take l.done l.self.batch.now.records) l.fn.all l.all l.fn.counts l.counts

abbrev pub decreases-loop-done : goal.decreases-loop-done
decreases-loop-done l = length l.self.batch.now.records - l.done
