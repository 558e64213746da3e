use Rattle.std.proofs.Common.{◌≡◌}
use Rattle.item_rows.specs.Blocks.{records_from}
use Rattle.item_rows.proofs.batch_run.BatchRun.references.Given as goal

abbrev pub invariant-loop-index : goal.invariant-loop-index
invariant-loop-index l = l.records.items ≡ records_from l.part.first l.index l.self.batch.now.records
