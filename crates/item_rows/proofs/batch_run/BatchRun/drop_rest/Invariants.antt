use Rattle.std.proofs.Common.{ℕ, ◌+◌, ◌-◌, List, Some}
use Rattle.log_spec.specs.{declared.row.Row.Row, Logs.IsRecordsRows}
use Rattle.item_rows.specs.Blocks.{records_from}
use Rattle.item_rows.proofs.batch_run.BatchRun.drop_rest.Given as goal

abbrev pub invariant-loop-number : goal.invariant-loop-number
invariant-loop-number l =
    (output : ℕ) → (rows : List Row) × IsRecordsRows l.self.origin.now.input output l.self.origin.now.outputs
    (Some l.program) l.self.batch.now (l.self.origin.now.offset + l.first)
    (records_from l.first (l.number - l.first) l.self.batch.now.records) rows
