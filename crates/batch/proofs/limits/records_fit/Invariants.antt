use Rattle.std.proofs.Common.{ℕ, ◌<◌, get_or}
use Rattle.wire_spec.specs.{declared.record.Record.Record, RecordSpelling.RecordFits}
use Rattle.batch.proofs.limits.records_fit.Given as goal

abbrev pub invariant-loop-record : goal.invariant-loop-record
invariant-loop-record l = (k : ℕ) (d : Record) → k < l.record-index → RecordFits (get_or l.records k d)
