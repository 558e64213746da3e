use Rattle.std.proofs.Common.{ℕ, ◌<◌, get_or}
use Rattle.wire_spec.specs.{declared.record.Header.Header, RecordSpelling.HeaderFits}
use Rattle.kafka_record.proofs.limits.headers_fit.Given as goal

abbrev pub invariant-loop-header : goal.invariant-loop-header
invariant-loop-header l = (k : ℕ) (d : Header) → k < l.header-index → HeaderFits (get_or l.headers k d)
