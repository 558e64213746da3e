use Rattle.std.proofs.Common.{ℕ, ◌<◌, get_or}
use Rattle.wire_spec.specs.declared.record.Header.{Header}
use Rattle.kafka_record.specs.HeaderBytes.{HasBytes}
use Rattle.kafka_record.proofs.headers.are_listed_bytes.Given as goal

abbrev pub invariant-loop-one : goal.invariant-loop-one
invariant-loop-one l = (k : ℕ) (d : Header) → k < l.one-index → HasBytes (get_or l.list k d)
