use Rattle.std.proofs.Common.{◌≡◌, ◌*◌, ◌≤◌, length, take}
use Rattle.std.specs.List.{flat_map}
use Rattle.wire_spec.specs.{declared.limits.TheConstants.MAX_HEADER_SIZE, RecordSpelling.header}
use Rattle.kafka_record.proofs.sizes.headers_len.Given as goal

abbrev pub invariant-loop-one : goal.invariant-loop-one
invariant-loop-one l = record {
  size : l.len ≡ length (flat_map header (take l.one-index l.headers));
  small : l.len ≤ MAX_HEADER_SIZE * l.one-index;
}
