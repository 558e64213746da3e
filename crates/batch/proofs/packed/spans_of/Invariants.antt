use Rattle.std.proofs.Common.{◌≡◌, ◌-◌, ◌≤◌, drop, length}
use Rattle.wire_spec.specs.BatchReading.{records_at}
use Rattle.batch.specs.Packed.{span_records, AreSpansOf}
use Rattle.batch.proofs.Loop.{with_front}
use Rattle.batch.proofs.packed.spans_of.Given as goal

abbrev pub invariant-loop-place : goal.invariant-loop-place
invariant-loop-place l = record {
  within : l.at ≤ length l.bytes;
  spans : AreSpansOf l.bytes l.list.items;
  read : with_front (span_records l.bytes l.list.items) (records_at (l.count - l.place) l.place (drop l.at l.bytes))
      ≡ records_at l.count 0 (drop 61 l.bytes);
}
