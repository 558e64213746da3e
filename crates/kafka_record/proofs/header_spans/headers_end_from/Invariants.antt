use Rattle.std.proofs.Common.{◌≡◌, ◌-◌, ◌≤◌, List, length, drop}
use Rattle.wire_spec.specs.{declared.record.Header.Header, RecordReading.headers_at}
use Rattle.kafka_record.proofs.Loop.{with_front}
use Rattle.kafka_record.proofs.header_spans.headers_end_from.Given as goal

-- Some headers were read before this place.
abbrev pub invariant-loop : goal.invariant-loop
invariant-loop l = record {
  after : l.at ≤ l.place;
  within : l.place ≤ length l.bytes;
  read : (front : List Header) × (with_front front (headers_at (l.count - l.counter) (drop l.place l.bytes))
      ≡ headers_at l.count (drop l.at l.bytes));
}
