use Rattle.std.proofs.Common.{◌≡◌, ◌-◌, ◌≤◌, length, drop}
use Rattle.wire_spec.specs.RecordReading.{headers_at}
use Rattle.kafka_record.proofs.Loop.{with_front}
use Rattle.kafka_record.proofs.reading.headers_from.Given as goal

abbrev pub invariant-loop : goal.invariant-loop
invariant-loop l = record {
  after : l.at ≤ l.place;
  within : l.place ≤ length l.bytes;
  read : with_front l.list.items (headers_at (l.count - l.counter) (drop l.place l.bytes))
      ≡ headers_at l.count (drop l.at l.bytes);
}
