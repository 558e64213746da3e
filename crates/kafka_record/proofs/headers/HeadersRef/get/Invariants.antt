use Rattle.std.proofs.Common.{◌≡◌, drop}
use Rattle.kafka_record.proofs.headers.HeadersRef.get.Given as goal

abbrev pub invariant-loop : goal.invariant-loop
invariant-loop l = l.rest ≡ drop l.counter l.self
