use Rattle.std.proofs.Common.{◌≡◌, drop, position, bytes_eq}
use Rattle.std.specs.List.{position_from}
use Rattle.wire_spec.specs.declared.record.Header.{Header}
use Rattle.kafka_record.proofs.headers.HeadersRef.position.Given as goal

abbrev pub invariant-loop-place : goal.invariant-loop-place
invariant-loop-place l = record {
  left : l.rest ≡ drop l.place l.self;
  found : position_from (λ (one : Header). bytes_eq one.key l.key) l.place l.rest
      ≡ position (λ (one : Header). bytes_eq one.key l.key) l.self;
}
