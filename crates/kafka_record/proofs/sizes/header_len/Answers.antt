use Rattle.std.proofs.Common.{ℕ, ◌+◌, ◌≤◌, List, Option, length, ap, arith}
use Rattle.wire_spec.specs.RecordSpelling.{nullable}
use Rattle.wire_spec.specs.declared.limits.TheConstants.{MAX_HEADER_VALUE, MAX_HEADER_SIZE}
use Rattle.wire_spec.proofs.RecordLaws.{length-nullable}
use Rattle.kafka_record.proofs.sizes.header_len.Goals as goal

small : (c : goal.After-nullable_len) → c.string_len.result + c.nullable_len.result ≤ MAX_HEADER_SIZE
small c = omega (
  arith,
  c.requires.key,
  c.len.ensures.value,
  c.string_len.ensures.small,
  ap (λ (text : Option (List ℕ)). length (nullable text)) c.of.ensures,
  c.nullable_len.ensures,
  length-nullable MAX_HEADER_VALUE c.args.one.now.value c.requires.value,
)

pub overflow_add-result : goal.overflow_add-result
overflow_add-result c = omega (arith, small c)

pub returns-clause-small : goal.returns-clause-small
returns-clause-small c = small c
