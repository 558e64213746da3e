use Rattle.std.proofs.Common.{◌≡◌, ◌∙◌, ℕ, ◌+◌, ◌≤◌, ◌<◌, ◌^◌, length, ap, arith, ℤ, to_z}
use Rattle.std.specs.{Int.w32, Int.w64}
use Rattle.std.proofs.{lemmas.Int.to_z-of_z, lemmas.Int.to_z_pos, lemmas.List.Elements.All-from_recursion}
use Rattle.wire_spec.specs.{declared.limits.TheConstants.MAX_BODY_SIZE, Varint.varint}
use Rattle.wire_spec.specs.Varint.{varlong}
use Rattle.wire_spec.specs.RecordSpelling.{HeaderFits, record_body}
use Rattle.wire_spec.proofs.RecordLaws.{length-record_body}
use Rattle.kafka_record.specs.Parts.{record_with}
use Rattle.kafka_record.proofs.Written.{length_is}
use Rattle.kafka_record.proofs.sizes.body_len.Goals as goal

pub all_len-headers-requires-clause-fit : goal.all_len-headers-requires-clause-fit
all_len-headers-requires-clause-fit c = All-from_recursion HeaderFits c.args.headers.now c.requires.headers

sum_is : (c : goal.After-all_len-headers) →
    1 + c.len64-timestamp.result + c.len32-offset.result + (c.nullable_len-key.result + c.nullable_len-value.result)
    + c.len32-count.result + c.all_len-headers.result ≡ length
    (record_body c.args.delta (record_with c.args.timestamp_delta c.args.key.now c.args.value.now c.args.headers.now))
sum_is c =
    let list = c.args.headers.now in
    let few : length list < 2 ^ 31 = omega (arith, c.requires.count) in
    let t = c.len64-timestamp.ensures.size
    ∙ ap (λ (z : ℤ). length (varlong z)) (to_z-of_z w64 c.args.timestamp_delta c.requires.timestamp) in
    let d = c.len32-offset.ensures.size
    ∙ ap (λ (z : ℤ). length (varint z)) (to_z-of_z w32 c.args.delta c.ranges.delta) in
    let n = c.len32-count.ensures.size ∙ ap (λ (z : ℤ). length (varint z))
    (ap (λ (k : ℕ). to_z w32 k) c.len.ensures ∙ to_z_pos w32 (length list) few) in
    let h = c.all_len-headers.ensures.size in
    length_is c.args.delta (record_with c.args.timestamp_delta c.args.key.now c.args.value.now c.args.headers.now)
    c.len64-timestamp.result c.len32-offset.result c.nullable_len-key.result
    c.nullable_len-value.result c.len32-count.result c.all_len-headers.result t d c.nullable_len-key.ensures
    c.nullable_len-value.ensures n h

small : (c : goal.After-all_len-headers) →
    1 + c.len64-timestamp.result + c.len32-offset.result + (c.nullable_len-key.result + c.nullable_len-value.result)
    + c.len32-count.result + c.all_len-headers.result ≤ MAX_BODY_SIZE
small c = omega (
  arith,
  sum_is c,
  length-record_body c.args.delta (record_with c.args.timestamp_delta c.args.key.now
      c.args.value.now c.args.headers.now) c.requires,
)

pub overflow_add-result-3 : goal.overflow_add-result-3
overflow_add-result-3 c = omega (arith, small c)

pub overflow_add-result-4 : goal.overflow_add-result-4
overflow_add-result-4 c = omega (arith, small c)

pub overflow_add-result-5 : goal.overflow_add-result-5
overflow_add-result-5 c = omega (arith, small c)

pub overflow_add-result-6 : goal.overflow_add-result-6
overflow_add-result-6 c = omega (arith, small c)

pub returns-clause-size : goal.returns-clause-size
returns-clause-size c = sum_is c

pub returns-clause-small : goal.returns-clause-small
returns-clause-small c = small c
