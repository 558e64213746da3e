use Rattle.std.proofs.Common.{◌≤◌, length, arith, rules, FitsSigned}
use Rattle.std.specs.Int.{w32}
use Rattle.std.proofs.lemmas.Int.{to_z-of_z}
use Rattle.wire_spec.proofs.Varints.{IsBytes}
use Rattle.kafka_record.proofs.{Answered.read_ok, Spelled.parts_in}
use Rattle.kafka_record.proofs.span_reading.span_body_from.Goals as goal

pub returns-clause-within : goal.returns-clause-within
returns-clause-within c =
    let fits : FitsSigned w32 c.in_ok-number.number = search rules in
    let small : IsBytes c.args.bytes.now = λ i. omega (arith, c.type_inv.bytes i) in
    let first : c.args.at ≤ c.in_ok-start.start =
    omega (arith, c.in_ok-at.ensures.within, c.in_ok-timestamp_delta.ensures.within, c.in_ok-start.ensures.within) in
    let low : c.in_ok-start.start ≤ c.in_ok-count.end =
    omega (
      arith,
      c.in_ok-key.ensures.within.0,
      c.in_ok-value.ensures.within.0,
      c.in_ok-number.ensures.within,
      c.in_ok-count.ensures.spelled.order,
    ) in
    let high : c.in_ok-count.end ≤ length c.args.bytes.now = c.in_ok-count.ensures.spelled.within in (
      omega (arith, first, low),
      high,
      record {
        key = search rules;
        value = search rules;
        parts = record { order = low; within = high };
        headers = c.in_ok-count.ensures.spelled;
        spelled = parts_in c.args.bytes.now c.in_ok-start.start c.in_ok-key.at c.in_ok-value.at
            c.in_ok-number.first c.in_ok-count.end c.in_ok-key.key c.in_ok-value.value c.in_ok-number.number _
            _ (to_z-of_z w32 c.in_ok-number.number fits) small
            (read_ok _ _ c.in_ok-key.ensures.gives) (read_ok _ _ c.in_ok-value.ensures.gives)
            (read_ok _ _ c.in_ok-number.ensures.gives) (read_ok _ _ c.in_ok-count.ensures.gives) low high;
      },
    )
