use Rattle.std.proofs.Common.{◌≡◌, ◌∙◌, ◌+◌, ◌-◌, ℕ, List, drop, ap, refl, arith, rules, Some, None, FitsSigned}
use Rattle.std.specs.Int.{w32}
use Rattle.std.proofs.lemmas.Int.{to_z-of_z}
use Rattle.wire_spec.specs.{declared.record.Record.Record, RecordReading.record_at}
use Rattle.kafka_record.specs.Spans.{spanned}
use Rattle.kafka_record.proofs.Answered.{read_ok, as_answer, record_reads}
use Rattle.kafka_record.proofs.span_reading.read_span.Goals as goal

pub returns-then-not-is_filled-clause-exact : goal.returns-then-not-is_filled-clause-exact
returns-then-not-is_filled-clause-exact c =
    let fits : FitsSigned w32 c.in_ok-len.len = search rules in
    let none : record_at c.args.delta (drop c.args.at c.args.bytes.now) ≡ None =
    record_reads c.args.delta _ c.args.bytes.now c.args.bytes.now c.args.at c.in_ok-len.start c.in_ok-span.end
    c.in_ok-len.len _ (spanned c.args.bytes.now c.in_ok-span.span) c.is_filled.result
    (to_z-of_z w32 c.args.delta c.ranges.delta) refl (to_z-of_z w32 c.in_ok-len.len fits)
    (read_ok _ _ c.in_ok-len.ensures.gives) (read_ok _ _ c.in_ok-span.ensures.gives) c.in_ok-span.ensures.within.0
    c.in_ok-span.ensures.within.1 c.is_filled.ensures
    ∙ rw c.if-not-is_filled.true refl in
    λ _. as_answer (record_at c.args.delta (drop c.args.at c.args.bytes.now)) None none

pub returns-clause-exact : goal.returns-clause-exact
returns-clause-exact c =
    let fits : FitsSigned w32 c.in_ok-len.len = search rules in
    let end : c.in_ok-span.end ≡ c.args.at + (c.in_ok-span.end - c.args.at) =
    omega (arith, c.in_ok-len.ensures.within, c.in_ok-span.ensures.within) in
    let found : Record × List ℕ = (
      spanned c.args.bytes.now c.in_ok-span.span,
      drop (c.args.at + (c.in_ok-span.end - c.args.at)) c.args.bytes.now,
    ) in
    let read : record_at c.args.delta (drop c.args.at c.args.bytes.now) ≡ Some found =
    record_reads c.args.delta _ c.args.bytes.now c.args.bytes.now c.args.at c.in_ok-len.start c.in_ok-span.end
    c.in_ok-len.len _ (spanned c.args.bytes.now c.in_ok-span.span) c.is_filled.result
    (to_z-of_z w32 c.args.delta c.ranges.delta) refl (to_z-of_z w32 c.in_ok-len.len fits)
    (read_ok _ _ c.in_ok-len.ensures.gives) (read_ok _ _ c.in_ok-span.ensures.gives) c.in_ok-span.ensures.within.0
    c.in_ok-span.ensures.within.1 c.is_filled.ensures
    ∙ rw c.if-not-is_filled.false (ap (λ (k : ℕ). Some (
      spanned c.args.bytes.now c.in_ok-span.span,
      drop k c.args.bytes.now,
    )) end) in
    as_answer (record_at c.args.delta (drop c.args.at c.args.bytes.now)) (Some found) read
