use Rattle.std.proofs.Common.{◌∙◌, ℕ, List, drop, refl, None, Some}
use Rattle.std.proofs.lemmas.Result.{err_from_is_err_and}
use Rattle.wire_spec.specs.{declared.record.Header.Header, RecordReading.header_at}
use Rattle.kafka_record.specs.SpelledHeaders.{spanned_header}
use Rattle.kafka_record.proofs.Answered.{read_ok, as_answer}
use Rattle.kafka_record.proofs.HeadersLaws.{passed, refused_as}
use Rattle.kafka_record.proofs.header_spans.header_span_from.Goals as goal

pub returns-in_err-header-clause-gives : goal.returns-in_err-header-clause-gives
returns-in_err-header-clause-gives c =
    let p = err_from_is_err_and c.from_residual.result c.from_residual.ensures.1 in
    rw (p.1, p.2) (refused_as c.in_err-header.field-0.0 (drop c.args.at c.args.bytes.now) c.in_err-header.ensures.gives)

pub returns-then-not-is_text-clause-gives : goal.returns-then-not-is_text-clause-gives
returns-then-not-is_text-clause-gives c =
    λ _. as_answer _ None (passed (drop c.args.at c.args.bytes.now)
    (spanned_header c.args.bytes.now c.in_ok-header.header, drop c.in_ok-header.after c.args.bytes.now)
    c.is_text.result (read_ok _ _ c.in_ok-header.ensures.gives) c.is_text.ensures.test
    ∙ rw c.if-not-is_text.true refl)

pub returns-clause-gives : goal.returns-clause-gives
returns-clause-gives c =
    let found : Header × List ℕ =
    (spanned_header c.args.bytes.now c.in_ok-header.header, drop c.in_ok-header.after c.args.bytes.now) in
    as_answer (header_at (drop c.args.at c.args.bytes.now)) (Some found) (passed (drop c.args.at c.args.bytes.now) found
    c.is_text.result (read_ok _ _ c.in_ok-header.ensures.gives) c.is_text.ensures.test
    ∙ rw c.if-not-is_text.false refl)
