use Rattle.std.proofs.Common.{◌≡◌, ◌∙◌, ℕ, ◌-◌, ◌++◌, [], ◌∷◌, drop, arith, ap, refl}
use Rattle.std.proofs.lemmas.Result.{err_from_is_err_and}
use Rattle.wire_spec.specs.RecordReading.{headers_at}
use Rattle.kafka_record.specs.SpelledHeaders.{spanned_header}
use Rattle.kafka_record.proofs.{Answered.read_ok, Answered.as_answer, HeadersLaws.read_is}
use Rattle.kafka_record.proofs.Loop.{with_none, goes_on, ends, is_done}
use Rattle.kafka_record.proofs.header_spans.headers_end_from.Goals as goal

pub loop-init : goal.loop-init
loop-init c =
    let after = drop c.args.at c.args.bytes.now in
    let all_left : c.args.count - 0 ≡ c.args.count = omega arith in
    record {
      after = omega arith;
      within = c.requires.at;
      read = ([], with_none (headers_at (c.args.count - 0) after) ∙ ap (λ (k : ℕ). headers_at k after) all_left);
    }

pub returns-in_err-found-clause-gives : goal.returns-in_err-found-clause-gives
returns-in_err-found-clause-gives c =
    let p = err_from_is_err_and c.from_residual.result c.from_residual.ensures.1 in
    rw (p.1, p.2) (ends c.in_err-found.field-0.0 c.loop.invariant.read.0 c.args.count c.loop.counter
    (drop c.loop.place c.args.bytes.now) (headers_at c.args.count (drop c.args.at c.args.bytes.now))
    c.loop-test.true c.in_err-found.ensures.gives c.loop.invariant.read.1)

pub loop-preserved : goal.loop-preserved
loop-preserved c =
    let front = c.loop.invariant.read.0 in
    let h = spanned_header c.args.bytes.now c.in_ok-found.found.0 in
    record {
      after = omega (arith, c.in_ok-found.ensures.within.0, c.loop.invariant.after);
      within = c.in_ok-found.ensures.within.1;
      read = (
        front ++ h ∷ [],
        goes_on front c.args.count c.loop.counter (drop c.loop.place c.args.bytes.now) h
            (drop c.in_ok-found.found.1 c.args.bytes.now) (headers_at c.args.count (drop c.args.at c.args.bytes.now))
            c.loop-test.true (read_ok _ _ c.in_ok-found.ensures.gives) c.loop.invariant.read.1,
      );
    }

pub returns-clause-gives : goal.returns-clause-gives
returns-clause-gives c =
    let bytes = c.args.bytes.now in
    let all = headers_at c.args.count (drop c.args.at bytes) in
    let done = is_done c.loop.invariant.read.0 c.args.count c.loop.counter (drop c.loop.place bytes) all
    c.loop-test.false c.loop.invariant.read.1 in
    as_answer all _ (read_is c.args.count (drop c.args.at bytes) (drop c.loop.place bytes) _ done refl)
