use Rattle.std.proofs.Common.{drop, arith}
use Rattle.std.proofs.lemmas.Result.{err_from_is_err_and}
use Rattle.wire_spec.specs.RecordReading.{headers_at}
use Rattle.kafka_record.proofs.Answered.{read_ok, as_answer}
use Rattle.kafka_record.proofs.Loop.{goes_on, ends, is_done}
use Rattle.kafka_record.proofs.reading.headers_from.Goals as goal

pub returns-in_err-header-clause-gives : goal.returns-in_err-header-clause-gives
returns-in_err-header-clause-gives c =
    let p = err_from_is_err_and c.from_residual-in_err-header.result c.from_residual-in_err-header.ensures.1 in
    rw (p.1, p.2) (ends c.in_err-header.field-0.0 c.loop.list.items c.args.count c.loop.counter
    (drop c.loop.place c.args.bytes.now) (headers_at c.args.count (drop c.args.at c.args.bytes.now))
    c.loop-test.true c.in_err-header.ensures.gives c.loop.invariant.read)

pub loop-preserved : goal.loop-preserved
loop-preserved c =
    let h = c.in_ok-header.header in
    record {
      after = omega (arith, c.in_ok-header.ensures.within.0, c.loop.invariant.after);
      within = c.in_ok-header.ensures.within.1;
      read = rw c.in_ok-push.ensures.items (goes_on c.loop.list.items c.args.count c.loop.counter
          (drop c.loop.place c.args.bytes.now) h (drop c.in_ok-header.after c.args.bytes.now)
          (headers_at c.args.count (drop c.args.at c.args.bytes.now)) c.loop-test.true
          (read_ok _ _ c.in_ok-header.ensures.gives) c.loop.invariant.read);
    }

pub returns-clause-gives : goal.returns-clause-gives
returns-clause-gives c =
    let all = headers_at c.args.count (drop c.args.at c.args.bytes.now) in
    as_answer all _ (is_done c.loop.list.items c.args.count c.loop.counter (drop c.loop.place c.args.bytes.now) all
    c.loop-test.false c.loop.invariant.read)
