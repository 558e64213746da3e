use Rattle.std.proofs.Common.{◌≡◌, ◌∙◌, ◌+◌, suc, [], ◌∷◌, ◌++◌, drop, get_or, drop-cons, subst, sym, ap, arith}
use Rattle.std.proofs.{lemmas.List.drop_all, lemmas.Result.err_from_is_err_and}
use Rattle.wire_spec.specs.BatchReading.{records_at}
use Rattle.kafka_record.specs.Spans.{spanned}
use Rattle.batch.specs.Packed.{span_records, AreSpansOf}
use Rattle.batch.proofs.Loop.{goes_on, ends, is_done, is_over}
use Rattle.batch.proofs.PackedLaws.{one_more, one_within}
use Rattle.batch.proofs.packed.spans_of.Goals as goal

pub returns-in_err-span-clause-gives : goal.returns-in_err-span-clause-gives
returns-in_err-span-clause-gives c =
    let l = c.loop-place in let bytes = c.args.bytes.now in
    let p = err_from_is_err_and c.from_residual-in_err-span.result c.from_residual-in_err-span.ensures.1 in
    rw (p.1, p.2) (ends c.in_err-span.field-0.0 (span_records bytes l.list.items) c.args.count l.place
    (drop l.at bytes) (records_at c.args.count 0 (drop 61 bytes)) c.loop-place-test.true c.in_err-span.ensures.gives
    l.invariant.read)

pub returns-then-at-end-clause-gives : goal.returns-then-at-end-clause-gives
returns-then-at-end-clause-gives c =
    let l = c.loop-place in let bytes = c.args.bytes.now in
    λ _. is_over (span_records bytes l.list.items) c.args.count l.place (get_or bytes l.at 0)
    (drop (suc l.at) bytes) (drop l.at bytes) (records_at c.args.count 0 (drop 61 bytes)) (omega arith)
    (drop-cons bytes l.at 0 (omega arith)) l.invariant.read

pub returns-clause-gives : goal.returns-clause-gives
returns-clause-gives c =
    let l = c.loop-place in let bytes = c.args.bytes.now in
    is_done (span_records bytes l.list.items) c.args.count l.place (drop l.at bytes)
    (records_at c.args.count 0 (drop 61 bytes)) (omega arith) (drop_all l.at bytes (omega arith)) l.invariant.read

pub loop-place-preserved : goal.loop-place-preserved
loop-place-preserved c =
    let bytes = c.args.bytes.now in
    let l = c.loop-place in
    let front = l.list.items in
    let span = c.in_ok-span.span in
    let is : c.push.new.self.items ≡ front ++ span ∷ [] = c.in_ok-push.ensures.items in
    let records : span_records bytes c.push.new.self.items ≡ span_records bytes front ++ spanned bytes span ∷ [] =
    ap (span_records bytes) is ∙ one_more bytes front span in
    record {
      within = c.in_ok-span.ensures.within.0;
      spans = subst (AreSpansOf bytes) (sym is) (one_within bytes front span l.invariant.spans
          c.in_ok-span.ensures.within.1);
      read = rw records (goes_on (span_records bytes front) c.args.count l.place (drop l.at bytes)
          (spanned bytes span) (drop (l.at + c.in_ok-span.used) bytes)
          (records_at c.args.count 0 (drop 61 bytes)) c.loop-place-test.true c.in_ok-span.ensures.gives
          l.invariant.read);
    }
