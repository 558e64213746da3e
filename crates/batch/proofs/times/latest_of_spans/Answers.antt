use Rattle.std.proofs.Common.{rules, ◌≡◌, ◌+ℤ◌, ℤ, ◌+◌, ◌<◌, ◌≤◌, Some, None, sym, ap, ◌∙◌, subst, to_z, of_z, int_cmp}
use Rattle.std.proofs.Common.{length, get_or, arith}
use Rattle.std.specs.{Int.w64, Int.int_max, Ordering.ord_max}
use Rattle.std.proofs.{lemmas.Int.to_z-of_z, lemmas.List.length-map, lemmas.List.get_or_default}
use Rattle.kafka_record.specs.Spans.{spanned}
use Rattle.batch.specs.{Latest.when_timestamp, Packed.span_records}
use Rattle.batch.proofs.Latest.{UpTo, one_more, one_wrong, at_end, max_is}
use Rattle.batch.proofs.PackedLaws.{no_span, record_or}
use Rattle.batch.proofs.times.latest_of_spans.Goals as goal

pub returns-in_err-time : goal.returns-in_err-time
returns-in_err-time c =
    let l = c.loop-span in let bytes = c.args.bytes.now in
    let spans = c.args.spans.now in let rs = span_records bytes spans in
    let span = get_or spans l.span-index no_span in let r = spanned bytes span in
    let base = to_z-of_z w64 c.args.base c.ranges.base in
    let delta = to_z-of_z w64 span.timestamp_delta (search rules) in
    let missing : None ≡ when_timestamp (c.args.base +ℤ span.timestamp_delta) =
    rw (← base, ← delta) c.in_err-time.ensures in
    let lt : l.span-index < length rs =
    omega (arith, c.loop-span-test.true, length-map spans (spanned bytes)) in
    c.from_residual.ensures ∙ sym (one_wrong c.args.base rs l.span-index r lt
    (record_or bytes spans l.span-index span r c.loop-span-test.true
    (get_or_default spans l.span-index no_span span c.loop-span-test.true)) missing)

pub loop-span-preserved : goal.loop-span-preserved
loop-span-preserved c =
    let l = c.loop-span in let bytes = c.args.bytes.now in
    let spans = c.args.spans.now in let rs = span_records bytes spans in
    let span = get_or spans l.span-index no_span in let r = spanned bytes span in
    let g = to_z w64 l.greatest-bits in let time = c.in_ok-time.time in
    let base = to_z-of_z w64 c.args.base c.ranges.base in
    let delta = to_z-of_z w64 span.timestamp_delta (search rules) in
    let top : to_z w64 (of_z w64 c.max-greatest.result) ≡ int_max g time =
    to_z-of_z w64 c.max-greatest.result (search rules) ∙ c.max-greatest.ensures
    ∙ ap (λ (t : ℤ). ord_max int_cmp g t) (to_z-of_z w64 time (search rules)) ∙ max_is g time in
    let found : Some time ≡ when_timestamp (c.args.base +ℤ span.timestamp_delta) =
    rw (← base, ← delta) c.in_ok-time.ensures in
    let so_far : UpTo c.args.base rs l.span-index g =
    subst (λ (b : ℤ). UpTo b rs l.span-index g) base l.invariant in
    let lt : l.span-index < length rs =
    omega (arith, c.loop-span-test.true, length-map spans (spanned bytes)) in
    let step = one_more c.args.base rs l.span-index r time g lt
    (record_or bytes spans l.span-index span r c.loop-span-test.true
    (get_or_default spans l.span-index no_span span c.loop-span-test.true)) found so_far in
    subst (λ (b : ℤ). UpTo b rs (l.span-index + 1) (to_z w64 (of_z w64 c.max-greatest.result))) (sym base)
    (subst (λ (z : ℤ). UpTo c.args.base rs (l.span-index + 1) z) (sym top) step)

pub returns : goal.returns
returns c =
    let l = c.loop-span in let spans = c.args.spans.now in let g = to_z w64 l.greatest-bits in
    let rs = span_records c.args.bytes.now spans in
    let le : length rs ≤ l.span-index =
    omega (arith, c.loop-span-test.false, length-map spans (spanned c.args.bytes.now)) in
    sym (at_end c.args.base rs l.span-index g le
    (subst (λ (b : ℤ). UpTo b rs l.span-index g) (to_z-of_z w64 c.args.base c.ranges.base) l.invariant))
