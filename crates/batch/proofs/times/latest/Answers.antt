use Rattle.std.proofs.Common.{rules, ◌≡◌, ◌+ℤ◌, ℤ, ◌+◌, Some, None, sym, ap, ◌∙◌, subst, to_z, of_z, int_cmp}
use Rattle.std.specs.{Int.w64, Int.int_max, Ordering.ord_max}
use Rattle.std.proofs.lemmas.Int.{to_z-of_z}
use Rattle.batch.specs.Latest.{when_timestamp}
use Rattle.batch.proofs.Latest.{UpTo, one_more, one_wrong, at_end, max_is}
use Rattle.batch.proofs.times.latest.Goals as goal

pub returns-in_err-time : goal.returns-in_err-time
returns-in_err-time c =
    let r = c.record-item.result in
    let base = to_z-of_z w64 c.args.base c.ranges.base in
    let delta = to_z-of_z w64 r.timestamp_delta (search rules) in
    let missing : None ≡ when_timestamp (c.args.base +ℤ r.timestamp_delta) =
    rw (← base, ← delta) c.in_err-time.ensures in
    c.from_residual.ensures ∙ sym (one_wrong c.args.base c.args.records.now c.loop-record.record-index r
    c.loop-record-test.true c.record-item.is missing)

pub loop-record-preserved : goal.loop-record-preserved
loop-record-preserved c =
    let l = c.loop-record in let r = c.record-item.result in let rs = c.args.records.now in
    let g = to_z w64 l.greatest-bits in let time = c.in_ok-time.time in
    let base = to_z-of_z w64 c.args.base c.ranges.base in
    let delta = to_z-of_z w64 r.timestamp_delta (search rules) in
    let top : to_z w64 (of_z w64 c.max-greatest.result) ≡ int_max g time =
    to_z-of_z w64 c.max-greatest.result (search rules) ∙ c.max-greatest.ensures
    ∙ ap (λ (t : ℤ). ord_max int_cmp g t) (to_z-of_z w64 time (search rules)) ∙ max_is g time in
    let found : Some time ≡ when_timestamp (c.args.base +ℤ r.timestamp_delta) =
    rw (← base, ← delta) c.in_ok-time.ensures in
    let so_far : UpTo c.args.base rs l.record-index g =
    subst (λ (b : ℤ). UpTo b rs l.record-index g) base l.invariant in
    let step = one_more c.args.base rs l.record-index r time g c.loop-record-test.true c.record-item.is found so_far in
    subst (λ (b : ℤ). UpTo b rs (l.record-index + 1) (to_z w64 (of_z w64 c.max-greatest.result))) (sym base)
    (subst (λ (z : ℤ). UpTo c.args.base rs (l.record-index + 1) z) (sym top) step)

pub returns : goal.returns
returns c =
    let l = c.loop-record in let rs = c.args.records.now in let g = to_z w64 l.greatest-bits in
    sym (at_end c.args.base rs l.record-index g c.loop-record-test.false
    (subst (λ (b : ℤ). UpTo b rs l.record-index g) (to_z-of_z w64 c.args.base c.ranges.base) l.invariant))
