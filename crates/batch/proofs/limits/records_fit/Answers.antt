use Rattle.std.proofs.Common.{get_or, below_more, subst, rules}
use Rattle.std.proofs.lemmas.List.{get_or_read}
use Rattle.wire_spec.specs.RecordSpelling.{RecordFits}
use Rattle.batch.proofs.limits.records_fit.Goals as goal

pub loop-record-preserved : goal.loop-record-preserved
loop-record-preserved c =
    let fits : RecordFits c.record-item.result = search rules in
    λ k d. below_more (λ i. RecordFits (get_or c.args.records.now i d)) c.loop-record.record-index
    (λ i lt. c.loop-record.invariant i d lt) (subst RecordFits
    (get_or_read c.args.records.now c.loop-record.record-index c.record-item.result c.loop-record-test.true
    c.record-item.is d) fits) k
