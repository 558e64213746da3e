use Rattle.std.proofs.Common.{get_or, below_more, subst, rules}
use Rattle.std.proofs.lemmas.List.{get_or_read}
use Rattle.wire_spec.specs.RecordSpelling.{HeaderFits}
use Rattle.kafka_record.proofs.limits.headers_fit.Goals as goal

pub loop-header-preserved : goal.loop-header-preserved
loop-header-preserved c =
    let fits : HeaderFits c.header-item.result = search rules in
    λ k d. below_more (λ i. HeaderFits (get_or c.args.headers.now i d)) c.loop-header.header-index
    (λ i lt. c.loop-header.invariant i d lt) (subst HeaderFits
    (get_or_read c.args.headers.now c.loop-header.header-index c.header-item.result c.loop-header-test.true
    c.header-item.is d) fits) k
