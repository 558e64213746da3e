use Rattle.std.proofs.Common.{get_or, below_more, subst, rules}
use Rattle.std.proofs.lemmas.List.{get_or_read}
use Rattle.kafka_record.specs.HeaderBytes.{HasBytes}
use Rattle.kafka_record.proofs.headers.are_listed_bytes.Goals as goal

pub loop-one-preserved : goal.loop-one-preserved
loop-one-preserved c =
    let bytes : HasBytes c.one-item.result = search rules in
    λ k d. below_more (λ i. HasBytes (get_or c.args.list.now i d)) c.loop-one.one-index
    (λ i lt. c.loop-one.invariant i d lt) (subst HasBytes
    (get_or_read c.args.list.now c.loop-one.one-index c.one-item.result c.loop-one-test.true
    c.one-item.is d) bytes) k
