use Rattle.std.proofs.lemmas.List.{get_or_default}
use Rattle.batch.proofs.PackedLaws.{no_span, span_at}
use Rattle.batch.proofs.packed.records_of.Goals as goal

pub packed-requires : goal.packed-requires
packed-requires c =
    span_at c.args.bytes.now c.args.spans.now c.loop-span.span-index _ c.requires c.loop-span-test.true
    (get_or_default c.args.spans.now c.loop-span.span-index no_span _ c.loop-span-test.true)
