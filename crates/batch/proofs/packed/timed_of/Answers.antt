use Rattle.std.proofs.Common.{◌≡◌, Ok, sym}
use Rattle.wire_spec.specs.BatchReading.{timed_at}
use Rattle.batch.specs.Packed.{span_records, headed}
use Rattle.batch.proofs.PackedLaws.{headed_ok, untimely}
use Rattle.batch.proofs.packed.timed_of.Goals as goal

pub returns-then-mistimed : goal.returns-then-mistimed
returns-then-mistimed c =
    untimely c.args.bytes _ c.args.spans.items _ _ c.as_slice-slice.ensures c.as_slice.ensures.value c.mistimed.ensures
    c.if-mistimed.true

pub invariant_of-result : goal.invariant_of-result
invariant_of-result c =
    let records = span_records c.args.bytes c.args.spans.items in
    let made : timed_at c.args.bytes records ≡ Ok (headed c.head_of-head.result records) =
    sym (headed_ok c.args.bytes _ c.args.spans.items _ c.head_of-head.result _ c.as_slice-slice.ensures
    c.as_slice.ensures.value c.mistimed.ensures c.if-mistimed.false c.head_of-head.ensures) in
    (c.requires.within, c.requires.whole (headed c.head_of-head.result records) made)

pub returns : goal.returns
returns c =
    headed_ok c.args.bytes _ c.args.spans.items _ c.head_of-head.result _ c.as_slice-slice.ensures
    c.as_slice.ensures.value c.mistimed.ensures c.if-mistimed.false c.head_of-head.ensures
