use Rattle.std.proofs.Common.{◌≡◌, ℕ, ◌<◌, ◌∙◌, List, length, slice_get, Some, sym, ap, arith}
use Rattle.std.proofs.lemmas.List.{length-map}
use Rattle.wire_spec.specs.declared.{record.Batch.Batch, record.Record.Record}
use Rattle.kafka_record.specs.{declared.spans.Span.Span, Spans.spanned}
use Rattle.batch.specs.{declared.packed.Head.Head, Packed.span_records, Packed.headed}
use Rattle.batch.proofs.PackedLaws.{span_at, record_at}
use Rattle.batch.proofs.packed.PackedBatch.record.Goals as goal

few : (batch : Batch) (bytes : List ℕ) (spans : List Span) (head : Head) (index : ℕ) →
    headed head (span_records bytes spans) ≡ batch → index < length batch.records → index < length spans
few batch bytes spans head index is lt =
    omega (arith, lt, ap (λ (b : Batch). length b.records) is, length-map spans (spanned bytes))

pub packed-requires : goal.packed-requires
packed-requires c =
    let b = c.self.inside in
    span_at b.bytes b.spans.items c.args.index c.index.result.now c.self.invariant.0
    (few c.args.self.now b.bytes b.spans.items b.head c.args.index c.self.view_is c.requires) c.index.ensures

pub returns : goal.returns
returns c =
    let b = c.self.inside in
    ap (λ (b : Batch). slice_get b.records c.args.index) (sym c.self.view_is)
    ∙ record_at b.bytes b.spans.items c.args.index c.index.result.now
    (few c.args.self.now b.bytes b.spans.items b.head c.args.index c.self.view_is c.requires) c.index.ensures
    ∙ ap (λ (r : Record). Some r) (sym c.packed.ensures)
