use Rattle.std.proofs.Common.{rules, ◌∙◌, ap, to_z, of_z, not, int_eq}
use Rattle.std.specs.Int.{w64}
use Rattle.std.proofs.lemmas.Int.{to_z-of_z}
use Rattle.batch.specs.Packed.{span_records}
use Rattle.batch.proofs.Latest.{mistimed_when, mistimed_without}
use Rattle.batch.proofs.packed.mistimed.Goals as goal

pub returns-else-not-is_timestamp : goal.returns-else-not-is_timestamp
returns-else-not-is_timestamp c =
    let top = to_z w64 (of_z w64 c.i64_at-greatest.result) in
    ap not (c.is_same.ensures ∙ ap (int_eq top) (to_z-of_z w64 c.in-Some.time (search rules)))
    ∙ mistimed_when c.args.bytes.now (span_records c.args.bytes.now c.args.spans.now)
    (to_z w64 (of_z w64 c.i64_at-base.result)) top c.in-Some.time
    (to_z-of_z w64 c.i64_at-base.result (search rules) ∙ c.i64_at-base.ensures)
    (to_z-of_z w64 c.i64_at-greatest.result (search rules) ∙ c.i64_at-greatest.ensures) c.in-Some.ensures
    c.if-not-is_timestamp.ensures

pub returns-in-None : goal.returns-in-None
returns-in-None c =
    mistimed_without c.args.bytes.now (span_records c.args.bytes.now c.args.spans.now)
    (to_z w64 (of_z w64 c.i64_at-base.result))
    (to_z-of_z w64 c.i64_at-base.result (search rules) ∙ c.i64_at-base.ensures) c.in-None.ensures
