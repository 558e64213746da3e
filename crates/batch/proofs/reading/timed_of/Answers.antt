use Rattle.std.proofs.Common.{rules, ◌≡◌, false, refl, sym, ap, ◌∙◌}
use Rattle.std.specs.Int.{w16, w32, w64}
use Rattle.std.proofs.lemmas.Int.{to_z-of_z}
use Rattle.wire_spec.specs.BatchReading.{is_mistimed}
use Rattle.batch.proofs.Made.{timed_ok}
use Rattle.batch.proofs.reading.timed_of.Goals as goal

pub returns : goal.returns
returns c =
    let same : c.deref.result.now ≡ c.args.records = search rules in
    let timely : is_mistimed c.args.bytes.now c.args.records ≡ false = ap (is_mistimed c.args.bytes.now) (sym same)
    ∙ sym c.mistimed.ensures ∙ c.if-mistimed.false in
    timed_ok c.args.bytes.now c.args.records _ timely
    (to_z-of_z w64 c.i64_at.result (search rules) ∙ c.i64_at.ensures)
    (to_z-of_z w32 c.i32_at.result (search rules) ∙ c.i32_at.ensures)
    (to_z-of_z w64 c.i64_at-2.result (search rules) ∙ c.i64_at-2.ensures)
    (to_z-of_z w64 c.i64_at-3.result (search rules) ∙ c.i64_at-3.ensures)
    (to_z-of_z w16 c.i16_at.result (search rules) ∙ c.i16_at.ensures)
    (to_z-of_z w32 c.i32_at-2.result (search rules) ∙ c.i32_at-2.ensures)
    refl
