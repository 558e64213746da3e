use Rattle.std.proofs.Common.{◌≡◌, ℤ, true, false, Some, None, refl, ap, ◌∙◌, IsTrue}
use Rattle.std.specs.Int.{w64}
use Rattle.std.proofs.lemmas.Int.{to_z-of_z}
use Rattle.wire_spec.specs.BatchReading.{is_timestamp as timestamp_test}
use Rattle.batch.specs.Latest.{latest_of}
use Rattle.batch.proofs.WithinLimits.{all_in_time, not_in_time}
use Rattle.batch.proofs.limits.in_time.Goals as goal

pub returns-in-Some : goal.returns-in-Some
returns-in-Some c =
    let base = to_z-of_z w64 c.args.base c.ranges.base in
    let test : true ≡ timestamp_test c.args.base = c.if-not-is_timestamp.ensures ∙ ap timestamp_test base in
    let found : Some c.in-Some.field-0 ≡ latest_of c.args.base c.args.records.now = c.in-Some.ensures
    ∙ ap (λ (b : ℤ). latest_of b c.args.records.now) base in
    (λ t. all_in_time c.args.base c.args.records.now c.in-Some.field-0 test found, λ h. refl)

no : IsTrue false → ⊥
no t = absurd cc

pub returns-in-None : goal.returns-in-None
returns-in-None c =
    let base = to_z-of_z w64 c.args.base c.ranges.base in
    let found : None ≡ latest_of c.args.base c.args.records.now = c.in-None.ensures
    ∙ ap (λ (b : ℤ). latest_of b c.args.records.now) base in
    (λ t. absurd (no t), λ h. absurd (not_in_time c.args.base c.args.records.now found h.1))
