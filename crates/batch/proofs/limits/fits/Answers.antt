use Rattle.std.proofs.Common.{rules, ◌≡◌, ℤ, ◌≤◌, length, refl, subst, ◌∙◌, to_z, of_z, arith}
use Rattle.std.specs.Int.{w64}
use Rattle.std.specs.List.{AllByRecursion}
use Rattle.std.proofs.lemmas.Int.{to_z-of_z}
use Rattle.wire_spec.specs.BatchSpelling.{IsTimestamp, timestamps}
use Rattle.wire_spec.specs.declared.limits.TheConstants.{MAX_RECORDS}
use Rattle.batch.proofs.WithinLimits.{fits_iff}
use Rattle.batch.proofs.limits.fits.Goals as goal

pub returns : goal.returns
returns c =
    let b = c.args.batch.now in
    let rs = c.as_slice-records.result.now in
    let base : to_z w64 (of_z w64 c.base_of-base.result) ≡ b.base_timestamp =
    to_z-of_z w64 c.base_of-base.result (search rules) ∙ c.base_of-base.ensures in
    let few : length rs ≤ MAX_RECORDS = omega arith in
    let times = subst (λ (t : ℤ). IsTimestamp t × AllByRecursion IsTimestamp (timestamps t rs)) base
    (c.if-not-in_time.ensures.0 refl) in
    fits_iff b rs c.records_len.result (search rules) (search rules) (search rules) (search rules) (search rules)
    (search rules) (search rules) few (c.if-not-records_fit.ensures.0 refl) times c.records_len.ensures.size
