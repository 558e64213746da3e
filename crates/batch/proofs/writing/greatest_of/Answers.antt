use Rattle.std.proofs.Common.{rules, ℤ, refl, ap, ◌∙◌, FitsSigned}
use Rattle.std.specs.Int.{w64}
use Rattle.std.proofs.lemmas.Int.{to_z-of_z}
use Rattle.wire_spec.specs.BatchSpelling.{greatest, timestamps}
use Rattle.batch.specs.Latest.{latest_of}
use Rattle.batch.proofs.Written.{latest_some, some_same}
use Rattle.batch.proofs.writing.greatest_of.Goals as goal

pub unwrap-requires : goal.unwrap-requires
unwrap-requires c =
    let e = c.latest.ensures ∙ ap (λ (b : ℤ). latest_of b c.args.records.now) (to_z-of_z w64 c.args.base c.ranges.base)
    ∙ latest_some c.args.base c.args.records.now c.requires in
    rw e refl

pub returns : goal.returns
returns c =
    let e = c.latest.ensures ∙ ap (λ (b : ℤ). latest_of b c.args.records.now) (to_z-of_z w64 c.args.base c.ranges.base)
    ∙ latest_some c.args.base c.args.records.now c.requires in
    let fits : FitsSigned w64 c.unwrap.result = search rules in
    to_z-of_z w64 c.unwrap.result fits
    ∙ some_same c.latest.result c.unwrap.result (greatest (timestamps c.args.base c.args.records.now))
    c.unwrap.ensures e
