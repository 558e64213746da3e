use Rattle.std.proofs.Common.{rules, ◌≡◌, ◌≢◌, Err, refl}
use Rattle.wire_spec.specs.{declared.fault.BatchFault.TheVariants.Memory, BatchReading.batch_at}
use Rattle.batch.proofs.FeedLaws.{is_refusal}
use Rattle.batch.proofs.feed.cut.Goals as goal

pub returns-in-Err-clause-cuts : goal.returns-in-Err-clause-cuts
returns-in-Err-clause-cuts c =
    let exact : c.in-Err.fault ≢ Memory → batch_at c.args.ready.now ≡ Err c.in-Err.fault = search rules in
    (is_refusal c.args.ready.now c.in-Err.fault c.requires exact, refl)
