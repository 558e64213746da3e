use Rattle.std.proofs.Common.{sym, subst}
use Rattle.wire_spec.specs.BatchSpelling.{BatchFits}
use Rattle.log_spec.proofs.FittingBatches.{fits_log}
use Rattle.batch_text.proofs.listing.text_of.Goals as goal

pub record_text-requires : goal.record_text-requires
record_text-requires c =
    let batch = c.in_ok-to_batch-in-Records in
    fits_log batch.field-0 (subst BatchFits (sym batch.ensures) c.bytes-bytes.ensures.fits)
