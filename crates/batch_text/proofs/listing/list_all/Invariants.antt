use Rattle.std.proofs.Common.{◌≡◌}
use Rattle.batch.specs.Streams.{Open, pending_bytes}
use Rattle.batch_reader.specs.Readings.{left}
use Rattle.batch_text.proofs.ListingLaws.{Underway}
use Rattle.batch_text.proofs.listing.list_all.Given as goal

abbrev pub invariant-loop-batches : goal.invariant-loop-batches
invariant-loop-batches g l =
    Underway l.listing (g.R.Read.remaining l.initial.reader) (g.W.Write.contents l.initial.writer)
    (left l.pieces.stream (g.R.Read.remaining l.reader)) (g.W.Write.contents l.writer) l.batches l.position
    × (l.pieces.stream ≡ Open (pending_bytes l.pieces.stream))
