use Rattle.std.proofs.Common.{◌≡◌, ◌≤◌, length}
use Rattle.batch_reader.proofs.ReadingLaws.{Underway}
use Rattle.batch_reader.proofs.reader.next_of.Given as goal

abbrev pub invariant-loop : goal.invariant-loop
invariant-loop g l =
    Underway l.fn.feed (g.R.Read.remaining l.fn.reader) l.feed (g.R.Read.remaining l.reader)
    × (l.position ≡ l.fn.position) × (1 ≤ length l.buffer)
