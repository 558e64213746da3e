use Rattle.std.proofs.Common.{◌≤◌, length}
use Rattle.batch_reader.specs.Readings.{ReadsOn}
use Rattle.batch_reader.proofs.reader.show.Given as goal

abbrev pub invariant-loop : goal.invariant-loop
invariant-loop g l =
    ReadsOn l.initial.bytes.items (g.R.Read.remaining l.initial.reader) l.bytes.items (g.R.Read.remaining l.reader)
    × (1 ≤ length l.buffer)
