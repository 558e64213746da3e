use Rattle.std.proofs.Common.{◌≤◌, length, take}
use Rattle.std.specs.Io.KnownBytes.{Appends}
use Rattle.report.proofs.writing.put.Given as goal

abbrev pub invariant-loop : goal.invariant-loop
invariant-loop g l = (l.done ≤ length l.text)
    × Appends (g.W.Write.contents l.initial.out) (g.W.Write.contents l.out) (take l.done l.text)
