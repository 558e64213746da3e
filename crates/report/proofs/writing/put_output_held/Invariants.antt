use Rattle.std.proofs.Common.{take}
use Rattle.std.specs.{List.flat_map, Io.KnownBytes.Appends}
use Rattle.report.specs.Texts.{held_line}
use Rattle.report.proofs.writing.put_output_held.Given as goal

abbrev pub invariant-loop-holding : goal.invariant-loop-holding
invariant-loop-holding g l = Appends (g.W.Write.contents l.initial.out) (g.W.Write.contents l.out)
    (flat_map held_line (take l.holding-index l.holdings))
