use Rattle.std.proofs.Common.{take}
use Rattle.std.specs.{List.flat_map, Io.KnownBytes.Appends}
use Rattle.report.specs.Texts.{output_lines}
use Rattle.report.proofs.writing.put_all_held.Given as goal

abbrev pub invariant-loop-holdings : goal.invariant-loop-holdings
invariant-loop-holdings g l = Appends (g.W.Write.contents l.initial.out) (g.W.Write.contents l.out)
    (flat_map output_lines (take l.holdings-index l.outputs))
