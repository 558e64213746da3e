use Rattle.std.proofs.Common.{take}
use Rattle.std.specs.{List.flat_map, Io.KnownBytes.Appends}
use Rattle.report.specs.Texts.{held_rows}
use Rattle.report.proofs.writing.put_output_rows.Given as goal

abbrev pub invariant-loop-holding : goal.invariant-loop-holding
invariant-loop-holding g l = Appends (g.W.Write.contents l.initial.out) (g.W.Write.contents l.out)
    (flat_map held_rows (take l.holding-index l.holdings))
