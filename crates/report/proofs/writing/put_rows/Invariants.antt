use Rattle.std.proofs.Common.{take}
use Rattle.std.specs.{List.flat_map, Io.KnownBytes.Appends}
use Rattle.script.specs.Texts.{row_line}
use Rattle.report.proofs.writing.put_rows.Given as goal

abbrev pub invariant-loop-row : goal.invariant-loop-row
invariant-loop-row g l =
    Appends (g.W.Write.contents l.initial.out) (g.W.Write.contents l.out)
    (flat_map (row_line l.holding.output) (take l.row-index l.holding.rows))
