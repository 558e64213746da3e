use Rattle.std.proofs.Common.{take}
use Rattle.script.specs.Words.{texts}
use Rattle.commands.proofs.RecheckLaws.{Rechecked}
use Rattle.commands.proofs.rechecking.recheck_lines.Given as goal

abbrev pub invariant-loop-index : goal.invariant-loop-index
invariant-loop-index g l =
    Rechecked g.F.Files.bytes g.O.Write.contents l.initial.host l.host (take l.index (texts l.lines)) l.refused
