use Rattle.std.proofs.Common.{take}
use Rattle.std.specs.Io.KnownBytes.{Appends}
use Rattle.commands.specs.Appends.{append_lines}
use Rattle.commands.proofs.appending.print_appended.Given as goal

abbrev pub invariant-loop-receipt : goal.invariant-loop-receipt
invariant-loop-receipt g l = Appends (g.O.Write.contents l.initial.stdout) (g.O.Write.contents l.stdout)
    (append_lines l.input (take l.receipt-index l.receipts))
