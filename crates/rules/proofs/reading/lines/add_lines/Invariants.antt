use Rattle.std.proofs.Common.{◌+◌, ◌-◌, ◌≤◌, length}
use Rattle.rules.specs.Lines.{lines_of}
use Rattle.rules.proofs.LinesRead.{IsRead}
use Rattle.rules.proofs.reading.lines.add_lines.Given as goal

abbrev pub invariant-loop-start : goal.invariant-loop-start
invariant-loop-start l = record {
  within : l.start ≤ length l.text + 1;
  counted : l.number ≤ l.start + 1;
  read : IsRead l.text l.number l.start (lines_of l.rules.items);
}

abbrev pub decreases-loop-start : goal.decreases-loop-start
decreases-loop-start l = length l.text + 1 - l.start
