use Rattle.std.proofs.Common.{◌≤◌, ◌-◌, ◌^◌, length, drop}
use Rattle.program_file.proofs.LineTexts.{IsReadTo}
use Rattle.program_file.proofs.lines.places_from.Given as goal

abbrev pub invariant-loop-at : goal.invariant-loop-at
invariant-loop-at l = record {
  within : l.at ≤ length l.bytes;
  small : l.least ≤ 2 ^ 32;
  read : IsReadTo l.slots (drop l.start l.bytes) l.list.items l.least (drop l.at l.bytes);
}

abbrev pub decreases-loop-at : goal.decreases-loop-at
decreases-loop-at l = length l.bytes - l.at
