use Rattle.std.proofs.Common.{◌+◌, ◌-◌, ◌≤◌, length}
use Rattle.bpf_asm.proofs.Lines.{IsRead}
use Rattle.bpf_asm.proofs.assembling.add_lines.Given as goal

abbrev pub invariant-loop-start : goal.invariant-loop-start
invariant-loop-start l = record {
  within : l.start ≤ length l.text + 1;
  counted : l.number ≤ l.start + 1;
  read : IsRead l.text l.number l.start l.image.items;
}

abbrev pub decreases-loop-start : goal.decreases-loop-start
decreases-loop-start l = length l.text + 1 - l.start
