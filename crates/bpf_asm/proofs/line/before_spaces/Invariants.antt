use Rattle.std.proofs.Common.{◌≡◌, ◌≤◌, take, length}
use Rattle.bpf_asm.specs.Reading.{before_spaces}
use Rattle.bpf_asm.proofs.line.before_spaces.Given as goal

abbrev pub invariant-loop-end : goal.invariant-loop-end
invariant-loop-end l = record {
  within : l.end ≤ length l.text;
  so_far : before_spaces (take l.end l.text) ≡ before_spaces l.text;
}

abbrev pub decreases-loop-end : goal.decreases-loop-end
decreases-loop-end l = l.end
