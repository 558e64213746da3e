use Rattle.std.proofs.Common.{◌≡◌, ℕ, length, None}
use Rattle.bpf_machine.specs.Views.{stack_of}
use Rattle.bpf_machine.proofs.stack.unset.Given as goal

abbrev pub invariant-loop-count : goal.invariant-loop-count
invariant-loop-count l = record {
  size : length l.bytes.items ≡ l._count;
  none : (place : ℕ) → stack_of l.bytes.items place ≡ None;
}
