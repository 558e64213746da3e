use Rattle.std.proofs.Common.{◌≡◌, ◌+◌, ◌-◌}
use Rattle.machine_spec.specs.Traps.{has_unset}
use Rattle.bpf_machine.specs.Views.{stack_of}
use Rattle.bpf_machine.proofs.traps.has_unset.Given as goal

abbrev pub invariant-loop-k : goal.invariant-loop-k
invariant-loop-k l = has_unset (stack_of l.stack) (l.place + l.k) (l.count - l.k)
    ≡ has_unset (stack_of l.stack) l.place l.count
