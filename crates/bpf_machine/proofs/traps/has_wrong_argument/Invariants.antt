use Rattle.std.proofs.Common.{◌≡◌, drop}
use Rattle.std.specs.List.{list_any}
use Rattle.machine_spec.specs.Traps.{is_wrong_argument}
use Rattle.bpf_machine.specs.States.{input_of, state_of}
use Rattle.bpf_machine.proofs.traps.has_wrong_argument.Given as goal

abbrev pub invariant-loop-argument : goal.invariant-loop-argument
invariant-loop-argument l =
    list_any (is_wrong_argument (input_of l.run) (state_of l.run l.machine)) l.arguments
    ≡ list_any (is_wrong_argument (input_of l.run) (state_of l.run l.machine)) (drop l.argument-index l.arguments)
