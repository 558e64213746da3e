use Rattle.std.proofs.Common.{◌≡◌, drop}
use Rattle.std.specs.List.{list_any}
use Rattle.machine_spec.specs.{declared.helper.Argument.Argument, Values.is_nothing, Traps.argument_registers}
use Rattle.bpf_machine.specs.Views.{registers_of}
use Rattle.bpf_machine.proofs.traps.is_one_nothing.Given as goal

abbrev pub invariant-loop-argument : goal.invariant-loop-argument
invariant-loop-argument l =
    list_any (λ (a : Argument). list_any (λ r. is_nothing (registers_of l.registers r)) (argument_registers a))
    l.arguments
    ≡ list_any (λ (a : Argument). list_any (λ r. is_nothing (registers_of l.registers r)) (argument_registers a))
    (drop l.argument-index l.arguments)
