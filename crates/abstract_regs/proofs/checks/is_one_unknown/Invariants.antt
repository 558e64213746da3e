use Rattle.std.proofs.Common.{◌≡◌, drop}
use Rattle.std.specs.List.{list_any}
use Rattle.machine_spec.specs.{declared.helper.Argument.Argument, Traps.argument_registers}
use Rattle.verifier_spec.specs.Kinds.{kind_at, is_unknown}
use Rattle.abstract_regs.proofs.checks.is_one_unknown.Given as goal

abbrev pub invariant-loop-argument : goal.invariant-loop-argument
invariant-loop-argument l =
    list_any (λ (a : Argument). list_any (λ r. is_unknown (kind_at l.state r)) (argument_registers a)) l.arguments
    ≡ list_any (λ (a : Argument). list_any (λ r. is_unknown (kind_at l.state r)) (argument_registers a))
    (drop l.argument-index l.arguments)
