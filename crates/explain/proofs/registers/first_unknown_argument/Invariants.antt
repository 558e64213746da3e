use Rattle.std.proofs.Common.{◌≡◌, drop, find}
use Rattle.std.specs.List.{flat_map}
use Rattle.machine_spec.specs.Traps.{argument_registers}
use Rattle.verifier_spec.specs.Kinds.{kind_at, is_unknown}
use Rattle.explain.proofs.registers.first_unknown_argument.Given as goal

abbrev pub invariant-loop-argument : goal.invariant-loop-argument
invariant-loop-argument l =
    find (λ r. is_unknown (kind_at l.state r)) (flat_map argument_registers l.arguments)
    ≡ find (λ r. is_unknown (kind_at l.state r)) (flat_map argument_registers (drop l.argument-index l.arguments))
