use Rattle.std.proofs.Common.{◌≡◌, drop, find}
use Rattle.verifier_spec.specs.Checks.{is_wrong_argument_kind}
use Rattle.explain.proofs.operands.first_wrong.Given as goal

abbrev pub invariant-loop-argument : goal.invariant-loop-argument
invariant-loop-argument l = find (is_wrong_argument_kind l.state) l.arguments
    ≡ find (is_wrong_argument_kind l.state) (drop l.argument-index l.arguments)
