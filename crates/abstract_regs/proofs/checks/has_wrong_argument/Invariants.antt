use Rattle.std.proofs.Common.{◌≡◌, drop}
use Rattle.std.specs.List.{list_any}
use Rattle.verifier_spec.specs.Checks.{is_wrong_argument_kind}
use Rattle.abstract_regs.proofs.checks.has_wrong_argument.Given as goal

abbrev pub invariant-loop-argument : goal.invariant-loop-argument
invariant-loop-argument l = list_any (is_wrong_argument_kind l.state) l.arguments
    ≡ list_any (is_wrong_argument_kind l.state) (drop l.argument-index l.arguments)
