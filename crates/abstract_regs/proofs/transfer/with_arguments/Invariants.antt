use Rattle.std.proofs.Common.{◌≡◌, false, drop}
use Rattle.std.specs.List.{list_any, fold}
use Rattle.verifier_spec.specs.{Checks.is_wrong_argument_kind, Transfer.with_argument}
use Rattle.abstract_regs.proofs.transfer.with_arguments.Given as goal

abbrev pub invariant-loop-argument : goal.invariant-loop-argument
invariant-loop-argument l = record {
  same : fold (with_argument l.state) l.state.set l.arguments
      ≡ fold (with_argument l.state) l.set (drop l.argument-index l.arguments);
  right : list_any (is_wrong_argument_kind l.state) (drop l.argument-index l.arguments) ≡ false;
}
