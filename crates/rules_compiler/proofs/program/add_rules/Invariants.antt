use Rattle.std.proofs.Common.{◌≡◌, ◌≤◌, ◌+◌, ◌++◌, drop, length}
use Rattle.std.specs.List.{AllByRecursion}
use Rattle.machine_spec.specs.declared.limits.TheConstants.{MAX_SLOTS}
use Rattle.rules.specs.{Lines.lines_of, Limits.FitsText, Limits.FitsLine}
use Rattle.rules_compiler.specs.{Code.instructions, Rules.lines_code}
use Rattle.rules_compiler.proofs.program.add_rules.Given as goal

abbrev pub invariant-loop-k : goal.invariant-loop-k
invariant-loop-k l = record {
  code : l.initial.code.items ++ instructions (lines_code (drop 1 (lines_of l.rules)))
      ≡ l.code.items ++ instructions (lines_code (lines_of (drop l.k l.rules)));
  fits : AllByRecursion (FitsLine FitsText) (lines_of (drop l.k l.rules));
  few : length l.code.items + 2 ≤ MAX_SLOTS;
  low : 1 ≤ l.k;
}
