use Rattle.std.proofs.Common.{drop}
use Rattle.std.specs.List.{AllByRecursion}
use Rattle.rules.specs.{Lines.lines_of, Limits.FitsText, Limits.IsText, Limits.FitsLine}
use Rattle.rules_compiler.proofs.text_bytes.rules_have_texts.Given as goal

abbrev pub invariant-loop-k : goal.invariant-loop-k
invariant-loop-k l = record {
  fits : AllByRecursion (FitsLine FitsText) (lines_of (drop l.k l.rules));
  all : AllByRecursion (FitsLine IsText) (lines_of (drop l.k l.rules)) → AllByRecursion (FitsLine IsText) (lines_of l.rules);
}
