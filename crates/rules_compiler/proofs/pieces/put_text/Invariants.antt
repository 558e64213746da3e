use Rattle.std.proofs.Common.{◌≡◌, ◌++◌}
use Rattle.rules_compiler.specs.Pieces.{words_code}
use Rattle.rules_compiler.proofs.pieces.put_text.Given as goal

abbrev pub invariant-loop-k : goal.invariant-loop-k
invariant-loop-k l = l.code.items ≡ l.initial.code.items ++ words_code l.fn.start l.text l.k
