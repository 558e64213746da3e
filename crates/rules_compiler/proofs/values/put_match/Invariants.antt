use Rattle.std.proofs.Common.{◌≡◌, ◌++◌, drop}
use Rattle.rules_compiler.specs.{Code.instructions, Tests.match_code}
use Rattle.rules_compiler.proofs.values.put_match.Given as goal

abbrev pub invariant-loop-k : goal.invariant-loop-k
invariant-loop-k l =
    l.initial.code.items ++ instructions (match_code l.base l.text 0) ≡ l.code.items ++ instructions (match_code l.base (drop l.k l.text) l.k)
