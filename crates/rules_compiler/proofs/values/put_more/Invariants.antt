use Rattle.std.proofs.Common.{◌≡◌, ◌++◌, ◌+◌, ◌-◌}
use Rattle.rules_compiler.specs.{Code.instructions, Terms.more_code}
use Rattle.rules_compiler.proofs.values.put_more.Given as goal

abbrev pub invariant-loop-k : goal.invariant-loop-k
invariant-loop-k l =
    l.initial.code.items ++ instructions (more_code l.place l.count)
    ≡ l.code.items ++ instructions (more_code (l.place + l.k) (l.count - l.k))
