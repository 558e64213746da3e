use Rattle.std.proofs.Common.{◌≡◌, ◌-◌, ◌*◌}
use Rattle.rules_compiler.specs.declared.searches.TheConstants.{OTHERS, PLACES}
use Rattle.rules_compiler.specs.{Code.instructions, Tests.searches_code}
use Rattle.rules_compiler.proofs.searches.searches.Given as goal

abbrev pub invariant-loop-left : goal.invariant-loop-left
invariant-loop-left l = l.code.items ≡ instructions (searches_code l.size (PLACES * (OTHERS - l.left)) l.left)
