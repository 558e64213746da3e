use Rattle.std.proofs.Common.{◌+◌, ◌*◌, length}
use Rattle.rules_compiler.proofs.conditions.+conditions.Given as goal

abbrev pub decreases-put_first : goal.decreases-put_first
decreases-put_first l = 2 * length l.nodes.now

abbrev pub decreases-put_negated : goal.decreases-put_negated
decreases-put_negated l = 2 * length l.nodes.now + 1

abbrev pub decreases-put_joined : goal.decreases-put_joined
decreases-put_joined l = 2 * length l.nodes.now + 1
