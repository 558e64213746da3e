use Rattle.rules.proofs.RulesAgain.{rules_again}
use Rattle.rules.proofs.laws.rules_are_read_again.Goals as goal

pub returns : goal.returns
returns c = rules_again
