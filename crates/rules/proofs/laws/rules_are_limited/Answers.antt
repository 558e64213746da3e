use Rattle.rules.proofs.ReadLimits.{rules_fit}
use Rattle.rules.proofs.laws.rules_are_limited.Goals as goal

pub returns : goal.returns
returns c = rules_fit
