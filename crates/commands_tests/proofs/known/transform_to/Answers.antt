use Rattle.std.proofs.Common.{rules, refl}
use Rattle.commands_tests.proofs.known.transform_to.Goals as goal

pub returns : goal.returns
returns c = c.transform.ensures.written refl (search rules) (search rules)
