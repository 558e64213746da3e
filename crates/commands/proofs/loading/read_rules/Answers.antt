use Rattle.std.proofs.Common.{◌∙◌}
use Rattle.commands.proofs.loading.read_rules.Goals as goal

pub returns-in-Ok-clause-given : goal.returns-in-Ok-clause-given
returns-in-Ok-clause-given g c = λ bytes known.
    rw (c.deref.ensures.value ∙ c.in-Ok.ensures.read bytes known) at c.rules_given.ensures
