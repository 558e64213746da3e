use Rattle.std.proofs.Common.{codes}
use Rattle.std.proofs.lemmas.Str.Pattern.{ends_text}
use Rattle.commands.proofs.loading.is_rules_name.Goals as goal

pub returns : goal.returns
returns c = ends_text c.ends_with.result (codes ".rules") c.args.name.now c.ends_with.ensures.cases
