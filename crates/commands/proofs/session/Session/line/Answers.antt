use Rattle.std.proofs.Common.{rules}
use Rattle.script.specs.Commands.{command_of}
use Rattle.commands.proofs.ShownLaws.{shows_why}
use Rattle.commands.proofs.session.Session.line.Goals as goal

pub returns-clause-why : goal.returns-clause-why
returns-clause-why g c =
    shows_why _ _ (command_of c.args.line.now) c.in-Some.command _ (search rules)
    (rw c.input_of-input.ensures at c.shown.ensures.why)
