use Rattle.std.proofs.Common.{◌∙◌, ap, is_some}
use Rattle.commands.proofs.Loaded.{of_session}
use Rattle.commands.proofs.session.Session.has.Goals as goal

pub returns : goal.returns
returns g c = c.contains_key.ensures
    ∙ ap is_some (of_session c.self.inside.loaded c.as_str.ensures.value c.name.view_is c.self.view_is)
