use Rattle.std.proofs.Common.{◌∙◌, sym}
use Rattle.commands.proofs.Loaded.{of_session, named, not_none}
use Rattle.commands.proofs.session.Session.known.Goals as goal

pub unreachable-requires : goal.unreachable-requires
unreachable-requires g c =
    not_none c.get.result _ (c.get.ensures.value
    ∙ of_session c.self.inside.loaded c.as_str.ensures.value c.name.view_is c.self.view_is) c.in_default.is c.requires

pub returns-clause-found : goal.returns-clause-found
returns-clause-found g c = sym (c.in-Some.ensures.value
    ∙ of_session c.self.inside.loaded c.as_str.ensures.value c.name.view_is c.self.view_is)

pub returns-clause-named : goal.returns-clause-named
returns-clause-named g c =
    named c.self.inside.loaded c.as_str.ensures.value c.name.view_is c.self.view_is c.self.invariant.1
    c.in-Some.ensures.value
