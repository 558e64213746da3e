use Rattle.std.proofs.Common.{◌∙◌, sym, refl, string_bytes}
use Rattle.commands.specs.Sessions.{by_text, scripted, Learns}
use Rattle.commands.proofs.Loaded.{learned, still_named}
use Rattle.commands.proofs.session.Session.keep.Goals as goal

pub invariant_of-self : goal.invariant_of-self
invariant_of-self g c = (
  c.self.invariant.0,
  still_named (string_bytes c.name.inside.text) c.args.known c.self.inside.loaded c.insert.new.self c.insert.result
      (c.requires ∙ sym c.name.view_is) c.insert.ensures.updates c.insert.ensures.err c.self.invariant.1,
)

pub returns-in-Ok-clause-kept : goal.returns-in-Ok-clause-kept
returns-in-Ok-clause-kept g c =
    let inputs = c.self.inside.broker in
    let kept : Learns c.args.known (scripted inputs (by_text c.self.inside.loaded.entries))
    (scripted inputs (by_text c.insert.new.self.entries)) = record {
      inputs_are = refl;
      known_are = learned (string_bytes c.name.inside.text) c.args.known c.self.inside.loaded c.insert.new.self
          (c.requires ∙ sym c.name.view_is) c.in-Ok.ensures.updates;
    } in
    rw (← c.self.view_is) kept
