use Rattle.std.proofs.Common.{◌∙◌, ap}
use Rattle.commands.specs.Sessions.{Running}
use Rattle.commands.proofs.AppendLaws.{all_printed}
use Rattle.commands.proofs.session.Session.append.Goals as goal

pub returns : goal.returns
returns g c =
    all_printed _ _ _ _ _ _ _ _ _
    (rw (ap (λ (s : Running). s.script.inputs) c.self.view_is) at c.append_source-appended.ensures)
    c.deref.result.now c.len-before.result c.deref.ensures.value (c.len-before.ensures ∙ c.args.receipts.now.ok.0)
    c.in_ok-print_appended.ensures.ok
