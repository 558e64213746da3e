use Rattle.std.proofs.Common.{sym, ◌∙◌, rules}
use Rattle.log_item.specs.Items.{item_view}
use Rattle.commands.proofs.ShownLaws.{closed_by}
use Rattle.commands.proofs.appending.has_end.Goals as goal

pub returns-in-Some : goal.returns-in-Some
returns-in-Some g c = λ end.
    closed_by c.args.trail.now.items c.args.trail.now.partition _ (item_view c.in-Some.item.now) c.note-note.result
    c.read.new.note c.note-note.ensures (search rules) c.in-Some.ensures (sym c.is_end.ensures ∙ end)
