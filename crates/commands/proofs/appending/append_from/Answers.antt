use Rattle.commands.proofs.AppendLaws.{appends_from}
use Rattle.commands.proofs.appending.append_from.Goals as goal

pub returns : goal.returns
returns g c = rw c.end_of_stream.ensures (appends_from _ _ _ _ _ _ _ _ c.requires c.append_from-appended.ensures)
