use Rattle.commands.proofs.ListLaws.{listed_as}
use Rattle.commands.proofs.listing.list_buffered.Goals as goal

pub returns : goal.returns
returns g c = listed_as _ _ _ _ _ _ _ c.list_all-listed.ensures c.finish.ensures.kept c.finish.ensures.told
