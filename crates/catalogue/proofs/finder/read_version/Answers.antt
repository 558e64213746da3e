use Rattle.catalogue.proofs.PublicationLaws.{looks}
use Rattle.catalogue.proofs.finder.read_version.Goals as goal

pub enter_as-requires : goal.enter_as-requires
enter_as-requires c = looks _ _
