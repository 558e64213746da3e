use Rattle.catalogue.proofs.PublicationLaws.{adds-equal}
use Rattle.catalogue.proofs.catalogue.publish_pending.Goals as goal

pub publish_as-requires : goal.publish_as-requires
publish_as-requires g c next is = adds-equal _ _ _ _ _ c.requires is
