use Rattle.catalogue.proofs.PublicationLaws.{admits}
use Rattle.catalogue.proofs.catalogue.Catalogue.reader.Goals as goal

pub reader-requires : goal.reader-requires
reader-requires g c = admits
