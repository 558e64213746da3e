use Rattle.catalogue.proofs.CoreLaws.{does_in_core}
use Rattle.catalogue.proofs.laws.follows_core.Goals as goal

pub returns : goal.returns
returns c = λ w name image table live next result. does_in_core w name image table live next result
