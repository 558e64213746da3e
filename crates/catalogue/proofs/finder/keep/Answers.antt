use Rattle.std.specs.Arc.{arc_value}
use Rattle.catalogue.proofs.VersionLaws.{keeps-put}
use Rattle.catalogue.proofs.finder.keep.Goals as goal

pub returns-clause-ok : goal.returns-clause-ok
returns-clause-ok c =
    keeps-put c.args.seen.now c.put.new.self c.new.result c.args.name.now c.again.result c.args.version
    (arc_value c.args.program) c.put.result c.put.ensures.ok c.new.ensures c.again.ensures
