use Rattle.std.proofs.Common.{ap}
use Rattle.transform.specs.Transforms.{flow}
use Rattle.transform.proofs.CountLaws.{none_are}
use Rattle.transform.proofs.flow.Transform.new.Goals as goal

pub returns : goal.returns
returns g c =
    ap (flow c.args.input c.args.offset c.args.outlets.items) (none_are c.new.result c.new.ensures.counts)
