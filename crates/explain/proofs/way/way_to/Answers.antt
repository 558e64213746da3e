use Rattle.explain.proofs.Selected.{on_way}
use Rattle.explain.proofs.way.way_to.Goals as goal

pub returns : goal.returns
returns c = λ claims k. on_way c.args.graph.now claims c.args.to c.in_ok-marks.marks.items k (c.in_ok-marks.ensures k)
