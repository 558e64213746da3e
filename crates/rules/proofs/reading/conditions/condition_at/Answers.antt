use Rattle.std.proofs.Common.{[], refl}
use Rattle.rules.specs.Nodes.{AreBehind}
use Rattle.rules.proofs.Nodes.{alone}
use Rattle.rules.proofs.reading.conditions.condition_at.Goals as goal

pub invariant_of-result : goal.invariant_of-result
invariant_of-result c =
    let put = c.in_ok-rest.ensures in
    let behind : AreBehind [] c.any_at.new.nodes.items put.0 = rw c.new-nodes.ensures.items at put.2 in
    record { is_one = rw (alone c.any_at.new.nodes.items put.0 behind) refl }

pub returns : goal.returns
returns c =
    let put = c.in_ok-rest.ensures in
    let behind : AreBehind [] c.any_at.new.nodes.items put.0 = rw c.new-nodes.ensures.items at put.2 in
    rw (alone c.any_at.new.nodes.items put.0 behind) put.1
