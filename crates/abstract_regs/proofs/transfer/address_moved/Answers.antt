use Rattle.std.proofs.{Common.pos, Common.neg_ℤ, Common.◌≤ℤ◌, Common.arith, lemmas.Int.ints}
use Rattle.verifier_spec.specs.Kinds.{furthest}
use Rattle.abstract_regs.proofs.Moves.{moved_bounds, ends_proper}
use Rattle.abstract_regs.proofs.transfer.address_moved.Goals as goal

pub moved_by-requires : goal.moved_by-requires
moved_by-requires c =
    let b = moved_bounds c.args.operation c.args.region c.args.low c.args.high c.args.range c.requires.address
    c.requires.range c.requires.can in
    omega (arith, ints, b.from, b.order, b.to, c.least_displacement-least.ensures)

pub moved_by-requires-2 : goal.moved_by-requires-2
moved_by-requires-2 c =
    let b = moved_bounds c.args.operation c.args.region c.args.low c.args.high c.args.range c.requires.address
    c.requires.range c.requires.can in
    omega (arith, ints, b.from, b.order, b.to, c.greatest_displacement-greatest.ensures)

pub returns-clause-proper : goal.returns-clause-proper
returns-clause-proper c =
    let b = moved_bounds c.args.operation c.args.region c.args.low c.args.high c.args.range c.requires.address
    c.requires.range c.requires.can in
    let least = c.least_displacement-least.ensures in
    let greatest = c.greatest_displacement-greatest.ensures in
    let from : neg_ℤ (pos furthest) ≤ℤ c.moved_by.result = omega (arith, ints, b.from, least) in
    let order : c.moved_by.result ≤ℤ c.moved_by-2.result = omega (arith, ints, b.order, least, greatest) in
    let to : c.moved_by-2.result ≤ℤ pos furthest = omega (arith, ints, b.to, greatest) in
    ends_proper c.args.region c.moved_by.result c.moved_by-2.result from order to
