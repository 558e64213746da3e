use Rattle.verifier_spec.proofs.Monotone.{order_kept}
use Rattle.machine_spec.specs.Image.{helpers_of}
use Rattle.abstract_regs.proofs.laws.order_is_kept.Goals as goal

pub returns : goal.returns
returns c =
    let within = c.within-within.ensures in
    order_kept (helpers_of c.args.table) c.args.instruction c.args.inner.now c.args.outer.now c.requires.within
    within.proper within.outer_proper c.requires.passes
