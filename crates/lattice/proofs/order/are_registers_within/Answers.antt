use Rattle.std.proofs.Common.{sym}
use Rattle.verifier_spec.specs.Kinds.{kind_at, is_kind_within}
use Rattle.lattice.proofs.Below.{each_below_fails}
use Rattle.lattice.proofs.order.are_registers_within.Goals as goal

pub returns-then-not-is_register_within : goal.returns-then-not-is_register_within
returns-then-not-is_register_within c =
    let inner = c.args.inner.now in
    let outer = c.args.outer.now in
    sym (each_below_fails 11 (λ r. is_kind_within inner (kind_at inner r) (kind_at outer r)) c.loop-register.register
    c.loop-register-test.true (cc))
