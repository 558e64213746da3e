use Rattle.std.proofs.Common.{◌≡◌, true}
use Rattle.verifier_spec.specs.{Kinds.kind_at, Kinds.is_kind_within, States.each_below}
use Rattle.lattice.proofs.order.are_registers_within.Given as goal

abbrev pub invariant-loop-register : goal.invariant-loop-register
invariant-loop-register l = each_below l.register (λ r. is_kind_within l.inner (kind_at l.inner r) (kind_at l.outer r))
    ≡ true
