use Rattle.std.proofs.Common.{◌≡◌, ℕ, ◌<◌, length, slice_index_or}
use Rattle.verifier_spec.specs.declared.state.Abs.TheVariants as abs
use Rattle.verifier_spec.specs.Joins.{joined_kind}
use Rattle.lattice.proofs.join.joined_kinds.Given as goal

abbrev pub invariant-loop-register : goal.invariant-loop-register
invariant-loop-register l =
    (length l.joined ≡ 11)
    × ((k : ℕ) → k < l.register → slice_index_or l.joined k abs.None
    ≡ joined_kind l.a l.b (slice_index_or l.kinds k abs.None) (slice_index_or l.others k abs.None))
