use Rattle.std.proofs.Common.{◌≡◌, ◌++◌}
use Rattle.std.specs.Vec.Iter.{drain_items, DrainKeeps}
use Rattle.item_rows.proofs.made.emissions.Given as goal

abbrev pub invariant-loop-one : goal.invariant-loop-one
invariant-loop-one l =
    (goal.iterator-loop-one).can_next l.one-iterator × (goal.iterator-loop-one).is_finite l.one-iterator
    × DrainKeeps l.initial.one-iterator l.one-iterator
    × (l.yielded ++ drain_items l.one-iterator ≡ drain_items l.initial.one-iterator) × (l.made.items ≡ l.yielded)
