use Rattle.std.proofs.Common.{◌≡◌, ◌++◌}
use Rattle.std.specs.Vec.Iter.{drain_items, DrainKeeps}
use Rattle.item_rows.proofs.rows.rows_of_each.Given as goal

abbrev pub invariant-loop-rows : goal.invariant-loop-rows
invariant-loop-rows l =
    (goal.iterator-loop-rows).can_next l.rows-iterator × (goal.iterator-loop-rows).is_finite l.rows-iterator
    × DrainKeeps l.initial.rows-iterator l.rows-iterator
    × (l.yielded ++ drain_items l.rows-iterator ≡ drain_items l.initial.rows-iterator) × (l.made.items ≡ l.yielded)
