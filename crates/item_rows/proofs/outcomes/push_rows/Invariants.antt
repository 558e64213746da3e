use Rattle.std.proofs.Common.{◌≡◌, ◌++◌, length}
use Rattle.std.specs.Vec.Iter.{drain_items, DrainKeeps}
use Rattle.helpers.specs.Emitted.{emissions_in}
use Rattle.log_spec.specs.Logs.{rows_to}
use Rattle.item_rows.specs.ItemRows.{Adds}
use Rattle.item_rows.proofs.outcomes.push_rows.Given as goal

abbrev pub invariant-loop-emitted : goal.invariant-loop-emitted
invariant-loop-emitted l =
    (goal.iterator-loop-emitted).can_next l.emitted-iterator
    × (goal.iterator-loop-emitted).is_finite l.emitted-iterator
    × DrainKeeps l.initial.emitted-iterator l.emitted-iterator
    × (l.yielded ++ drain_items l.emitted-iterator ≡ drain_items l.initial.emitted-iterator)
    × (l.number ≡ length l.yielded)
    × Adds l.first l.initial.all l.all (λ q here. here ≡ rows_to q l.at.place.now 0 (emissions_in l.at.given.now l.yielded))
