use Rattle.std.proofs.Common.{◌≡◌, ◌++◌}
use Rattle.std.specs.Vec.Iter.{drain_items, DrainKeeps}
use Rattle.helpers.specs.Emitted.{emissions_in}
use Rattle.helpers.proofs.emitted.add_each.Given as goal

abbrev pub invariant-loop-item : goal.invariant-loop-item
invariant-loop-item l = record {
  can : (goal.iterator-loop-item).can_next l.item-iterator;
  ends : (goal.iterator-loop-item).is_finite l.item-iterator;
  keeps : DrainKeeps l.initial.item-iterator l.item-iterator;
  items : l.yielded ++ drain_items l.item-iterator ≡ drain_items l.initial.item-iterator;
  made : l.made.items ≡ l.initial.made.items ++ emissions_in l.given l.yielded;
}
