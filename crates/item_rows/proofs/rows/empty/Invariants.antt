use Rattle.item_rows.specs.ItemRows.{AreEmpty}
use Rattle.item_rows.proofs.rows.empty.Given as goal

abbrev pub invariant-loop : goal.invariant-loop
invariant-loop l = AreEmpty l.counter l.all.items
