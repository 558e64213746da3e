use Rattle.std.proofs.Common.{◌≡◌, take, []}
use Rattle.item_rows.specs.RowRefs.{rows_by}
use Rattle.item_rows.proofs.refs.given_rows.Given as goal

abbrev pub invariant-loop-slot : goal.invariant-loop-slot
invariant-loop-slot l = l.rows.items ≡ take l.slot-index (rows_by [] l.slots)
