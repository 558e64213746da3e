use Rattle.std.proofs.Common.{◌≡◌, take}
use Rattle.item_rows.proofs.book_row.row_values.Given as goal

abbrev pub invariant-loop-row : goal.invariant-loop-row
invariant-loop-row l = l.values.items ≡ take l.row-index l.rows
