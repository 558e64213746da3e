use Rattle.std.proofs.Common.{◌≡◌, ℕ, ◌<◌, [], length}
use Rattle.item_rows.specs.ItemRows.{rows_in}
use Rattle.item_rows.proofs.rows.clear_each.Given as goal

abbrev pub invariant-loop-output : goal.invariant-loop-output
invariant-loop-output l =
    (length l.all ≡ length l.fn.all) × ((k : ℕ) → k < l.output → rows_in l.all k ≡ [])
