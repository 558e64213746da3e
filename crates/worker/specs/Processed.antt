-- What processing a walk's last item gives.
use Rattle.std.specs.Prelude.{◌≡◌, ℕ, ◌<◌, List, length, All, slice_get, Some}
use Rattle.log_spec.specs.{declared.row.Row.Row, Logs.IsRowsAt, Logs.RowFits}
use Rattle.fates.specs.Totals.{Totals}
use Rattle.item_rows.specs.ItemRows.{rows_in}
use Rattle.part_log.specs.Parts.{Log}
use Rattle.worker.specs.Walks.{last, AreCountsOfLast}

-- the items up to the one that was processed, its rows for each output, and the counts of its records
pub record Processed : Type 0 where
  pub walk : Log
  pub rows : List (List Row)
  pub counts : Totals

-- an item that was processed, of these parts
abbrev pub processed_log : Log → List (List Row) → Totals → Processed
processed_log walk rows counts = record { walk = walk; rows = rows; counts = counts }

-- the items up to the one that was processed, its rows for one output, and the counts of its records
pub record OutputShare : Type 0 where
  pub walk : Log
  pub output : ℕ
  pub rows : List Row
  pub counts : Totals

-- a share of these parts
abbrev pub output_share : Log → ℕ → List Row → Totals → OutputShare
output_share walk output rows counts = record { walk = walk; output = output; rows = rows; counts = counts }

-- the rows are those of the last item in that output, each within the limits of a record, and the counts are those of
-- its records
pub record IsOfLast (outputs : ℕ) (share : OutputShare) : Type 0 where
  pub output : share.output < outputs
  pub rows_are : IsRowsAt share.walk.partition share.output outputs share.walk.items (last share.walk.items) share.rows
  pub fit : All RowFits share.rows
  pub counts_are : AreCountsOfLast outputs share.walk share.counts

-- a share for this output, of these rows
pub record IsShare (walk : Log) (output : ℕ) (rows : List Row) (share : OutputShare) : Type 0 where
  pub walk_is : share.walk ≡ walk
  pub output_is : share.output ≡ output
  pub rows_are : share.rows ≡ rows

-- one share for each output in turn, with its rows
pub record AreInTurn (walk : Log) (all : List (List Row)) (shares : List OutputShare) : Type 0 where
  pub count : length shares ≡ length all
  pub each : (output : ℕ) (share : OutputShare) → slice_get shares output ≡ Some share →
      IsShare walk output (rows_in all output) share
