use Rattle.std.proofs.Common.{◌≡◌, ◌≤◌, ℕ, length, map, take, slice_get}
use Rattle.exec.specs.Endings.{outcomes_of}
use Rattle.fates.specs.Fates.{fate_of}
use Rattle.item_rows.specs.ItemRows.{Adds}
use Rattle.item_rows.specs.Blocks.{records_from, rows_of_each, AreFatesMore}
use Rattle.item_rows.proofs.outcomes.push_outcomes.Given as goal

abbrev pub invariant-loop-index : goal.invariant-loop-index
invariant-loop-index l = record {
  long : length l.block ≡ length l.fn.block;
  left : (k : ℕ) → l.index ≤ k → slice_get l.block k ≡ slice_get l.fn.block k;
  rows : Adds l.first l.fn.all l.all (λ q here. here ≡ rows_of_each q l.records.places.now
      (take l.index (outcomes_of (records_from l.records.from (length l.fn.block) l.records.logged.now.records) l.fn.block)));
  counts : AreFatesMore
      (map fate_of (take l.index (outcomes_of (records_from l.records.from (length l.fn.block) l.records.logged.now.records) l.fn.block)))
      l.fn.counts l.counts;
}
