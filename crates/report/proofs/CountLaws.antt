-- The counts of a book, counted once more.
use Rattle.std.proofs.Common.{ℕ, List, [], ◌++◌}
use Rattle.log_spec.specs.Logs.{Item}
use Rattle.fates.specs.declared.fate.Fate.{Fate}
use Rattle.fates.specs.Totals.{Totals, AreCounts, AreCountsOf}

pub counted_again : (input outputs : ℕ) (items : List Item) (n : ℕ) (none given again : Totals) → AreCounts [] none →
    ((before here : List Fate) → AreCounts before none → AreCounts here given → AreCounts (before ++ here) again) →
    AreCountsOf input outputs items n given → AreCountsOf input outputs items n again
counted_again input outputs items n none given again start sums are = record {
  fates = are.fates;
  fates_are = are.fates_are;
  counts_are = sums [] are.fates start are.counts_are;
}
