-- The first items of an input partition, and the counts of their records.
use Rattle.std.specs.Prelude.{ℕ, length}
use Rattle.part_log.specs.Parts.{Log}
use Rattle.fates.specs.Totals.{Totals, AreCountsOf}

-- the first items of an input partition, and what became of their records
pub record Tallied : Type 0 where
  pub first : Log
  pub totals : Totals

-- a tally of these parts
abbrev pub tally_of_log : Log → Totals → Tallied
tally_of_log first counts = record { first = first; totals = counts }

-- the counts of a tally are those of its items
abbrev pub IsTallied : ℕ → Tallied → Type 0
IsTallied outputs t = AreCountsOf t.first.partition outputs t.first.items (length t.first.items) t.totals
