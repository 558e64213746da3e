-- The rule of the published table: what readers know of it, and what a publication changes.
use Rattle.std.specs.Prelude.{◌≡◌, ℕ, ◌+◌, List, [], ◌++◌}
use mathlib.Core.Option.{some}
use lib.ListN.{get_elem?}
use Rattle.log_spec.specs.Catalogue.{Version, LiveTable, IsLoad, Makes, with_version}
use Rattle.catalogue.specs.declared.readings.Readings.{Readings}

-- the loads begin with these first ones
abbrev pub StartsWith : List Version → List Version → Type 0
StartsWith loads first = (later : List Version) × (loads ≡ first ++ later)

-- Some accepted loads, one after the other, made the published table of the empty one. They begin with the loads that
-- each reader knows.
pub record IsPublished (table : LiveTable) (views : List Readings) : Type 0 where
  pub loads : List Version
  pub made : Makes [] loads table
  pub known : (seat : ℕ) (v : Readings) → get_elem? views seat ≡ some v → StartsWith loads v.loads

-- A reading of the table: it is counted, and the loads that made the table begin with those of the reading before.
pub record Reads (v : Readings) (table : LiveTable) (w : Readings) : Type 0 where
  pub times_is : w.times ≡ v.times + 1
  pub later : StartsWith w.loads v.loads
  pub made : Makes [] w.loads table

-- the next table is the one before with one more accepted load
pub record IsOneMore (table next : LiveTable) : Type 0 where
  pub version : Version
  pub loaded : IsLoad table version
  pub next_is : next ≡ with_version table version
