-- What finders find.
use Rattle.std.specs.Prelude.{ℕ, List, Option}
use Rattle.machine_spec.specs.Image.{Program}
use Rattle.log_spec.specs.Catalogue.{Version, LiveTable, among}
use Rattle.catalogue.specs.{declared.readings.Readings.Readings, Publications.Reads, Versions.SeesNewest}

-- What contracts see of a finder: the versions that it returned, the last one of each name, and its readings of the
-- published table.
pub record Seen : Type 0 where
  pub versions : List Version
  pub readings : Readings

-- Finding a name reads a table that was published, and returns the newest of three: the version that the caller knows,
-- the one that the finder returned last, and the one in the table that it reads now. The finder's versions then have
-- the one that is returned; those of other names are as they were.
pub record Finds (known : Version) (name : List ℕ) (old new : Seen) (found : Option (ℕ × Program)) : Type 0 where
  pub table : LiveTable
  pub reads : Reads old.readings table new.readings
  pub sees : SeesNewest known name (among table name) old.versions new.versions found
