-- What a watcher of a stream is told.
use Rattle.std.specs.Prelude.{◌≡◌, ℕ, List, ◌++◌, Option, Some}
use Rattle.batch_reader.specs.declared.reader.Position.{Position}

-- what a watcher is told after a batch: how much of the reader was given so far, and how many records were counted
pub record Telling : Type 0 where
  pub position : Position
  pub records : ℕ

-- the telling of this position and this number of records
abbrev pub telling : Position → ℕ → Telling
telling position records = record { position = position; records = records }

-- A watcher was told more: where it is known what it was told, this was known before too, and these come after that.
abbrev pub AddsTellings : Option (List Telling) → List Telling → Option (List Telling) → Type 0
AddsTellings old more new =
    (all : List Telling) → new ≡ Some all → (known : List Telling) × (old ≡ Some known) × (all ≡ known ++ more)
