-- Versions of names, and the newest of several.
use Rattle.std.specs.Prelude.{◌≡◌, ◌≢◌, ℕ, ◌≤◌, nat_lt, if◌then◌else◌, List, Option, Some, None}
use Rattle.std.specs.{Str.bytes_eq, Arc.arc_value, declared.sync.Arc.Arc}
use Rattle.machine_spec.specs.Image.{Program}
use Rattle.log_item.specs.declared.program.Program.{Program as Loaded}
pub use Rattle.log_spec.specs.Catalogue.{Version, among}

-- a version's number and program, as they are seen
abbrev pub number_and_program : {Z : Type 0} → Option (ℕ × Arc Loaded Z) → Option (ℕ × Program)
number_and_program None = None
number_and_program (Some found) = Some (found.0, arc_value found.1)

-- the number and the program of a name's version, none where it is another name's
abbrev pub under_name : Version → List ℕ → Option (ℕ × Program)
under_name version name = if bytes_eq version.name name then Some (version.number, version.program) else None

-- the version with the greater number; of two equal ones the first
abbrev pub newer : Option (ℕ × Program) → Option (ℕ × Program) → Option (ℕ × Program)
newer None second = second
newer (Some first) None = Some first
newer (Some first) (Some second) = if nat_lt first.0 second.0 then Some second else Some first

-- the later one is no older version than the earlier one, if there is an earlier one
abbrev pub IsNoOlder : Option (ℕ × Program) → Option (ℕ × Program) → Type 0
IsNoOlder None later = Unit {0}
IsNoOlder (Some earlier) None = ⊥
IsNoOlder (Some earlier) (Some later) = earlier.0 ≤ later.0

-- what is found is a later version than this, or this one with its own program; something is found
abbrev pub IsThisOrLater : Version → Option (ℕ × Program) → Type 0
IsThisOrLater version None = ⊥
IsThisOrLater version (Some found) = (version.number ≤ found.0) × (found.0 ≡ version.number → found.1 ≡ version.program)

-- the newest of three is found under a name and kept: the known one, the one kept before, and the one that was read;
-- other names are as they were
pub record SeesNewest (known : Version) (name : List ℕ) (read : Option (ℕ × Program)) (old new : List Version)
    (found : Option (ℕ × Program)) : Type 0 where
  pub newest : found ≡ newer (newer (under_name known name) (among old name)) read
  pub seen : among new name ≡ found
  pub others : (other : List ℕ) → other ≢ name → among new other ≡ among old other

-- a version of a name is kept in the place of the one before; other names are as they were
pub record Keeps (old new : List Version) (name : List ℕ) (version : ℕ × Program) : Type 0 where
  pub kept : among new name ≡ Some version
  pub others : (other : List ℕ) → other ≢ name → among new other ≡ among old other
