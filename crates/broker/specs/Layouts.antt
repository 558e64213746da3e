-- What a broker is made of.
use Rattle.std.specs.Prelude.{◌≡◌, ℕ, ◌≤◌, List, [], length, get_or, Some, slice_get}

-- the names of the cells of each input partition, and how many output partitions there are
pub record Layout : Type 0 where
  pub cells : List (List ℕ)
  pub outputs : ℕ

-- a layout of these parts
abbrev pub layout : List (List ℕ) → ℕ → Layout
layout cells outputs = record { cells = cells; outputs = outputs }

-- a number of partitions that a broker may have, 1 to 64
abbrev pub IsCount : ℕ → Type 0
IsCount n = (1 ≤ n) × (n ≤ 64)

-- the cells of each input partition have these names, and past the last partition there is none
abbrev pub AreNamed : (ℕ → List ℕ) → List (List ℕ) → Type 0
AreNamed names cells = (input : ℕ) → names input ≡ get_or cells input []

-- a broker's cells have these names, and it has this number of input and output partitions
pub record IsNamed (cells : ℕ → List ℕ) (inputs outputs : ℕ) (parts : Layout) : Type 0 where
  pub cells_are : AreNamed cells parts.cells
  pub inputs_are : inputs ≡ length parts.cells
  pub outputs_are : outputs ≡ parts.outputs

-- past the last input partition no cell is named
abbrev pub IsWhole : (ℕ → List ℕ) → ℕ → Type 0
IsWhole names inputs = (input : ℕ) → inputs ≤ input → names input ≡ []

-- the log at each place is that of the input partition with this number
abbrev pub IsNumbered : List ℕ → Type 0
IsNumbered logs = (input partition : ℕ) → slice_get logs input ≡ Some partition → partition ≡ input
