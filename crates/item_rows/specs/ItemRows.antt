-- The rows of an item in every output partition.
use Rattle.std.specs.Prelude.{◌≡◌, ℕ, ◌+◌, ◌<◌, ◌≤◌, ◌++◌, List, [], length, All, Option, get_or}
use Rattle.wire_spec.specs.declared.limits.TheConstants.{TIMESTAMP_END, MAX_RECORDS}
use Rattle.machine_spec.specs.Image.{Program}
use Rattle.log_spec.specs.declared.row.Row.{Row}
use Rattle.log_spec.specs.Logs.{Item as LogItem, IsItemRows, RowFits}
use Rattle.fates.specs.Totals.{Totals}
use Rattle.item_rows.specs.declared.origin.Origin.{Origin}

-- An origin is in the ranges of a broker: each record of an item there has an offset below 2^62.
pub record IsOrigin (origin : Origin) : Type 0 where
  pub input : origin.input < 64
  pub offset : origin.offset + MAX_RECORDS ≤ TIMESTAMP_END
  pub some_output : 1 ≤ origin.outputs
  pub outputs : origin.outputs ≤ 64

-- the rows of an item in each output, and the counts of its records
pub record ItemYield : Type 0 where
  pub rows : List (List Row)
  pub counts : Totals

-- rows and counts
abbrev pub item_yield : List (List Row) → Totals → ItemYield
item_yield rows counts = record { rows = rows; counts = counts }

-- the rows in an output, of a list that has the rows of each output; past the last output there are none
abbrev pub rows_in : List (List Row) → ℕ → List Row
rows_in all output = get_or all output []

-- the rows that an item gives to an output, each within the limits of a record
pub record GivesRows (origin : Origin) (program : Option Program) (item : LogItem) (output : ℕ) (rows : List Row) : Type
    0 where
  pub are : IsItemRows origin.input output origin.outputs program origin.offset item rows
  pub fit : All RowFits rows

-- a list has the item's rows in each output, all within the limits of a record
pub record AreItemRows (origin : Origin) (program : Option Program) (item : LogItem) (all : List (List Row)) : Type 0
  where
    pub outputs : length all ≡ origin.outputs
    pub each : (output : ℕ) → output < origin.outputs →
        IsItemRows origin.input output origin.outputs program origin.offset item (rows_in all output)
    pub fit : (output : ℕ) → output < origin.outputs → All RowFits (rows_in all output)

-- a list has the item's rows in each of `count` outputs from `first` on
pub record AreRowsFrom (first count : ℕ) (origin : Origin) (program : Option Program) (item : LogItem)
    (all : List (List Row)) : Type 0 where
  pub outputs : length all ≡ count
  pub each : (k : ℕ) → k < count → GivesRows origin program item (first + k) (rows_in all k)

-- there are no rows in any of `outputs` outputs
pub record AreEmpty (outputs : ℕ) (all : List (List Row)) : Type 0 where
  pub count : length all ≡ outputs
  pub each : (output : ℕ) → rows_in all output ≡ []

-- In each of the outputs from `first` on rows are added at the end, and a fact holds of the output and of these rows.
pub record Adds (first : ℕ) (old new : List (List Row)) (Holds : ℕ → List Row → Type 0) : Type 0 where
  pub count : length new ≡ length old
  pub each : (k : ℕ) → k < length old →
      (here : List Row) × Holds (first + k) here × (rows_in new k ≡ rows_in old k ++ here)
