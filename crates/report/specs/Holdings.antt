-- What an output partition holds of an input partition.
use Rattle.std.specs.Prelude.{◌≡◌, ℕ, List, length, slice_get, Some}
use Rattle.log_spec.specs.{declared.row.Row.Row, Logs.IsRowsOf}
use Rattle.part_log.specs.Parts.{Log}
use Rattle.out_book.specs.Books.{Content, rows_from}

-- an output partition, the items that are done there of an input partition, and their rows
pub record Held : Type 0 where
  pub output : ℕ
  pub done : Log
  pub rows : List Row

-- a holding of these parts
abbrev pub held : ℕ → Log → List Row → Held
held output done rows = record { output = output; done = done; rows = rows }

-- the rows are those of the items, in order and each once
abbrev pub IsHeld : ℕ → Held → Type 0
IsHeld outputs h = IsRowsOf h.done.partition h.output outputs h.done.items (length h.done.items) h.rows

-- what a book holds of an input partition
pub record HoldsOf (outputs : ℕ) (book : Content) (input : ℕ) (h : Held) : Type 0 where
  pub output_is : h.output ≡ book.output
  pub done_is : slice_get book.logs input ≡ Some h.done
  pub partition_is : h.done.partition ≡ input
  pub rows_are : h.rows ≡ rows_from input book.rows
  pub is_held : IsHeld outputs h

-- what an output partition holds of an input partition: the rows of the items that are done there
abbrev pub IsHolding : ℕ → ℕ → ℕ → Held → Type 0
IsHolding outputs output input h = (h.output ≡ output) × (h.done.partition ≡ input) × IsHeld outputs h

-- what one of `outputs` output partitions holds of each input partition, in the order of these
pub record IsOutput (output inputs outputs : ℕ) (holdings : List Held) : Type 0 where
  pub count : length holdings ≡ inputs
  pub each : (input : ℕ) (h : Held) → slice_get holdings input ≡ Some h → IsHolding outputs output input h
