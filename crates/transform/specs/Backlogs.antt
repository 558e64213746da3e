-- Rows of an output partition that become record batches, one after the other.
use Rattle.std.specs.Prelude.{◌≡◌, ℕ, ◌+◌, ◌<◌, ◌≤◌, ◌⊎◌, Bool, true, false, List, [], ◌∷◌, ◌++◌, length, map, take}
use Rattle.std.specs.Prelude.{drop}
use Rattle.wire_spec.specs.BatchSpelling.{batch_spelling, BatchFits}
use Rattle.wire_spec.specs.declared.limits.TheConstants.{MAX_BATCH, MAX_RECORDS}
use Rattle.log_spec.specs.declared.row.Row.{Row}
use Rattle.row_batch.specs.{RowBatches.batch_of, OpenBatches.shown}

-- the rows that are in no batch yet, how many are in batches, which is the first one's offset, and how many batches
-- these are
pub record Waiting : Type 0 where
  pub place : ℕ
  pub batches : ℕ
  pub rows : List Row

-- what waits where this many rows are in this many batches, and these rows in none yet
abbrev pub waiting_after : ℕ → ℕ → List Row → Waiting
waiting_after place batches rows = record { place = place; batches = batches; rows = rows }

-- these rows, the first at this offset, before there is a batch
abbrev pub waiting : ℕ → List Row → Waiting
waiting place rows = waiting_after place 0 rows

-- what waits, with these rows in place of its own
abbrev pub having : Waiting → List Row → Waiting
having w rows = waiting_after w.place w.batches rows

-- with rows more at the end
abbrev pub with_rows : Waiting → List Row → Waiting
with_rows w rows = having w (w.rows ++ rows)

-- what waits, with its rows as a batch shows them
abbrev pub as_shown : Waiting → Waiting
as_shown w = having w (map shown w.rows)

-- No batch shows a difference: the rows are the same but for where their records came from.
abbrev pub ShowsSame : Waiting → Waiting → Type 0
ShowsSame x y = as_shown x ≡ as_shown y

-- what waits after the first `count` rows were put into a batch
abbrev pub rest_after : Waiting → ℕ → Waiting
rest_after w count = waiting_after (w.place + count) (w.batches + 1) (drop count w.rows)

-- the batch of the first `count` rows that wait; one row more would be too much for it
pub record IsBatchOf (w : Waiting) (count : ℕ) (bytes : List ℕ) : Type 0 where
  pub some : 1 ≤ count
  pub there : count ≤ length w.rows
  pub fits : BatchFits (batch_of w.place (take count w.rows))
  pub bytes_are : bytes ≡ batch_spelling (batch_of w.place (take count w.rows))

-- With one row more than the first `count` that wait, a batch would have more records or more bytes than one may have.
abbrev pub IsFull : Waiting → ℕ → Type 0
IsFull w count = (count ≡ MAX_RECORDS)
    ⊎ ((count < length w.rows) × (MAX_BATCH < length (batch_spelling (batch_of w.place (take (count + 1) w.rows)))))

-- ---- What a backlog does

-- A row was added to those that wait, as a batch shows it; or one batch has no room for it and them.
abbrev pub TakesRow : Bool → Waiting → Row → Waiting → Type 0
TakesRow true old row new = new ≡ with_rows old (shown row ∷ [])
TakesRow false old row new =
    (new ≡ old) × (1 ≤ length old.rows) × IsFull (with_rows old (row ∷ [])) (length old.rows)

-- what waits after the batch of all rows that waited: none of them
abbrev pub none_after : Waiting → Waiting
none_after w = waiting_after (w.place + length w.rows) (w.batches + 1) []

-- The batch of all rows that wait was given, and none of them waits.
abbrev pub GivesAll : Waiting → List ℕ → Waiting → Type 0
GivesAll old bytes new = IsBatchOf old (length old.rows) bytes × (new ≡ none_after old)
