-- What a step of a book over an input partition does.
use Rattle.std.specs.Prelude.{◌≡◌, ℕ, ◌<◌, ◌≤◌, List, length, ◌++◌, slice_set, Some, None, Result, Ok, Err}
use Rattle.log_spec.specs.declared.row.Row.{Row}
use Rattle.log_spec.specs.Logs.{Item as LogItem, in_force, records_among, IsItemRows, IsRowsAt}
use Rattle.part_log.specs.Parts.{Log, CellNote, Reads, log_with}
use Rattle.worker.specs.Walks.{last}
use Rattle.out_book.specs.Books.{Content, content, log_in, done_of}
use Rattle.out_book.specs.declared.fault.BookFault.TheVariants as book
use Rattle.broker.specs.declared.{fault.BrokerFault.BrokerFault, stepped.Stepped.Stepped}
use Rattle.broker.specs.declared.fault.BrokerFault.TheVariants.{Partition, NoProgram, Memory}
use Rattle.broker.specs.declared.fault.BrokerFault.TheVariants.{Catalogue as CatalogueRefuses, Log as LogRefuses}
use Rattle.broker.specs.declared.fault.BrokerFault.TheVariants.{Book as BookRefuses}
use Rattle.broker.specs.declared.stepped.Stepped.TheVariants.{Added, Nothing}

-- an input partition of a broker: its number, how many cells its log has, and how many partitions the broker has
pub record Source : Type 0 where
  pub input : ℕ
  pub cells : ℕ
  pub inputs : ℕ
  pub outputs : ℕ

-- The input partition is there, and its first item that is not done in a book was read with a note.
pub record IsRead (source : Source) (old : Content) (note : CellNote) (item : LogItem) (after : CellNote) : Type 0 where
  pub input : source.input < source.inputs
  pub cell : done_of old.logs source.input < source.cells
  pub reads : Reads note (Some item) after

-- The item that was read is done now, and the rows that it gives by the program in force for it were added; `count` is
-- how many they are.
pub record IsStep (source : Source) (old : Content) (note : CellNote) (count : ℕ) (new : Content)
    (after : CellNote) : Type 0 where
  pub item : LogItem
  pub read : IsRead source old note item after
  pub here : List Row
  pub rows_are : IsItemRows source.input old.output source.outputs
      (in_force (log_in old.logs source.input).items (done_of old.logs source.input))
      (records_among (log_in old.logs source.input).items) item here
  pub count_is : count ≡ length here
  pub new_is : new ≡ content old.output (slice_set old.logs source.input (log_with (log_in old.logs source.input) item))
      (old.rows ++ here)

-- There is no item to take: the log has no such cell, or it was read and found empty. The book and the note are as they
-- were.
pub record IsNoStep (source : Source) (old : Content) (note : CellNote) (new : Content) (after : CellNote) : Type 0
  where
    pub input : source.input < source.inputs
    pub empty : done_of old.logs source.input < source.cells → note.known ≡ None
    pub new_is : new ≡ old
    pub after_is : after ≡ note

-- The input partition isn't there, or memory ran out for the item that was read.
abbrev pub IsStepFault : Source → Content → CellNote → BrokerFault → CellNote → Type 0
IsStepFault source old note Partition after = (source.inputs ≤ source.input) × (after ≡ note)
IsStepFault source old note Memory after = (item : LogItem) × IsRead source old note item after
IsStepFault source old note (BookRefuses book.Memory) after = (item : LogItem) × IsRead source old note item after
IsStepFault source old note (BookRefuses book.Partition) after = ⊥
IsStepFault source old note (BookRefuses (book.Gap expected)) after = ⊥
IsStepFault source old note NoProgram after = ⊥
IsStepFault source old note (CatalogueRefuses fault) after = ⊥
IsStepFault source old note (LogRefuses fault) after = ⊥

-- A step of a book over an input partition, with a note of the first cell whose item is not done. The note after it
-- knows the item that was read, if one was.
abbrev pub StepIs : Source → Content → CellNote → Result Stepped BrokerFault → Content → CellNote → Type 0
StepIs source old note (Ok (Added count)) new after = IsStep source old note count new after
StepIs source old note (Ok Nothing) new after = IsNoStep source old note new after
StepIs source old note (Err fault) new after = (new ≡ old) × IsStepFault source old note fault after

-- The item at a walk's position is added to a book of which it is the next one, or memory ran out.
abbrev pub PutIs : ℕ → Content → Log → Result ℕ BrokerFault → Content → Type 0
PutIs outputs old walk (Ok count) new =
    (here : List Row) × IsRowsAt walk.partition old.output outputs walk.items (last walk.items) here
    × (count ≡ length here)
    × (new ≡ content old.output (slice_set old.logs walk.partition walk) (old.rows ++ here))
PutIs outputs old walk (Err Memory) new = new ≡ old
PutIs outputs old walk (Err (BookRefuses book.Memory)) new = new ≡ old
PutIs outputs old walk (Err (BookRefuses book.Partition)) new = ⊥
PutIs outputs old walk (Err (BookRefuses (book.Gap expected))) new = ⊥
PutIs outputs old walk (Err Partition) new = ⊥
PutIs outputs old walk (Err NoProgram) new = ⊥
PutIs outputs old walk (Err (CatalogueRefuses fault)) new = ⊥
PutIs outputs old walk (Err (LogRefuses fault)) new = ⊥
