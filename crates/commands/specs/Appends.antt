-- What a line does that appends record batches, and what it leaves where it ends early.
use Rattle.std.specs.Prelude.{◌≡◌, ◌≢◌, ℕ, ◌<◌, ◌≤◌, List, [], length, Option, Some, Result, Ok, Err, IfSome, ⊤}
use Rattle.std.specs.{List.flat_map, Io.KnownBytes.Appends}
use Rattle.wire_spec.specs.{declared.record.Batch.Batch, BatchReading.batch_at}
use Rattle.log_spec.specs.Logs.{records_among}
use Rattle.part_log.specs.Parts.{Received}
use Rattle.broker.specs.{Streams.Appended, declared.fault.BrokerFault.BrokerFault}
use Rattle.broker.specs.declared.fault.BrokerFault.TheVariants.{Partition, NoProgram, Memory}
use Rattle.broker.specs.declared.fault.BrokerFault.TheVariants.{Catalogue as CatalogueRefuses, Log as LogRefuses}
use Rattle.broker.specs.declared.fault.BrokerFault.TheVariants.{Book as BookRefuses}
use Rattle.script.specs.{declared.command.FileWord.FileWord, Texts.append_line}
use Rattle.script.specs.declared.command.FileWord.TheVariants.{Line, File}
use Rattle.commands.specs.declared.stop.Stop.{Stop}
use Rattle.commands.specs.declared.stop.Stop.TheVariants as stop

-- the line of the receipt of a batch that was appended to this input partition
abbrev pub line_of : ℕ → Received → List ℕ
line_of input receipt = append_line input (length receipt.before.items) (records_among receipt.before.items)

-- the lines of these receipts, in order
abbrev pub append_lines : ℕ → List Received → List ℕ
append_lines input receipts = flat_map (line_of input) receipts

-- the bytes that a command names, where they are known: those in its line, or those of a file
abbrev pub bytes_of : (List ℕ → Option (List ℕ)) → FileWord → Option (List ℕ)
bytes_of files (Line bytes) = Some bytes
bytes_of files (File name) = files name

-- why a command ends whose bytes can't be read; for bytes in its line there is no file, so memory ran out
abbrev pub unread_of : FileWord → Stop
unread_of (Line bytes) = stop.Memory
unread_of (File name) = stop.File name

-- Why the broker appends no more where this is left of the bytes: the input partition isn't there, and nothing was
-- appended; or its log refuses the batch that they begin with.
abbrev pub IsRefusal : ℕ → ℕ → List Received → List Received → List ℕ → BrokerFault → Type 0
IsRefusal inputs input old new rest Partition = (inputs ≤ input) × (new ≡ old)
IsRefusal inputs input old new rest (LogRefuses fault) = (input < inputs) × (batch : Batch) × (used : ℕ)
    × (batch_at rest ≡ Ok (batch, used))
IsRefusal inputs input old new rest NoProgram = ⊥
IsRefusal inputs input old new rest Memory = ⊥
IsRefusal inputs input old new rest (CatalogueRefuses fault) = ⊥
IsRefusal inputs input old new rest (BookRefuses fault) = ⊥

-- How a line ends that appends batches, where this is left of their bytes: nothing is left, or they begin with no
-- batch, or with one that the broker refuses; or they can't be read. Nothing is said where standard output or memory
-- failed.
abbrev pub EndsAt : ℕ → ℕ → Stop → List Received → List Received → List ℕ → Result ⊤ Stop → Type 0
EndsAt inputs input cause old new rest (Ok done) = (input < inputs) × (rest ≡ [])
EndsAt inputs input cause old new rest (Err (stop.Line fault)) = ⊥
EndsAt inputs input cause old new rest (Err (stop.Program fault)) = ⊥
EndsAt inputs input cause old new rest (Err (stop.Broker fault)) = IsRefusal inputs input old new rest fault
EndsAt inputs input cause old new rest (Err (stop.Batch fault)) = (input < inputs) × (rest ≢ [])
    × (batch_at rest ≡ Err fault)
EndsAt inputs input cause old new rest (Err (stop.File name)) = stop.File name ≡ cause
EndsAt inputs input cause old new rest (Err stop.Output) = ⊤
EndsAt inputs input cause old new rest (Err stop.Thread) = ⊥
EndsAt inputs input cause old new rest (Err stop.Memory) = ⊤

-- The batches that some bytes begin with, which are these where they are known, were appended to the log of an input
-- partition one after the other, up to the end of the bytes or to a fault, and their receipts were added to a list.
pub record AppendsOf (inputs input : ℕ) (known : Option (List ℕ)) (cause : Stop) (old new : List Received)
    (result : Result ⊤ Stop) : Type 0 where
  pub bytes : List ℕ
  pub known_is : IfSome known (λ all. bytes ≡ all)
  pub rest : List ℕ
  pub appended : Appended input bytes old new rest
  pub ends : EndsAt inputs input cause old new rest result

-- A text was printed, unless standard output or memory failed; then nothing is said of what was.
abbrev pub Prints : Option (List ℕ) → Option (List ℕ) → List ℕ → Result ⊤ Stop → Type 0
Prints before after text (Ok done) = Appends before after text
Prints before after text (Err (stop.Line fault)) = Appends before after text
Prints before after text (Err (stop.Program fault)) = Appends before after text
Prints before after text (Err (stop.Broker fault)) = Appends before after text
Prints before after text (Err (stop.Batch fault)) = Appends before after text
Prints before after text (Err (stop.File name)) = Appends before after text
Prints before after text (Err stop.Output) = ⊤
Prints before after text (Err stop.Thread) = Appends before after text
Prints before after text (Err stop.Memory) = ⊤

-- What `append` does: it appends the batches of the bytes that it names, and prints a line for each, also for those
-- before a fault.
pub record AppendDoes (inputs : ℕ) (files : List ℕ → Option (List ℕ)) (input : ℕ) (source : FileWord)
    (old new : List Received) (before after : Option (List ℕ)) (result : Result ⊤ Stop) : Type 0 where
  pub appends : AppendsOf inputs input (bytes_of files source) (unread_of source) old new result
  pub printed : Prints before after (append_lines input appends.appended.added) result
