-- Why a script ends early, by what refuses its line, and the status that the program then ends with.
use Rattle.std.specs.Prelude.{◌≡◌, ℕ, List, [], ◌∷◌, Result, Ok, Err, ⊤}
use Rattle.wire_spec.specs.declared.fault.BatchFault.{BatchFault}
use Rattle.wire_spec.specs.declared.fault.BatchFault.TheVariants as fault
use Rattle.program_file.specs.declared.fault.FileFault.{FileFault}
use Rattle.program_file.specs.declared.fault.FileFault.TheVariants as file
use Rattle.part_log.specs.declared.fault.LogFault.TheVariants as log
use Rattle.catalogue.specs.declared.fault.CatFault.TheVariants as catalogue
use Rattle.out_book.specs.declared.fault.BookFault.TheVariants as book
use Rattle.broker.specs.declared.{fault.BrokerFault.BrokerFault, stream.StreamFault.StreamFault, ended.Ended.Ended}
use Rattle.broker.specs.declared.fault.BrokerFault.TheVariants as broker
use Rattle.broker.specs.declared.stream.StreamFault.TheVariants as stream
use Rattle.broker.specs.declared.ended.Ended.TheVariants as ended
use Rattle.report.specs.declared.fault.ReportFault.{ReportFault}
use Rattle.report.specs.declared.fault.ReportFault.TheVariants as report
use Rattle.commands.specs.declared.{reading.Unread.Unread, stop.Stop.Stop, image.Refused.Refused, status.Status.Status}
use Rattle.commands.specs.declared.status.Status.TheVariants as exit
use Rattle.commands.specs.declared.reading.Unread.TheVariants as unread
use Rattle.commands.specs.declared.stop.Stop.TheVariants as stop
use Rattle.commands.specs.declared.image.Refused.TheVariants as refused

-- why a script ends at a call that the broker refuses; that memory ran out is a reason of its own
abbrev pub stop_of_broker : BrokerFault → Stop
stop_of_broker broker.Partition = stop.Broker broker.Partition
stop_of_broker broker.NoProgram = stop.Broker broker.NoProgram
stop_of_broker broker.Memory = stop.Memory
stop_of_broker (broker.Catalogue catalogue.Name) = stop.Broker (broker.Catalogue catalogue.Name)
stop_of_broker (broker.Catalogue catalogue.Full) = stop.Broker (broker.Catalogue catalogue.Full)
stop_of_broker (broker.Catalogue (catalogue.Load load)) = stop.Broker (broker.Catalogue (catalogue.Load load))
stop_of_broker (broker.Catalogue catalogue.NoReader) = stop.Broker (broker.Catalogue catalogue.NoReader)
stop_of_broker (broker.Catalogue catalogue.Versions) = stop.Broker (broker.Catalogue catalogue.Versions)
stop_of_broker (broker.Catalogue catalogue.Memory) = stop.Memory
stop_of_broker (broker.Log log.Full) = stop.Broker (broker.Log log.Full)
stop_of_broker (broker.Log log.Closed) = stop.Broker (broker.Log log.Closed)
stop_of_broker (broker.Log log.Clash) = stop.Broker (broker.Log log.Clash)
stop_of_broker (broker.Log log.Memory) = stop.Memory
stop_of_broker (broker.Book (book.Gap expected)) = stop.Broker (broker.Book (book.Gap expected))
stop_of_broker (broker.Book book.Partition) = stop.Broker (broker.Book book.Partition)
stop_of_broker (broker.Book book.Memory) = stop.Memory

-- a script ends because the broker refuses a call with a fault of which this holds
abbrev pub EndsFor : (BrokerFault → Type 0) → Stop → Type 0
EndsFor Holds reason = (fault : BrokerFault) × Holds fault × (reason ≡ stop_of_broker fault)

-- why a script ends whose report is not written to its end
abbrev pub stop_of_report : ReportFault → Stop
stop_of_report report.Write = stop.Output
stop_of_report report.Memory = stop.Memory

-- how a worker ended; the gate of a script's workers stops none
abbrev pub end_of : Ended → Result (Unit {0}) Stop
end_of (ended.Done items) = Ok tt
end_of (ended.Stopped index output) = Ok tt
end_of (ended.Fault fault) = Err (stop_of_broker fault)
end_of ended.NoThread = Err stop.Thread

-- the first end's reason if it has one, else the others'
abbrev pub or_else_ends : Result (Unit {0}) Stop → Result (Unit {0}) Stop → Result (Unit {0}) Stop
or_else_ends (Ok done) others = others
or_else_ends (Err reported) others = Err reported

-- how a script ends whose workers ended so: with the reason of the first worker that did not end its work
abbrev pub end_of_all : List Ended → Result (Unit {0}) Stop
end_of_all [] = Ok tt
end_of_all (first ∷ others) = or_else_ends (end_of first) (end_of_all others)

-- why a script ends at a program file that is refused
abbrev pub stop_of_file : FileFault → Stop
stop_of_file file.Short = stop.Program file.Short
stop_of_file file.Version = stop.Program file.Version
stop_of_file file.Table = stop.Program file.Table
stop_of_file file.Lines = stop.Program file.Lines
stop_of_file file.Memory = stop.Memory

-- why a script ends at bytes that begin with no batch
abbrev pub stop_of_fault : BatchFault → Stop
stop_of_fault fault.Short = stop.Batch fault.Short
stop_of_fault fault.Length = stop.Batch fault.Length
stop_of_fault fault.TooLarge = stop.Batch fault.TooLarge
stop_of_fault fault.Magic = stop.Batch fault.Magic
stop_of_fault fault.Crc = stop.Batch fault.Crc
stop_of_fault fault.Attributes = stop.Batch fault.Attributes
stop_of_fault fault.Count = stop.Batch fault.Count
stop_of_fault (fault.Record place) = stop.Batch (fault.Record place)
stop_of_fault fault.Timestamp = stop.Batch fault.Timestamp
stop_of_fault fault.Memory = stop.Memory

-- why a script ends at a file that can't be read
abbrev pub stop_of_unread : List ℕ → Unread → Stop
stop_of_unread name unread.File = stop.File name
stop_of_unread name unread.Memory = stop.Memory

-- why a script ends at a stream of which no further batch is appended; `cause`, where it can't be read
abbrev pub stop_of_stream : Stop → StreamFault → Stop
stop_of_stream cause stream.Read = cause
stop_of_stream cause (stream.Batch fault) = stop_of_fault fault
stop_of_stream cause (stream.Broker fault) = stop_of_broker fault

-- how a command ends that appends a stream
abbrev pub end_of_stream : Stop → Result ℕ StreamFault → Result ⊤ Stop
end_of_stream cause (Ok count) = Ok tt
end_of_stream cause (Err fault) = Err (stop_of_stream cause fault)

-- bytes couldn't be read: a file couldn't, or memory ran out
abbrev pub IsUnread : Stop → Type 0
IsUnread (stop.File name) = ⊤
IsUnread stop.Memory = ⊤
IsUnread (stop.Line fault) = ⊥
IsUnread (stop.Program fault) = ⊥
IsUnread (stop.Broker fault) = ⊥
IsUnread (stop.Batch fault) = ⊥
IsUnread stop.Output = ⊥
IsUnread stop.Thread = ⊥

-- a text couldn't be printed: standard output couldn't be written, or memory ran out
abbrev pub IsUnwritten : Stop → Type 0
IsUnwritten stop.Output = ⊤
IsUnwritten stop.Memory = ⊤
IsUnwritten (stop.Line fault) = ⊥
IsUnwritten (stop.Program fault) = ⊥
IsUnwritten (stop.Broker fault) = ⊥
IsUnwritten (stop.Batch fault) = ⊥
IsUnwritten (stop.File name) = ⊥
IsUnwritten stop.Thread = ⊥

-- the status of a script that ends so: the line is refused, or a file, standard output, a thread or memory fails
abbrev pub status_of : Stop → Status
status_of (stop.Line _) = exit.Refused
status_of (stop.Program _) = exit.Refused
status_of (stop.Broker _) = exit.Refused
status_of (stop.Batch _) = exit.Refused
status_of (stop.File _) = exit.Failed
status_of stop.Output = exit.Failed
status_of stop.Thread = exit.Failed
status_of stop.Memory = exit.Failed

-- the status of a call on an image that is refused, or for which memory ran out
abbrev pub status_of_refused : Refused → Status
status_of_refused (refused.Image _) = exit.Refused
status_of_refused refused.Memory = exit.Failed
