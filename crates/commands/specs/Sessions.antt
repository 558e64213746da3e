-- What the lines of a script do to its broker.
use Rattle.std.specs.Prelude.{◌≡◌, ℕ, ◌<◌, ◌≤◌, ◌⊎◌, List, [], ◌∷◌, ◌++◌, length, All, Option, Some, None, is_some}
use Rattle.std.specs.Prelude.{Result, Ok, Err, Bool, true, if◌then◌else◌, IfSome, IfErr, IsErrAnd, ⊤, map}
use Rattle.std.specs.Prelude.{string_bytes}
use Rattle.std.specs.declared.string.String.{String}
use Rattle.std.specs.{Io.KnownBytes.Appends, Str.bytes_eq}
use Rattle.wire_spec.specs.declared.record.Batch.{Batch}
use Rattle.machine_spec.specs.{Image.Program, Image.program_of, declared.helper.Table.Table}
use Rattle.log_spec.specs.Logs.{Records, Marked, Closed, is_closed}
use Rattle.program_file.specs.declared.{fault.FileFault.FileFault, choice.GivenProgram.GivenProgram}
use Rattle.program_file.specs.Choice.{program_in}
use Rattle.part_log.specs.{Parts.Log, Parts.Received, declared.fault.LogFault.LogFault}
use Rattle.part_log.specs.declared.fault.LogFault.TheVariants.{Full, Clash, Memory, Closed as Shut}
use Rattle.catalogue.specs.{Finders.Seen, Versions.Version}
use Rattle.broker.specs.{Answers.AppendsTo, Layouts.Layout, Fetches.IsFetch, Fetches.IsFetchFault, Streams.IsReceiptOf}
use Rattle.broker.specs.Deployments.{LoadIs, DeployIs, IsNoReader}
use Rattle.broker.specs.declared.{ended.Ended.Ended, fault.BrokerFault.BrokerFault}
use Rattle.broker.specs.declared.fault.BrokerFault.TheVariants.{Partition as Absent, Log as LogRefuses}
use Rattle.script.specs.{declared.command.Command.Command, declared.command.FileWord.FileWord}
use Rattle.script.specs.{declared.fault.ScriptFault.ScriptFault, Faults.fault_of}
use Rattle.script.specs.declared.command.Command.TheVariants.{Partitions, Load, Deploy, Put, Append, Close, Fetch, Go}
use Rattle.script.specs.declared.fault.ScriptFault.TheVariants.{Syntax}
use Rattle.script.specs.Texts.{load_line, deploy_line, close_line, fetch_line}
use Rattle.report.specs.Snapshots.{Gathered, IsGathered, IsGatherFault}
use Rattle.report.specs.{Texts.report_text, Writes.Writes}
use Rattle.commands.specs.{declared.stop.Stop.Stop, Appends.line_of, Appends.unread_of, Appends.AppendDoes}
use Rattle.commands.specs.{Given.Gives, Puts.put_batch, Stops.EndsFor, Stops.end_of_all, Stops.IsUnwritten}
use Rattle.commands.specs.Stops.{stop_of_file}
use Rattle.commands.specs.declared.stop.Stop.TheVariants as stop

-- a broker has `inputs` input partitions, with `cells` cells each, and `outputs` output partitions
pub record IsMade (inputs outputs cells : ℕ) (parts : Layout) : Type 0 where
  pub inputs_are : length parts.cells ≡ inputs
  pub outputs_are : parts.outputs ≡ outputs
  pub cells_are : All (λ names. length names ≡ cells) parts.cells

-- The first command of a script makes the partitions that it names.
abbrev pub Begins : Option Command → Layout → Type 0
Begins (Some (Partitions inputs outputs cells)) parts = IsMade inputs outputs cells parts
Begins (Some (Load name source table)) parts = ⊥
Begins (Some (Deploy input name)) parts = ⊥
Begins (Some (Put input timestamp key value)) parts = ⊥
Begins (Some (Append input source)) parts = ⊥
Begins (Some (Close input)) parts = ⊥
Begins (Some (Fetch output place max)) parts = ⊥
Begins (Some Go) parts = ⊥
Begins None parts = ⊥

-- a receipt of a mark of this version of the name
abbrev pub IsMark : ℕ → List ℕ → ℕ → Received → Type 0
IsMark input name version receipt = (program : Program) × IsReceiptOf input (Marked name version program) receipt

-- ---- What contracts see of a session, and what lines change

-- what lines do to a session: how many input partitions its broker has, and each name that the script loaded, with what
-- is known of it
pub record Scripted : Type 0 where
  pub inputs : ℕ
  pub loaded : List (List ℕ × Version)

-- what contracts see of a session: what lines do to it, and the log that refused an item, as far as it shows why
pub record Running : Type 0 where
  pub script : Scripted
  pub refusing : Option Log

-- what lines do to a session, of these parts
abbrev pub scripted : ℕ → List (List ℕ × Version) → Scripted
scripted inputs loaded = record { inputs = inputs; loaded = loaded }

-- a session of these parts
abbrev pub session_of : ℕ → List (List ℕ × Version) → Option Log → Running
session_of inputs loaded refusing = record { script = scripted inputs loaded; refusing = refusing }

-- these entries of a map, by their texts
abbrev pub by_text : {Y : Type 0} → List (String Y × Version) → List (List ℕ × Version)
by_text entries = map (λ entry. (string_bytes entry.0, entry.1)) entries

-- what is known of a name
abbrev pub known_of : List (List ℕ × Version) → List ℕ → Option Version
known_of [] name = None
known_of (entry ∷ loaded) name = if bytes_eq name entry.0 then Some entry.1 else known_of loaded name

-- what is known of a name is a version of that name
abbrev pub AreOfNames : List (List ℕ × Version) → Type 0
AreOfNames loaded = (name : List ℕ) → IfSome (known_of loaded name) (λ known. known.name ≡ name)

-- a version is known of its name, and of other names what was known before
pub record Learns (known : Version) (old new : Scripted) : Type 0 where
  pub inputs_are : new.inputs ≡ old.inputs
  pub known_are : (name : List ℕ) → known_of new.loaded name
      ≡ (if bytes_eq known.name name then Some known else known_of old.loaded name)

-- what stays while lines are done: the cells of the broker's input partitions, how many output partitions it has, and
-- what is known of files
pub record Setting : Type 0 where
  pub cells : ℕ → List ℕ
  pub outputs : ℕ
  pub files : List ℕ → Option (List ℕ)

-- a setting of these parts
abbrev pub setting : (ℕ → List ℕ) → ℕ → (List ℕ → Option (List ℕ)) → Setting
setting cells outputs files = record { cells = cells; outputs = outputs; files = files }

-- what lines change: the session, the receipts of what was appended, and what standard output holds, if that is known
pub record State : Type 0 where
  pub session : Scripted
  pub receipts : List Received
  pub printed : Option (List ℕ)

-- a state of these parts
abbrev pub state : Scripted → List Received → Option (List ℕ) → State
state session receipts printed = record { session = session; receipts = receipts; printed = printed }

-- ---- How a line ends

-- Nothing was printed, and a line is refused for a reason of which `Why` holds, or because memory ran out.
abbrev pub Refused : (Why : Stop → Type 0) → Option (List ℕ) → Option (List ℕ) → Result ⊤ Stop → Type 0
Refused Why before after result = (after ≡ before) × IsErrAnd result (λ reason. (reason ≡ stop.Memory) ⊎ Why reason)

-- A text was printed, or it couldn't be; then nothing is said of standard output.
abbrev pub IsPrinted : Option (List ℕ) → Option (List ℕ) → List ℕ → Result ⊤ Stop → Type 0
IsPrinted before after text (Ok done) = Appends before after text
IsPrinted before after text (Err reason) = IsUnwritten reason

-- one receipt was added to a list, and this holds of it
abbrev pub AddsOne : (Received → Type 0) → List Received → List Received → Type 0
AddsOne Holds old new = (receipt : Received) × Holds receipt × (new ≡ old ++ receipt ∷ [])

-- A line appends one item to the log of an input partition, and this holds of its receipt; or it appends nothing and is
-- refused for a reason of which `Why` holds.
abbrev pub DoesOne : ℕ → ℕ → (Why : Stop → Type 0) → (Holds : Received → Type 0) → List Received → List Received →
    Option (List ℕ) → Option (List ℕ) → Result ⊤ Stop → Type 0
DoesOne inputs input Why Holds old new before after result =
    ((new ≡ old) × Refused Why before after result) ⊎ ((input < inputs) × AddsOne Holds old new)

-- ---- Load

-- An image was loaded under a name as a program of a helper table, as the core's event of a load does it; what was
-- loaded is known from then on, and this is its line.
pub record Loads (name image : List ℕ) (table : Table) (old new : Scripted) (line : List ℕ) : Type 0 where
  pub known : Version
  pub loaded : LoadIs name (program_of image table) (Ok (known.number, known))
  pub learned : Learns known old new
  pub line_is : line ≡ load_line name known.number

-- why no program is loaded under a name: it can't be read, or it is a program file that is refused, or the broker
-- refuses to load it
abbrev pub LoadFails : (List ℕ → Option (List ℕ)) → List ℕ → FileWord → Option Table → Stop → Type 0
LoadFails files name source named reason = (reason ≡ unread_of source)
    ⊎ (((fault : FileFault) × Gives files source named (Err fault) × (reason ≡ stop_of_file fault))
    ⊎ ((given : GivenProgram) × Gives files source named (Ok given)
    × EndsFor (λ fault. LoadIs name (program_in given) (Err fault)) reason))

-- What `load` does: it loads the program that it names, and prints its line.
abbrev pub LoadDoes : (List ℕ → Option (List ℕ)) → List ℕ → FileWord → Option Table → Scripted → Scripted →
    Option (List ℕ) → Option (List ℕ) → Result ⊤ Stop → Type 0
LoadDoes files name source named old new before after result =
    ((new ≡ old) × Refused (LoadFails files name source named) before after result)
    ⊎ ((given : GivenProgram) × (line : List ℕ) × Gives files source named (Ok given)
    × Loads name given.image given.table old new line × IsPrinted before after line result)

-- ---- Deploy, put and close

-- a mark of the name was appended to the log of the input partition, and its line printed
abbrev pub Deploys : ℕ → List ℕ → Option (List ℕ) → Option (List ℕ) → Result ⊤ Stop → Received → Type 0
Deploys input name before after result receipt =
    (version : ℕ) × IsMark input name version receipt
    × IsPrinted before after (deploy_line input (length receipt.before.items) name version) result

-- A name of which this is known is not deployed, by a finder that is seen so before and after.
pub record IsUndeployed (inputs input : ℕ) (name : List ℕ) (known : Option Version) (fault : BrokerFault) : Type 0 where
  pub version : Version
  pub version_is : known ≡ Some version
  pub name_is : version.name ≡ name
  pub before : Seen
  pub after : Seen
  pub fails : DeployIs inputs input name version before (Err fault) after

-- Why no mark is appended of a name of which this is known: there is no such input partition, or the catalogue gives no
-- finder, or the broker deploys no version of the name.
abbrev pub IsMarkFault : ℕ → ℕ → List ℕ → Option Version → BrokerFault → Type 0
IsMarkFault inputs input name known fault = ((fault ≡ Absent) × (inputs ≤ input))
    ⊎ (((input < inputs) × IsNoReader fault) ⊎ IsUndeployed inputs input name known fault)

-- What `deploy` does with a name of which this is known: it appends a mark of the name, and prints its line.
abbrev pub DeployDoes : ℕ → ℕ → List ℕ → Option Version → List Received → List Received → Option (List ℕ) →
    Option (List ℕ) → Result ⊤ Stop → Type 0
DeployDoes inputs input name known old new before after result =
    DoesOne inputs input (EndsFor (IsMarkFault inputs input name known)) (Deploys input name before after result)
    old new before after result

-- a batch was appended to the log of the input partition, and its line printed
abbrev pub Puts : ℕ → Batch → Option (List ℕ) → Option (List ℕ) → Result ⊤ Stop → Received → Type 0
Puts input batch before after result receipt = IsReceiptOf input (Records batch) receipt
    × IsPrinted before after (line_of input receipt) result

-- What `put` does with a batch: it appends the batch, and prints its line.
abbrev pub PutDoes : ℕ → ℕ → Batch → List Received → List Received → Option (List ℕ) → Option (List ℕ) → Result ⊤ Stop →
    Type 0
PutDoes inputs input batch old new before after result =
    DoesOne inputs input (EndsFor (λ fault. AppendsTo inputs input (Records batch) (Err fault)))
    (Puts input batch before after result) old new before after result

-- the end of the log of the input partition was appended, and its line printed
abbrev pub Closes : ℕ → Option (List ℕ) → Option (List ℕ) → Result ⊤ Stop → Received → Type 0
Closes input before after result receipt = IsReceiptOf input Closed receipt
    × IsPrinted before after (close_line input (length receipt.before.items)) result

-- What `close` does: it appends the end of the log, and prints its line.
abbrev pub CloseDoes : ℕ → ℕ → List Received → List Received → Option (List ℕ) → Option (List ℕ) → Result ⊤ Stop →
    Type 0
CloseDoes inputs input old new before after result =
    DoesOne inputs input (EndsFor (λ fault. AppendsTo inputs input Closed (Err fault)))
    (Closes input before after result) old new before after result

-- ---- Fetch and go

-- What an output partition has from a place on, at most `max` rows, is one batch, which was printed.
pub record Fetches (cells : ℕ → List ℕ) (inputs outputs output place max : ℕ) (before after : Option (List ℕ))
    (result : Result ⊤ Stop) : Type 0 where
  pub found : Option (List ℕ)
  pub fetched : IsFetch cells inputs outputs output place max found
  pub printed : IsPrinted before after (fetch_line found) result

-- What `fetch` does: it prints rows of an output partition.
abbrev pub FetchDoes : (ℕ → List ℕ) → ℕ → ℕ → ℕ → ℕ → ℕ → Option (List ℕ) → Option (List ℕ) → Result ⊤ Stop → Type 0
FetchDoes cells inputs outputs output place max before after result =
    Refused (EndsFor (IsFetchFault outputs output)) before after result
    ⊎ Fetches cells inputs outputs output place max before after result

-- The report of a snapshot of `inputs` input and `outputs` output partitions was printed, or a beginning of it, where
-- it can't be printed to its end.
pub record Reports (inputs outputs : ℕ) (before after : Option (List ℕ)) (result : Result ⊤ Stop) : Type 0 where
  pub snapshot : Gathered
  pub gathered : IsGathered inputs outputs snapshot
  pub printed : Writes before after (report_text snapshot) result
  pub ends : IfErr result IsUnwritten

-- why there is no report: a worker did not end its work, or no snapshot can be taken
abbrev pub RunFails : ℕ → Stop → Type 0
RunFails inputs reason = ((ends : List Ended) × (length ends ≡ inputs) × (end_of_all ends ≡ Err reason))
    ⊎ EndsFor IsGatherFault reason

-- What `go` does: it runs the programs, and prints the report.
abbrev pub GoDoes : ℕ → ℕ → Option (List ℕ) → Option (List ℕ) → Result ⊤ Stop → Type 0
GoDoes inputs outputs before after result =
    Refused (RunFails inputs) before after result ⊎ Reports inputs outputs before after result

-- ---- A line

-- What a command does that is no fault of its line.
abbrev pub Does : Setting → Command → State → State → Result ⊤ Stop → Type 0
Does place (Load name source table) old new result = (new.receipts ≡ old.receipts)
    × LoadDoes place.files name source table old.session new.session old.printed new.printed result
Does place (Deploy input name) old new result = (new.session ≡ old.session)
    × DeployDoes old.session.inputs input name (known_of old.session.loaded name) old.receipts new.receipts
    old.printed new.printed result
Does place (Put input timestamp key value) old new result = (new.session ≡ old.session)
    × PutDoes old.session.inputs input (put_batch timestamp key value) old.receipts new.receipts old.printed new.printed
    result
Does place (Append input source) old new result = (new.session ≡ old.session)
    × AppendDoes old.session.inputs place.files input source old.receipts new.receipts old.printed new.printed result
Does place (Close input) old new result = (new.session ≡ old.session)
    × CloseDoes old.session.inputs input old.receipts new.receipts old.printed new.printed result
Does place (Fetch output from max) old new result = (new.session ≡ old.session) × (new.receipts ≡ old.receipts)
    × FetchDoes place.cells old.session.inputs place.outputs output from max old.printed new.printed result
Does place Go old new result = (new.session ≡ old.session) × (new.receipts ≡ old.receipts)
    × GoDoes old.session.inputs place.outputs old.printed new.printed result
Does place (Partitions inputs outputs cells) old new result = ⊥

-- whether a program is known of the name that a command deploys, if it deploys one
abbrev pub is_loaded : List (List ℕ × Version) → Command → Bool
is_loaded loaded (Deploy input name) = is_some (known_of loaded name)
is_loaded loaded (Load name source table) = true
is_loaded loaded (Put input timestamp key value) = true
is_loaded loaded (Append input source) = true
is_loaded loaded (Close input) = true
is_loaded loaded (Fetch output from max) = true
is_loaded loaded Go = true
is_loaded loaded (Partitions inputs outputs cells) = true

-- the fault of a line of a script that has begun: it is no command, or its command has this fault
abbrev pub line_fault : List (List ℕ × Version) → Option Command → Option ScriptFault
line_fault loaded None = Some Syntax
line_fault loaded (Some command) = fault_of command true (is_loaded loaded command)

-- A line is refused with its fault, or because memory ran out, and nothing is done.
pub record RefusesLine (said : Option Command) (old new : State) (result : Result ⊤ Stop) : Type 0 where
  pub session_same : new.session ≡ old.session
  pub receipts_same : new.receipts ≡ old.receipts
  pub refused : Refused (λ reason. (fault : ScriptFault) × (line_fault old.session.loaded said ≡ Some fault)
      × (reason ≡ stop.Line fault)) old.printed new.printed result

-- A line has no fault, and does what its command does.
abbrev pub CommandDoes : Setting → Option Command → State → State → Result ⊤ Stop → Type 0
CommandDoes place (Some command) old new result = (fault_of command true (is_loaded old.session.loaded command) ≡ None)
    × Does place command old new result
CommandDoes place None old new result = ⊥

-- What a line does: it is refused with its fault, or it has none and does what its command does.
abbrev pub LineDoes : Setting → Option Command → State → State → Result ⊤ Stop → Type 0
LineDoes place said old new result = RefusesLine said old new result ⊎ CommandDoes place said old new result

-- ---- Why a log refuses an item

-- the input partition to whose log a command appends, if it appends to one
abbrev pub input_of : Command → Option ℕ
input_of (Deploy input name) = Some input
input_of (Put input timestamp key value) = Some input
input_of (Append input source) = Some input
input_of (Close input) = Some input
input_of (Load name source table) = None
input_of (Fetch output from max) = None
input_of Go = None
input_of (Partitions inputs outputs cells) = None

-- A log shows why it refuses an item: it has as many items as cells, or its end is one of them.
abbrev pub Shows : (ℕ → List ℕ) → Log → LogFault → Type 0
Shows cells log Full = length log.items ≡ length (cells log.partition)
Shows cells log Clash = ⊥
Shows cells log Memory = ⊥
Shows cells log Shut = is_closed log.items ≡ true

-- The log of an input partition is known that shows why it refuses an item; of a clash nothing is.
abbrev pub IsShown : (ℕ → List ℕ) → Option Log → ℕ → LogFault → Type 0
IsShown cells known input fault = (fault ≡ Clash)
    ⊎ ((log : Log) × (known ≡ Some log) × (log.partition ≡ input) × Shows cells log fault)

-- Where a line ends because the log of this input partition refuses an item, a log is known that shows why.
abbrev pub ShowsWhy : (ℕ → List ℕ) → Option Log → Option ℕ → Result ⊤ Stop → Type 0
ShowsWhy cells known input result = (at : ℕ) (fault : LogFault) → input ≡ Some at →
    result ≡ Err (stop.Broker (LogRefuses fault)) → IsShown cells known at fault

-- the input partition to whose log a line appends, if it appends to one
abbrev pub target_of : Option Command → Option ℕ
target_of None = None
target_of (Some command) = input_of command

-- A line ends as its command did, or with a clash where the log refused the item that it appends.
abbrev pub EndsAs : Option ℕ → Result ⊤ Stop → Result ⊤ Stop → Type 0
EndsAs input done result = (result ≡ done)
    ⊎ ((at : ℕ) × (fault : LogFault) × (input ≡ Some at) × (done ≡ Err (stop.Broker (LogRefuses fault)))
    × (result ≡ Err (stop.Broker (LogRefuses Clash))))
