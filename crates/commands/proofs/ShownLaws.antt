-- What the trail of a log shows that refuses an item, and that a clash may stand for the refusal.
use Rattle.std.proofs.Common.{◌≡◌, ℕ, zero, suc, List, [], ◌∷◌, true, refl, sym, subst}
use Rattle.std.proofs.Common.{inl, inr}
use Rattle.std.proofs.Common.{Option, Some, None, Result, Ok, Err, IsErrAnd, IfSome, slice_get, get_or, length, ◌<◌}
use Rattle.std.specs.Prelude.{⊤}
use Rattle.log_spec.specs.Logs.{Item as LogItem, Closed as Shut, is_end, is_closed}
use Rattle.std.proofs.{Math.Bool.or-true, lemmas.Option.slice_get-get_or}
use Rattle.part_log.specs.Parts.{Log, Received, CellNote, Reads, note_of}
use Rattle.part_log.specs.declared.fault.LogFault.{LogFault}
use Rattle.part_log.specs.declared.fault.LogFault.TheVariants as log
use Rattle.catalogue.specs.Versions.{Version}
use Rattle.broker.specs.{declared.fault.BrokerFault.BrokerFault}
use Rattle.broker.specs.declared.fault.BrokerFault.TheVariants as broker
use Rattle.catalogue.specs.declared.fault.CatFault.TheVariants as catalogue
use Rattle.out_book.specs.declared.fault.BookFault.TheVariants as book
use Rattle.script.specs.{declared.command.Command.Command, declared.fault.ScriptFault.ScriptFault, Faults.fault_of}
use Rattle.script.specs.declared.command.Command.TheVariants.{Deploy, Put, Append, Close}
use Rattle.commands.specs.{declared.stop.Stop.Stop, Stops.stop_of_broker, Stops.EndsFor}
use Rattle.commands.specs.declared.stop.Stop.TheVariants as stop
use Rattle.commands.specs.Sessions.{Scripted, Setting, State, state, IsMarkFault, DoesOne, Does, LineDoes}
use Rattle.commands.specs.Sessions.{EndsAs, ShowsWhy, input_of, is_loaded, target_of}

-- a log that has its end at some place is closed
pub closed_at : (items : List LogItem) (index : ℕ) (item : LogItem) → slice_get items index ≡ Some item →
    is_end item ≡ true → is_closed items ≡ true
closed_at [] index item at is = absurd cc
closed_at (first ∷ items) zero item at is = let here : is_end first ≡ true = cc in rw here
closed_at (first ∷ items) (suc index) item at is = rw (closed_at items index item at is) (or-true (is_end first))

closed_known : (items : List LogItem) (index : ℕ) (found : Option LogItem) (item : LogItem) →
    slice_get items index ≡ found → slice_get items index ≡ Some (get_or items index Shut) →
    IfSome found (λ known. known ≡ item) → is_end item ≡ true → is_closed items ≡ true
closed_known items index None item is some known end = absurd cc
closed_known items index (Some other) item is some known end = closed_at items index item (rw known at is) end

-- the item of a trail's note that a read finds is the log's end
pub closed_by : (items : List LogItem) (partition index : ℕ) (item : LogItem) (before after : CellNote) →
    before ≡ note_of partition index (slice_get items index) → index < length items →
    Reads before (Some item) after → is_end item ≡ true → is_closed items ≡ true
closed_by items partition index item before after note within reads is =
    closed_known items index (slice_get items index) item refl (slice_get-get_or items index Shut within)
    (subst (λ (n : CellNote). IfSome n.known (λ known. known ≡ item)) note reads.1) is

-- ---- A clash stands for another refusal of a log

-- a stop names the fault of which it is
fault_is : (one other : BrokerFault) → stop.Broker one ≡ stop_of_broker other → one ≡ other
fault_is one broker.Memory is = absurd cc
fault_is one (broker.Catalogue catalogue.Memory) is = absurd cc
fault_is one (broker.Log log.Memory) is = absurd cc
fault_is one (broker.Book book.Memory) is = absurd cc
fault_is one other is = cc

abbrev clash : LogFault → Result ⊤ Stop
clash fault = Err (stop.Broker (broker.Log fault))

one_clashes : (inputs input : ℕ) {Holds : BrokerFault → Type 0} {Is Was : Received → Type 0} {fault : LogFault}
    {old new : List Received} {before after : Option (List ℕ)} →
    DoesOne inputs input (EndsFor Holds) Was old new before after (clash fault) →
    (Holds (broker.Log fault) → Holds (broker.Log log.Clash)) → ((r : Received) → Was r → ⊥) →
    DoesOne inputs input (EndsFor Holds) Is old new before after (clash log.Clash)
one_clashes inputs input (inl (same, (kept, inl memory))) other never = absurd cc
one_clashes inputs input {Holds = Holds} (inl (same, (kept, inr (given, holds, is)))) other never =
    inl (same, (kept, inr (broker.Log log.Clash, other (subst Holds (sym (fault_is _ given is)) holds), refl)))
one_clashes inputs input (inr (there, (receipt, was, added))) other never = absurd (never receipt was)

mark_clashes : (inputs input : ℕ) (name : List ℕ) (known : Option Version) (fault : LogFault) →
    IsMarkFault inputs input name known (broker.Log fault) → IsMarkFault inputs input name known (broker.Log log.Clash)
mark_clashes inputs input name known fault (inl (absent, out)) = absurd cc
mark_clashes inputs input name known fault (inr (inl (there, none))) = absurd none
mark_clashes inputs input name known fault (inr (inr is)) =
    inr (inr (record {
      version = is.version;
      version_is = is.version_is;
      name_is = is.name_is;
      before = is.before;
      after = is.after;
      fails = is.fails;
    }))

-- what a command does whose log refuses its item, it does where it ends with a clash
pub clashes : (place : Setting) (command : Command) (input : ℕ) (fault : LogFault) (old new : State) →
    input_of command ≡ Some input → Does place command old new (clash fault) →
    Does place command old new (clash log.Clash)
clashes place (Deploy input name) at fault old new is (same, does) =
    (same, one_clashes _ _ does (mark_clashes old.session.inputs input name _ fault) (λ receipt was. was.2))
clashes place (Put input timestamp key value) at fault old new is (same, does) =
    (same, one_clashes _ _ does (λ holds. holds) (λ receipt was. was.1))
clashes place (Append input source) at fault old new is (same, does) = (
  same,
  record {
    appends = record {
      bytes = does.appends.bytes;
      known_is = does.appends.known_is;
      rest = does.appends.rest;
      appended = does.appends.appended;
      ends = does.appends.ends;
    };
    printed = does.printed;
  },
)
clashes place (Close input) at fault old new is (same, does) =
    (same, one_clashes _ _ does (λ holds. holds) (λ receipt was. was.1))
clashes place other at fault old new is does = absurd cc

ends_so : (place : Setting) (command : Command) (old new : State) (done result : Result ⊤ Stop) →
    Does place command old new done → EndsAs (input_of command) done result → Does place command old new result
ends_so place command old new done result does (inl is) = rw is does
ends_so place command old new done result does (inr (at, fault, of, was, is)) =
    rw is (clashes place command at fault old new of (rw was at does))

-- a line that has no fault ends as its command did, or with a clash
pub line_ends : (place : Setting) (said : Option Command) (command : Command) (old : State) (was now : Scripted)
    (receipts : List Received) (printed : Option (List ℕ)) (done result : Result ⊤ Stop) → Some command ≡ said →
    fault_of command true (is_loaded old.session.loaded command) ≡ None →
    Does place command old (state was receipts printed) done → now ≡ was → EndsAs (input_of command) done result →
    LineDoes place said old (state now receipts printed) result
line_ends place said command old was now receipts printed done result of none does same ends =
    rw (← of, same) (inr (none, ends_so place command old (state was receipts printed) done result does ends))

-- ---- What is shown of a log that refuses an item

pub shows_why : (cells : ℕ → List ℕ) (known : Option Log) (said : Option Command) (command : Command)
    (result : Result ⊤ Stop) → Some command ≡ said → ShowsWhy cells known (input_of command) result →
    ShowsWhy cells known (target_of said) result
shows_why cells known said command result of why = rw (← of) why

pub memory_shows : (cells : ℕ → List ℕ) (known : Option Log) (input : Option ℕ) (result : Result ⊤ Stop) →
    IsErrAnd result (λ reason. reason ≡ stop.Memory) → ShowsWhy cells known input result
memory_shows cells known input (Ok done) is at fault of ends = absurd is
memory_shows cells known input (Err reason) is at fault of ends = absurd cc

pub line_shows : (cells : ℕ → List ℕ) (known : Option Log) (input : Option ℕ) (fault : ScriptFault) →
    ShowsWhy cells known input (Err (stop.Line fault))
line_shows cells known input fault at other of ends = absurd cc
