-- What the calls of C's answer. A number is 0 where the call did its work.
use Rattle.std.specs.Prelude.{◌≡◌, ◌≢◌, ◌⊎◌, ℕ, zero, suc, ◌%◌, pos, Bool, true, false, not, ◌&&◌, ◌==◌, nat_le, nat_lt}
use Rattle.std.specs.Prelude.{if◌then◌else◌, List, [], ◌∷◌, ◌++◌, length, Option, Some, None, option_map}
use Rattle.std.specs.Prelude.{Result, Ok, Err, string_bytes}
use Rattle.wire_spec.specs.{declared.record.Header.Header, declared.record.Record.Record, RecordSpelling.RecordFits}
use Rattle.wire_spec.specs.declared.limits.TheConstants.{MAX_KEY, MAX_VALUE, TIMESTAMP_END}
use Rattle.machine_spec.specs.declared.{outcome.Outcome.Outcome, outcome.Place.Place, helper.Table.Table}
use Rattle.machine_spec.specs.{Image.Program, Machine.Input, Meaning.Means}
use Rattle.program_file.specs.declared.{fault.FileFault.FileFault, choice.GivenProgram.GivenProgram}
use Rattle.program_file.specs.Choice.{given_program, program_in as program_given}
use Rattle.verifier_spec.specs.{declared.fault.LoadFault.LoadFault, Loading.IsAccepted, Loading.IsRefusedWith}
use Rattle.klog_c.specs.{Numbers.fault_number, Numbers.fault_place, Numbers.file_number, RecordParts.part_of}
use Rattle.klog_c.specs.RecordParts.{is_part_fitting}
use Rattle.klog_c.specs.{Headers.header_of, Headers.header_fault}
use Rattle.klog_c.specs.declared.faults.TheConstants.{MEMORY, KIND, LENGTH}
use Rattle.c_outcomes.specs.declared.numbers.TheConstants.{RANGE}
use Rattle.klog_c.specs.declared.{object.Object.Object, running.Asked.Asked}
use Rattle.klog_c.specs.declared.object.Object.TheVariants as object

-- ---- what a handle holds

-- the program in a handle; KIND where it contains nothing, or something else
abbrev pub program_in : Option Object → Result Program ℕ
program_in (Some (object.Program program)) = Ok program
program_in (Some (object.Outcome outcome)) = Err KIND
program_in (Some (object.Text text)) = Err KIND
program_in (Some (object.Batches made)) = Err KIND
program_in (Some (object.Headers headers)) = Err KIND
program_in None = Err KIND

-- the outcome in a handle; else KIND
abbrev pub outcome_in : Option Object → Result Outcome ℕ
outcome_in (Some (object.Program program)) = Err KIND
outcome_in (Some (object.Outcome outcome)) = Ok outcome
outcome_in (Some (object.Text text)) = Err KIND
outcome_in (Some (object.Batches made)) = Err KIND
outcome_in (Some (object.Headers headers)) = Err KIND
outcome_in None = Err KIND

-- the bytes of the text in a handle; else KIND
abbrev pub text_in : Option Object → Result (List ℕ) ℕ
text_in (Some (object.Program program)) = Err KIND
text_in (Some (object.Outcome outcome)) = Err KIND
text_in (Some (object.Text text)) = Ok (string_bytes text)
text_in (Some (object.Batches made)) = Err KIND
text_in (Some (object.Headers headers)) = Err KIND
text_in None = Err KIND

-- the headers that were added; to a handle of nothing none was, and of something else it is KIND
abbrev pub headers_in : Option Object → Result (List Header) ℕ
headers_in (Some (object.Program program)) = Err KIND
headers_in (Some (object.Outcome outcome)) = Err KIND
headers_in (Some (object.Text text)) = Err KIND
headers_in (Some (object.Batches made)) = Err KIND
headers_in (Some (object.Headers headers)) = Ok headers
headers_in None = Ok []

-- the number of an object's kind
abbrev pub kind_of : Object → ℕ
kind_of (object.Program program) = 0
kind_of (object.Outcome outcome) = 1
kind_of (object.Text text) = 2
kind_of (object.Batches made) = 3
kind_of (object.Headers headers) = 4

-- a handle that may be filled with an object of a kind: it holds nothing or one of the same kind
abbrev pub takes_kind : Option Object → ℕ → Bool
takes_kind None kind = true
takes_kind (Some held) kind = kind_of held == kind

-- a handle that may be filled with this object
abbrev pub takes : Option Object → Object → Bool
takes before object = takes_kind before (kind_of object)

-- a fault is returned, and the handle is as it was
abbrev pub Fails : ℕ → Option Object → Option Object → ℕ → Type 0
Fails fault before after number = (after ≡ before) × (number ≡ fault)

-- the handle holds the object, whose kind it takes; or it is as it was
abbrev pub Fills : Object → Option Object → Option Object → ℕ → Type 0
Fills object before after zero = (after ≡ Some object) × (takes before object ≡ true)
Fills object before after (suc number) =
    (after ≡ before) × (suc number ≢ MEMORY → (suc number ≡ KIND) × (takes before object ≡ false))

-- ---- loads

-- the helper table that a number names: none by 0; other numbers than 0 to 2 are out of their range
abbrev pub table_with_number : ℕ → Option (Option Table)
table_with_number number = if number == 0 then Some None else if number == 1 then Some (Some Table.One) else
    if number == 2 then Some (Some Table.Two) else None

-- what bytes give as a program, with a number that names a helper table, if the number is in its range
abbrev pub given_with : List ℕ → ℕ → Option (Result GivenProgram FileFault)
given_with bytes number = option_map (λ named. given_program named bytes) (table_with_number number)

-- the place of a refusal, by its number; where memory ran out the place is as it was
abbrev pub TellsPlace : LoadFault → ℕ → ℕ → ℕ → Type 0
TellsPlace fault before after number =
    ((number ≡ MEMORY) × (after ≡ before)) ⊎ ((number ≢ MEMORY) × (after ≡ fault_place fault))

-- A program is refused: the number, which is not that of memory, and the place are those of its fault.
pub record Refuses (program : Program) (place number : ℕ) : Type 0 where
  pub fault : LoadFault
  pub is_refused : IsRefusedWith program fault
  pub not_memory : number ≢ MEMORY
  pub number_is : number ≡ fault_number fault
  pub place_is : place ≡ fault_place fault

-- The program is accepted, and the handle is filled with it; or memory ran out, or the program is refused. A refusal of
-- its image alone has a place; else that is as it was.
abbrev pub LoadsProgram : Program → Option Object → Option Object → ℕ → ℕ → ℕ → Type 0
LoadsProgram program before after place_before place number =
    (IsAccepted program × Fills (object.Program program) before after number × (place ≡ place_before))
    ⊎ (Fails MEMORY before after number × (place ≡ place_before))
    ⊎ ((after ≡ before) × Refuses program place number)

-- The same of what bytes give. A program file that is refused has its fault, and MEMORY where memory ran out.
abbrev pub LoadsGiven : Result GivenProgram FileFault → Option Object → Option Object → ℕ → ℕ → ℕ → Type 0
LoadsGiven (Ok given) before after place_before place number =
    LoadsProgram (program_given given) before after place_before place number
LoadsGiven (Err fault) before after place_before place number =
    (Fails (file_number fault) before after number ⊎ Fails MEMORY before after number) × (place ≡ place_before)

-- The same where the number of a helper table may be out of its range.
abbrev pub Loads : Option (Result GivenProgram FileFault) → Option Object → Option Object → ℕ → ℕ → ℕ → Type 0
Loads None before after place_before place number = Fails RANGE before after number × (place ≡ place_before)
Loads (Some given) before after place_before place number = LoadsGiven given before after place_before place number

-- the other handle is filled with the same program, if there is one
abbrev pub Shares : Result Program ℕ → Option Object → Option Object → ℕ → Type 0
Shares (Err fault) before after number = Fails fault before after number
Shares (Ok program) before after number = Fills (object.Program program) before after number

-- ---- headers

-- the handle holds one header more; or it is as it was, also where it holds something else
abbrev pub AddsHeader :
    Result (List Header) ℕ → List ℕ → Bool → List ℕ → Option Object → Option Object → ℕ → Type 0
AddsHeader (Err fault) key is_null value before after number = Fails fault before after number
AddsHeader (Ok held) key is_null value before after zero =
    (after ≡ Some (object.Headers (held ++ header_of key is_null value ∷ [])))
    × (header_fault (length held) key is_null value ≡ 0)
AddsHeader (Ok held) key is_null value before after (suc number) = (after ≡ before)
    × (suc number ≢ MEMORY → suc number ≡ header_fault (length held) key is_null value)

-- ---- runs

-- where a record is, for the machine
abbrev pub place_of : Asked → Place
place_of asked = record {
  partition = asked.partition;
  offset = asked.offset;
  timestamp = asked.timestamp;
  outputs = asked.outputs;
}

-- a place in the ranges of a broker's, and a number that says which parts are null
abbrev pub is_in_range : Asked → Bool
is_in_range asked =
    nat_lt asked.partition 64 && nat_lt asked.offset TIMESTAMP_END && nat_lt asked.timestamp TIMESTAMP_END
    && nat_le 1 asked.outputs && nat_le asked.outputs 64 && nat_le asked.nulls 3

-- The key is null, by the number that says which parts are null.
abbrev pub is_key_null : ℕ → Bool
is_key_null nulls = nulls % 2 == 1

-- The value is null, by the number that says which parts are null.
abbrev pub is_value_null : ℕ → Bool
is_value_null nulls = nat_le 2 nulls

-- Neither the key nor the value of a record is too long; a null one never is.
abbrev pub are_parts_fitting : Asked → List ℕ → List ℕ → Bool
are_parts_fitting asked key value =
    is_part_fitting (is_key_null asked.nulls) key MAX_KEY && is_part_fitting (is_value_null asked.nulls) value MAX_VALUE

-- the record that a program runs on
abbrev pub record_of : Asked → List ℕ → List ℕ → List Header → Record
record_of asked key value headers = record {
  timestamp_delta = pos 0;
  key = part_of (is_key_null asked.nulls) key;
  value = part_of (is_value_null asked.nulls) value;
  headers = headers;
}

-- what a program is run on: the record, and where it is
abbrev pub input_of : Asked → List ℕ → List ℕ → List Header → Input
input_of asked key value headers = record { given = record_of asked key value headers; place = place_of asked }

-- the first fault of what a run is given, or 0
abbrev pub run_fault : Asked → List ℕ → List ℕ → ℕ
run_fault asked key value =
    if not (is_in_range asked) then RANGE else if not (are_parts_fitting asked key value) then LENGTH else 0

-- the handle is filled with what the program means on a record; or memory ran out
abbrev pub RunsTo : Program → Input → Option Object → Option Object → ℕ → Type 0
RunsTo program input before after number =
    ((outcome : Outcome) × (n : ℕ) × Means program input outcome n × Fills (object.Outcome outcome) before after number)
    ⊎ Fails MEMORY before after number

-- the same where a run is given nothing that has a fault; else the first fault is returned
abbrev pub RunsUnless : ℕ → Program → Input → Option Object → Option Object → ℕ → Type 0
RunsUnless zero program input before after number = RunsTo program input before after number
RunsUnless (suc fault) program input before after number = Fails (suc fault) before after number

-- the same, where there may be no program, or no headers
abbrev pub Runs :
    Result Program ℕ → Result (List Header) ℕ → Asked → List ℕ → List ℕ → Option Object → Option Object → ℕ → Type 0
Runs (Err fault) headers asked key value before after number = Fails fault before after number
Runs (Ok program) (Err fault) asked key value before after number = Fails fault before after number
Runs (Ok program) (Ok headers) asked key value before after number =
    RunsUnless (run_fault asked key value) program (input_of asked key value headers) before after number

-- ---- between the two

-- this record, where a run is given nothing that has a fault, or memory ran out; else the first fault
abbrev pub RecordUnless : ℕ → Record → Result Record ℕ → Type 0
RecordUnless zero wanted (Ok given) = (given ≡ wanted) × RecordFits given
RecordUnless zero wanted (Err number) = number ≡ MEMORY
RecordUnless (suc fault) wanted given = given ≡ Err (suc fault)

-- the same of the record of a run
abbrev pub GivesRecord : Result (List Header) ℕ → Asked → List ℕ → List ℕ → Result Record ℕ → Type 0
GivesRecord (Err fault) asked key value given = given ≡ Err fault
GivesRecord (Ok headers) asked key value given =
    RecordUnless (run_fault asked key value) (record_of asked key value headers) given

-- a run on a record, or on none, whose fault is then returned; there may be no program
abbrev pub RunsGiven : Result Program ℕ → Place → Result Record ℕ → Option Object → Option Object → ℕ → Type 0
RunsGiven (Err fault) place given before after number = Fails fault before after number
RunsGiven (Ok program) place (Err fault) before after number = Fails fault before after number
RunsGiven (Ok program) place (Ok given) before after number =
    RunsTo program (record { given = given; place = place }) before after number
