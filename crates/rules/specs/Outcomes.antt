-- What becomes of a record by rules: one outcome, by the rule that takes it.
use Rattle.std.specs.Prelude.{ℕ, ◌%◌, Bool, ◌&&◌, ◌==◌, nat_le, if◌then◌else◌, List, [], ◌∷◌, ◌++◌, length}
use Rattle.std.specs.Prelude.{take, drop, slice_range, Option, Some, None, unwrap_or, Result, Ok, Err}
use Rattle.wire_spec.specs.declared.limits.TheConstants.{MAX_VALUE}
use Rattle.wire_spec.specs.declared.{record.Header.Header, record.Record.Record}
use Rattle.machine_spec.specs.declared.{outcome.Emission.Emission, outcome.Outcome.Outcome}
use Rattle.machine_spec.specs.declared.outcome.Outcome.TheVariants.{Kept, Rejected}
use Rattle.machine_spec.specs.{Machine.Input, Machine.bytes_of, Machine.emit_code, Machine.whole_record}
use Rattle.machine_spec.specs.{Machine.no_yield, Machine.bare_record, Machine.with_headers, Machine.header_of}
use Rattle.machine_spec.specs.{Machine.header_refusal, Hashes.hash_of}
use Rattle.rules.specs.declared.{rule.Part.Part, rule.Cut.Cut, rule.Output.Output, rule.AddedHeader.AddedHeader}
use Rattle.rules.specs.declared.rule.Action.{Action}
use Rattle.rules.specs.declared.rule.Output.TheVariants as output
use Rattle.rules.specs.declared.rule.Action.TheVariants as action
use Rattle.rules.specs.{Lines.Line, Meaning.part_bytes, Meaning.chosen}

-- ---- refusals

-- an outcome, unless the code of a refusal that stands before it is not 0: that rejects the record
abbrev pub unless_refused : (code : ℕ) → Outcome → Outcome
unless_refused code outcome = if code == 0 then outcome else Rejected code

-- the record is kept with one emission, unless the machine refuses that by its emit code
abbrev pub outcome_of_emission : Input → Emission → Outcome
outcome_of_emission input emission = unless_refused (emit_code input no_yield emission) (Kept (emission ∷ []))

-- the same with these bytes as its value; where they can't be had, the code of that comes after the emit codes
abbrev pub outcome_with_value : Input → Emission → Result (List ℕ) ℕ → Outcome
outcome_with_value input emission (Ok value) = outcome_of_emission input (record emission { value = Some value })
outcome_with_value input emission (Err code) = unless_refused (emit_code input no_yield emission) (Rejected code)

-- ---- values

-- the bytes of a part; a part that is null or absent has none
abbrev pub bytes_in : Part → Record → List ℕ
bytes_in p given = bytes_of (part_bytes p given)

-- all bytes from one place on and before another one are there
abbrev pub has_range : (from to : ℕ) → List ℕ → Bool
has_range from to bytes = nat_le from to && nat_le to (length bytes)

-- these bytes; 4 where not all of them are there
abbrev pub range_of : (from to : ℕ) → List ℕ → Result (List ℕ) ℕ
range_of from to bytes = if has_range from to bytes then Ok (slice_range bytes from to) else Err 4

-- the bytes of a cut, which ends with the part where it names no end
abbrev pub cut_of : Cut → List ℕ → Result (List ℕ) ℕ
cut_of cut bytes = range_of cut.from (unwrap_or cut.to (length bytes)) bytes

-- bytes with a text in place of those from one place on and before another one
abbrev pub replaced : (from to : ℕ) → (text bytes : List ℕ) → List ℕ
replaced from to text bytes = take from bytes ++ (text ++ drop to bytes)

-- bytes that may be a value; 5 where they are longer than one
abbrev pub value_within : List ℕ → Result (List ℕ) ℕ
value_within bytes = if nat_le (length bytes) MAX_VALUE then Ok bytes else Err 5

-- a value with a text in place of some of its bytes; 4 where not all of these are there
abbrev pub changed_of : (from to : ℕ) → (text bytes : List ℕ) → Result (List ℕ) ℕ
changed_of from to text bytes = if has_range from to bytes then value_within (replaced from to text bytes) else Err 4

-- ---- actions

-- the output partition that the hash of a part leaves, divided by a number; of a part that is null or absent it is 0
abbrev pub hashed_output : Part → (count : ℕ) → Record → ℕ
hashed_output p count given = hash_of (Some (part_bytes p given)) % count

-- what is output, with these headers after the record's own
abbrev pub outcome_of_output : Output → List Header → Input → Outcome
outcome_of_output (output.Record n) added input =
    outcome_of_emission input (with_headers added (whole_record input n))
outcome_of_output (output.Hashed p count) added input =
    outcome_of_emission input (with_headers added (whole_record input (hashed_output p count input.given)))
outcome_of_output (output.Cut n p cut) added input =
    outcome_with_value input (with_headers added (whole_record input n)) (cut_of cut (bytes_in p input.given))
outcome_of_output (output.Changed n from to text) added input =
    outcome_with_value input (with_headers added (whole_record input n))
    (changed_of from to text (bytes_of input.given.value))

-- the same with the header that a rule adds, if one is: its refusals come first
abbrev pub outcome_of_added : Output → Option AddedHeader → Input → Outcome
outcome_of_added what (Some h) input =
    unless_refused (header_refusal input.given no_yield h.key h.value)
    (outcome_of_output what (header_of h.key h.value ∷ []) input)
outcome_of_added what None input = outcome_of_output what [] input

-- what an action makes of a record
abbrev pub outcome_of_action : Action → Input → Outcome
outcome_of_action (action.Drop code) input = Rejected code
outcome_of_action (action.Tombstone n) input = outcome_of_emission input (bare_record n input.given.key None)
outcome_of_action (action.Output what added) input = outcome_of_added what added input

-- ---- rules

-- what a rule that takes a record makes of it; a record that none takes is kept with no emission
abbrev pub outcome_of_chosen : Option Line → Input → Outcome
outcome_of_chosen (Some line) input = outcome_of_action line.action input
outcome_of_chosen None input = Kept []

-- what rules make of a record: the first whose condition holds decides
abbrev pub outcome_of_rules : List Line → Input → Outcome
outcome_of_rules lines input = outcome_of_chosen (chosen lines input.given input.place) input
