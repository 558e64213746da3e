-- What has the parts of a row: the record as it was given, or one that a program made.
use Rattle.std.specs.Prelude.{ℕ, ◌<◌, List, [], get_or, None, ⊤}
use Rattle.wire_spec.specs.declared.record.Record.{Record}
use Rattle.machine_spec.specs.declared.outcome.Emission.{Emission}
use Rattle.log_spec.specs.declared.row.Row.{Row}
use Rattle.helpers.specs.Emitted.{excerpt_in}
use Rattle.item_rows.specs.declared.{numbers.RowNumbers.RowNumbers, refs.SlotParts.SlotParts}
use Rattle.item_rows.specs.declared.refs.SlotParts.TheVariants as slot

-- the row of these numbers with the parts of an emission
abbrev pub row_by : RowNumbers → Emission → Row
row_by numbers emission = record {
  input = numbers.input;
  number = numbers.number;
  offset = numbers.offset;
  timestamp = numbers.timestamp;
  key = emission.key;
  value = emission.value;
  headers = emission.headers;
}

-- a record as it is, as an emission; to which output is left open
abbrev pub whole : Record → Emission
whole given = record { out = 0; key = given.key; value = given.value; headers = given.headers }

-- the emission that no number names
abbrev pub no_emission : Emission
no_emission = record { out = 0; key = None; value = None; headers = [] }

-- what has a row's parts: an excerpt of the record, or a made one
abbrev pub parts_in : List Emission → Record → SlotParts → Emission
parts_in made given (slot.Given excerpt) = excerpt_in given excerpt
parts_in made given (slot.Made number) = get_or made number no_emission

-- a made record's number is below their count
abbrev pub IsWithin : ℕ → SlotParts → Type 0
IsWithin count (slot.Given excerpt) = ⊤
IsWithin count (slot.Made number) = number < count
