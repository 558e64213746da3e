-- Rows as books have them.
use Rattle.std.specs.Prelude.{◌<◌, length, get_or}
use Rattle.std.specs.Arc.{arc_value}
use Rattle.machine_spec.specs.declared.outcome.Emission.{Emission}
use Rattle.helpers.specs.Emitted.{excerpt_in}
use Rattle.item_rows.specs.{declared.book_row.Parts.Parts, RowParts.no_emission}
use Rattle.item_rows.specs.declared.book_row.Parts.TheVariants as parts
use Rattle.exec.specs.Runs.{no_record}

-- what has a row's parts, as an emission: an excerpt of a record of a log's batch, or one that a program made
abbrev pub parts_of : Parts → Emission
parts_of (parts.Given logged index excerpt) = excerpt_in (get_or logged.records index no_record) excerpt
parts_of (parts.Made made index) = get_or (arc_value made) index no_emission

-- there is a record with that number
abbrev pub AreThere : Parts → Type 0
AreThere (parts.Given logged index excerpt) = index < length logged.records
AreThere (parts.Made made index) = index < length (arc_value made)
