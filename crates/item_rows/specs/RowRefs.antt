-- Rows whose parts stay where they are, by reference to them.
use Rattle.std.specs.Prelude.{ℕ, List, [], ◌∷◌, map, ⊤}
use Rattle.machine_spec.specs.declared.outcome.Emission.{Emission}
use Rattle.log_spec.specs.declared.row.Row.{Row}
use Rattle.item_rows.specs.declared.refs.Slot.{Slot}
use Rattle.item_rows.specs.RowParts.{row_by, parts_in, IsWithin}

-- the row of a slot with the parts of an emission
abbrev pub row_with : Slot → Emission → Row
row_with slot emission = row_by slot.numbers emission

-- the row of a slot
abbrev pub row_in : List Emission → Slot → Row
row_in made slot = row_with slot (parts_in made slot.given slot.parts)

-- the rows of slots, in order
abbrev pub rows_by : List Emission → List Slot → List Row
rows_by made slots = map (row_in made) slots

-- each slot's made record, where it has one, has a number below their count
abbrev pub AreWithin : ℕ → List Slot → Type 0
AreWithin count [] = ⊤
AreWithin count (slot ∷ slots) = IsWithin count slot.parts × AreWithin count slots
