-- The helper table and how much is listed, by the words after a program.
use Rattle.std.specs.Prelude.{ℕ, if◌then◌else◌, List, Option, Some, None, codes}
use Rattle.std.specs.Str.{bytes_eq}
use Rattle.machine_spec.specs.declared.helper.Table.{Table}
use Rattle.explain.specs.declared.way.Coverage.{Coverage}

-- the helper table that is named, if this word follows the program; `None` where it names none
abbrev pub table_of : Option (List ℕ) → Option (Option Table)
table_of None = Some None
table_of (Some word) =
    if bytes_eq word (codes "1") then Some (Some Table.One) else
    if bytes_eq word (codes "2") then Some (Some Table.Two) else None

-- how much is listed where this word follows, or none does; every other word is no call
abbrev pub extent_of : Option (List ℕ) → Option Coverage
extent_of None = Some Coverage.All
extent_of (Some word) = if bytes_eq word (codes "refused") then Some Coverage.Refused else None

-- the table with the extent, if there is an extent
abbrev pub with_extent : Option Table → Option Coverage → Option (Option Table × Coverage)
with_extent named (Some extent) = Some (named, extent)
with_extent named None = None

-- the table, with how much is listed by the second word; where the first one names no table, no table with how much is
-- listed by it, if that is the only one
abbrev pub shown_by : Option (Option Table) → Option (List ℕ) → Option (List ℕ) → Option (Option Table × Coverage)
shown_by (Some named) first second = with_extent named (extent_of second)
shown_by None first None = with_extent None (extent_of first)
shown_by None first (Some second) = None

-- The table that is named and how much is listed, by the words after the program. The first word may be left out.
abbrev pub shown_of : Option (List ℕ) → Option (List ℕ) → Option (Option Table × Coverage)
shown_of first second = shown_by (table_of first) first second
