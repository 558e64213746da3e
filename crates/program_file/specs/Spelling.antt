-- The bytes of a program file, and which programs have some.
use Rattle.std.specs.Prelude.{ℕ, ◌+◌, ◌^◌, Bool, true, not, ◌&&◌, ◌==◌, nat_lt, nat_le, List, [], ◌∷◌, ◌++◌, length}
use Rattle.std.specs.Prelude.{codes, decimal}
use Rattle.std.specs.{Int.w32, Int.to_le_bytes, List.flat_map, List.list_all, Str.is_utf8}
use Rattle.machine_spec.specs.Image.{slot_count}
use Rattle.program_file.specs.declared.{file.Place.Place, file.ProgramFile.ProgramFile}

-- a line feed
abbrev pub is_line_feed : ℕ → Bool
is_line_feed byte = byte == 10

-- the line of a place: its slot in decimal, a space (32), its text and a line feed (10)
abbrev pub line_of : Place → List ℕ
line_of place = decimal place.slot ++ (32 ∷ (place.text ++ 10 ∷ []))

-- the lines of places, one after the other
abbrev pub lines_of : List Place → List ℕ
lines_of places = flat_map line_of places

-- The bytes of a program file: `KLOG`, and in 32 bits each, the lowest byte first, version 1, the table and the image's
-- length; then the image and the lines of the places.
abbrev pub spelling : ProgramFile → List ℕ
spelling file =
    codes "KLOG"
    ++ (to_le_bytes w32 1
    ++ (to_le_bytes w32 file.table
    ++ (to_le_bytes w32 (length file.image) ++ (file.image ++ lines_of file.places))))

-- ---- which programs have a file

-- a table's number
abbrev pub is_table : ℕ → Bool
is_table number = nat_le 1 number && nat_le number 3

-- what a place says: some UTF-8 text within one line
abbrev pub is_place_text : List ℕ → Bool
is_place_text text = nat_lt 0 (length text) && (is_utf8 text && list_all (λ byte. not (is_line_feed byte)) text)

-- a place of a slot from the least one on, which an image of this many slots has
abbrev pub is_place : (least slots : ℕ) → Place → Bool
is_place least slots place = nat_le least place.slot && (nat_lt place.slot slots && is_place_text place.text)

-- such places, of rising slots
abbrev pub are_places : (least slots : ℕ) → List Place → Bool
are_places least slots [] = true
are_places least slots (place ∷ places) = is_place least slots place && are_places (place.slot + 1) slots places

-- the program of a file: its table has a number, 32 bits hold its image's length, and its image has the slots of its
-- places
abbrev pub fits : ProgramFile → Bool
fits file = is_table file.table
    && (nat_lt (length file.image) (2 ^ 32) && are_places 0 (slot_count file.image) file.places)
