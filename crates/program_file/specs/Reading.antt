-- What bytes say as a program file, or why they are refused.
use Rattle.std.specs.Prelude.{ℕ, ◌+◌, ◌/◌, ◌^◌, Bool, not, ◌&&◌, ◌||◌, ◌==◌, nat_eq, nat_lt, if◌then◌else◌, List, [], ◌∷◌}
use Rattle.std.specs.Prelude.{length, drop, slice_index, slice_range, Option, Some, None, Result, Ok, Err, codes, decimal}
use Rattle.std.specs.{Int.w32, Int.from_le_bytes, Str.Parse.digits_value, Str.bytes_eq, List.starts_with}
use Rattle.std.specs.List.{slice_split, position_or_len, before_first, after_first}
use Rattle.program_file.specs.declared.{file.Place.Place, file.ProgramFile.ProgramFile, fault.FileFault.FileFault}
use Rattle.program_file.specs.declared.fault.FileFault.TheVariants.{Short, Version, Table, Lines}
use Rattle.program_file.specs.Spelling.{is_line_feed, is_table, is_place}

-- the bytes begin as a program file; those of an image never do, since no instruction has the opcode 0x4b
abbrev pub is_program_file : List ℕ → Bool
is_program_file bytes = starts_with nat_eq bytes (codes "KLOG")

-- the number in the 32 bits at a place, the lowest byte first
abbrev pub number_at : ℕ → List ℕ → ℕ
number_at at bytes = from_le_bytes w32 (slice_index bytes at ∷ slice_index bytes (at + 1) ∷ slice_index bytes (at + 2)
    ∷ slice_index bytes (at + 3) ∷ [])

-- ---- lines

-- a space
abbrev pub is_space : ℕ → Bool
is_space byte = byte == 32

-- a word begins with `+` (43), or with `0` (48) that is not alone
abbrev pub is_padded : List ℕ → Bool
is_padded word = nat_lt 0 (length word)
    && ((slice_index word 0 == 43) || ((slice_index word 0 == 48) && nat_lt 1 (length word)))

-- the number below 2^32 whose decimal text a word is
abbrev pub slot_named : List ℕ → Option ℕ
slot_named word = if nat_lt (digits_value 10 word) (2 ^ 32) && bytes_eq (decimal (digits_value 10 word)) word
    then Some (digits_value 10 word) else None

-- the place, if there may be one after the others
abbrev pub if_place : (least slots : ℕ) → Place → Option Place
if_place least slots place = if is_place least slots place then Some place else None

-- the place with this text, if its slot is said
abbrev pub place_named : (least slots : ℕ) → Option ℕ → List ℕ → Option Place
place_named least slots (Some slot) text = if_place least slots (record { slot = slot; text = text })
place_named least slots None text = None

-- what a line says, without its line feed: its first space is between the slot and the text
abbrev pub read_place : (least slots : ℕ) → List ℕ → Option Place
read_place least slots line =
    if nat_lt (position_or_len is_space line) (length line)
    then place_named least slots (slot_named (before_first is_space line)) (after_first is_space line) else None

-- a place before those that are read after it
abbrev pub before_places : Place → Option (List Place) → Option (List Place)
before_places place (Some places) = Some (place ∷ places)
before_places place None = None

-- a place, if there is one, before those of greater slots
abbrev pub with_place : Option Place → (ℕ → Option (List Place)) → Option (List Place)
with_place (Some place) later = before_places place (later (place.slot + 1))
with_place None later = None

-- The places of the pieces of a text between line feeds. After the last line feed there is nothing.
abbrev pub read_places : (least slots : ℕ) → List (List ℕ) → Option (List Place)
read_places least slots [] = None
read_places least slots (line ∷ lines) =
    if length lines == 0 then (if length line == 0 then Some [] else None) else
    with_place (read_place least slots line) (λ next. read_places next slots lines)

-- the places that a text says, of an image with this many slots
abbrev pub places_of : ℕ → List ℕ → Option (List Place)
places_of slots text = read_places 0 slots (slice_split is_line_feed text)

-- ---- files

-- the program of a table, an image and its places, if the places could be read
abbrev pub file_with : ℕ → List ℕ → Option (List Place) → Result ProgramFile FileFault
file_with table image (Some places) = Ok (record { table = table; image = image; places = places })
file_with table image None = Err Lines

-- what bytes say whose header has a table and the length of an image that they have
abbrev pub read_parts : (table size : ℕ) → List ℕ → Result ProgramFile FileFault
read_parts table size bytes = file_with table (slice_range bytes 16 (16 + size))
    (places_of (size / 8) (drop (16 + size) bytes))

-- what bytes that begin as a program file say, or the first reason why they are refused
unfoldable pub read_file : List ℕ → Result ProgramFile FileFault
read_file bytes =
    if nat_lt (length bytes) 16 then Err Short else
    if not (number_at 4 bytes == 1) then Err Version else
    if not (is_table (number_at 8 bytes)) then Err Table else
    if nat_lt (length bytes) (16 + number_at 12 bytes) then Err Short else
    read_parts (number_at 8 bytes) (number_at 12 bytes) bytes
