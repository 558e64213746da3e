-- The catalogue: the programs that were loaded, by name.
use Rattle.std.specs.Prelude.{ℕ, zero, suc, ◌+◌, ◌-◌, ◌^◌, Bool, ◌==◌, ◌&&◌, ◌||◌, not, nat_le, if◌then◌else◌, List, []}
use Rattle.std.specs.Prelude.{◌∷◌, ◌++◌, length, slice_get, Option, Some, None, is_none, ◌≡◌}
use Rattle.std.specs.{List.list_all, List.list_any, Str.bytes_eq}
use Rattle.machine_spec.specs.Image.{Program}
use Rattle.verifier_spec.specs.Loading.{IsAccepted, IsRefusedWith}
use Rattle.log_spec.specs.declared.{event.Refusal.Refusal, limits.TheConstants.MAX_NAME}

-- a name, and the programs that were accepted under it, oldest first: version v is number v - 1
pub record Entry : Type 0 where
  pub name : List ℕ
  pub programs : List Program

-- the entries of a catalogue, in the order of the names' first loads
abbrev pub ProgramTable : Type 0
ProgramTable = List Entry

-- the programs of a name, none where it is not loaded
abbrev pub programs_of : ProgramTable → List ℕ → List Program
programs_of [] name = []
programs_of (entry ∷ table) name = if bytes_eq entry.name name then entry.programs else programs_of table name

-- programs are loaded under the name
abbrev pub has_name : ProgramTable → List ℕ → Bool
has_name table name = list_any (λ entry. bytes_eq entry.name name) table

-- the program of a version of a name, from 1; none where it was not loaded
abbrev pub program_named : ProgramTable → List ℕ → ℕ → Option Program
program_named table name zero = None
program_named table name (suc k) = slice_get (programs_of table name) k

-- the table with one more program of a name, and nothing else changed
abbrev pub with_program : ProgramTable → List ℕ → Program → ProgramTable
with_program [] name program = record { name = name; programs = program ∷ [] } ∷ []
with_program (entry ∷ table) name program =
    if bytes_eq entry.name name then record { name = entry.name; programs = entry.programs ++ program ∷ [] }
    ∷ table else entry ∷ with_program table name program

-- ---- the live table

-- a version of a name, from 1, with the program that was loaded as it
pub record Version : Type 0 where
  pub name : List ℕ
  pub number : ℕ
  pub program : Program

-- Of each name its last version alone, in the order of the names' first loads. A version's number is how many loads of
-- the name were accepted.
abbrev pub LiveTable : Type 0
LiveTable = List Version

-- the number and the program of a name's version; none where the name is not loaded
abbrev pub among : LiveTable → List ℕ → Option (ℕ × Program)
among [] name = None
among (version ∷ table) name =
    if bytes_eq version.name name then Some (version.number, version.program) else among table name

-- how many versions a name has, by its version in a live table; 0 where it has none
abbrev pub count_of : Option (ℕ × Program) → ℕ
count_of None = 0
count_of (Some found) = found.0

-- the version that a load makes
abbrev pub next_version : LiveTable → List ℕ → Program → Version
next_version table name program = record { name = name; number = count_of (among table name) + 1; program = program }

-- the table with a version in the place of the one of its name, or at the end, and nothing else changed
abbrev pub with_version : LiveTable → Version → LiveTable
with_version [] version = version ∷ []
with_version (first ∷ table) version = if bytes_eq first.name version.name then version ∷ table else first
    ∷ with_version table version

-- a version is the last one of an entry: it has the number of its programs, and the last of them
pub record IsLast (entry : Entry) (version : Version) : Type 0 where
  pub name_is : version.name ≡ entry.name
  pub number_is : version.number ≡ length entry.programs
  pub earlier : List Program
  pub program_is : entry.programs ≡ earlier ++ version.program ∷ []

-- the live table of a table
abbrev pub IsLive : ProgramTable → LiveTable → Type 0
IsLive [] [] = Unit {0}
IsLive (entry ∷ table) (version ∷ live) = IsLast entry version × IsLive table live
IsLive [] (version ∷ live) = ⊥
IsLive (entry ∷ table) [] = ⊥

-- ---- refusals of a load

-- an ASCII letter, digit or hyphen
abbrev pub is_name_byte : ℕ → Bool
is_name_byte byte = (nat_le 97 byte && nat_le byte 122) ||
    ((nat_le 65 byte && nat_le byte 90) || ((nat_le 48 byte && nat_le byte 57) || (byte == 45)))

-- a name has 1 to 32 such bytes
abbrev pub is_name : List ℕ → Bool
is_name name = nat_le 1 (length name) && (nat_le (length name) MAX_NAME && list_all is_name_byte name)

-- the most names of a catalogue
abbrev pub most_names : ℕ
most_names = 64

-- The first refusal of a load before its image is read: the name's form, 64 other names, its versions used up. It takes
-- of a table whether the name is loaded, how many names are, and how many versions the name has.
abbrev pub first_refusal : Bool → ℕ → ℕ → List ℕ → Option Refusal
first_refusal is_loaded names versions name =
    if not (is_name name) then Some Refusal.Name else
    if not is_loaded && nat_le most_names names then Some Refusal.Full else
    if nat_le (2 ^ 32 - 1) versions then Some Refusal.Versions else None

-- the first refusal of a load before its image is read, by a table
abbrev pub name_refusal : ProgramTable → List ℕ → Option Refusal
name_refusal table name = first_refusal (has_name table name) (length table) (length (programs_of table name)) name

-- the same by a live table
abbrev pub live_refusal : LiveTable → List ℕ → Option Refusal
live_refusal table name = first_refusal (not (is_none (among table name))) (length table) (count_of (among table name))
    name

-- a program is refused exactly where it is not accepted, and then with its fault
abbrev pub IsProgramRefusal : Program → Option Refusal → Type 0
IsProgramRefusal program None = IsAccepted program
IsProgramRefusal program (Some (Refusal.Load fault)) = IsRefusedWith program fault
IsProgramRefusal program (Some _) = ⊥

-- the first refusal of a load, where this is its refusal before the image is read
abbrev pub IsFirstRefusal : Option Refusal → Program → Option Refusal → Type 0
IsFirstRefusal (Some earlier) program first = Some earlier ≡ first
IsFirstRefusal None program first = IsProgramRefusal program first

-- the first refusal of a load, or none, by a table
abbrev pub IsLoadRefusal : ProgramTable → List ℕ → Program → Option Refusal → Type 0
IsLoadRefusal table name program first = IsFirstRefusal (name_refusal table name) program first

-- the same by a live table
abbrev pub IsLiveRefusal : LiveTable → List ℕ → Program → Option Refusal → Type 0
IsLiveRefusal table name program first = IsFirstRefusal (live_refusal table name) program first

-- ---- what loads make of the live table

-- a version that is loaded over a table: the load is not refused, and the version is the next one of its name
pub record IsLoad (table : LiveTable) (version : Version) : Type 0 where
  pub accepted : IsLiveRefusal table version.name version.program None
  pub next : version ≡ next_version table version.name version.program

-- These versions, each loaded over the table that those before it made, make the last table of the first.
abbrev pub Makes : LiveTable → List Version → LiveTable → Type 0
Makes table [] last = last ≡ table
Makes table (version ∷ versions) last = IsLoad table version × Makes (with_version table version) versions last
