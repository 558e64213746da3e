-- The program that a user gives: an image, or a program file, and perhaps a helper table beside it.
use Rattle.std.specs.Prelude.{ℕ, Bool, true, ◌==◌, nat_le, if◌then◌else◌, List, [], ◌∷◌, Option, Some, None}
use Rattle.std.specs.Prelude.{unwrap_or, Result, Ok, Err}
use Rattle.std.specs.Option.{option_or}
use Rattle.machine_spec.specs.{declared.helper.Table.Table, Image.Program, Image.program_of}
use Rattle.program_file.specs.declared.{file.Place.Place, file.ProgramFile.ProgramFile, fault.FileFault.FileFault}
use Rattle.program_file.specs.declared.choice.GivenProgram.{GivenProgram}
use Rattle.program_file.specs.declared.fault.FileFault.TheVariants as fault
use Rattle.program_file.specs.Reading.{is_program_file, read_file}

-- the helper table with a number, if programs run by it
abbrev pub table_numbered : ℕ → Option Table
table_numbered number =
    if number == 1 then Some Table.One else if number == 2 then Some Table.Two else if number == 3 then Some Table.Three
    else None

-- the number of a helper table
abbrev pub number_of : Table → ℕ
number_of Table.One = 1
number_of Table.Two = 2
number_of Table.Three = 3

-- a table is the one that is named, where one is
abbrev pub is_named : Option Table → Table → Bool
is_named None table = true
is_named (Some named) table = number_of named == number_of table

-- the program of a file, if programs run by its table and it is the one that is named
abbrev pub run_by : Option Table → ProgramFile → Option Table → Result GivenProgram FileFault
run_by named file (Some table) = if is_named named table
    then Ok (record { table = table; image = file.image; places = file.places }) else Err fault.Table
run_by named file None = Err fault.Table

-- the same of what bytes say
abbrev pub file_program : Option Table → Result ProgramFile FileFault → Result GivenProgram FileFault
file_program named (Ok file) = run_by named file (table_numbered file.table)
file_program named (Err f) = Err f

-- the program of an image: its table is the named one, or table 1, and nothing says where it comes from
abbrev pub image_program : Option Table → List ℕ → GivenProgram
image_program named image = record { table = unwrap_or named Table.One; image = image; places = [] }

-- the program that bytes are, or why they are refused
abbrev pub given_program : Option Table → List ℕ → Result GivenProgram FileFault
given_program named bytes = if is_program_file bytes then file_program named (read_file bytes)
    else Ok (image_program named bytes)

-- the program of the image and the table that were given
abbrev pub program_in : GivenProgram → Program
program_in given = program_of given.image given.table

-- ---- where instructions come from

-- what a place says, if it is one of a slot up to this one
abbrev pub text_up_to : ℕ → Place → Option (List ℕ)
text_up_to slot place = if nat_le place.slot slot then Some place.text else None

-- what the last of places says that is one of a slot up to this one
abbrev pub place_at : ℕ → List Place → Option (List ℕ)
place_at slot [] = None
place_at slot (place ∷ places) = option_or (place_at slot places) (text_up_to slot place)
