-- What a line of a script says.
use Rattle.std.specs.Prelude.{ℕ, ◌==◌, ◌&&◌, nat_lt, nat_eq, if◌then◌else◌, List, length, drop, Option, Some, None}
use Rattle.std.specs.Prelude.{codes}
use Rattle.std.specs.{List.list_all, List.starts_with, Str.bytes_eq}
use Rattle.machine_spec.specs.declared.helper.Table.{Table}
use Rattle.script.specs.declared.{command.Command.Command, command.FileWord.FileWord}
use Rattle.script.specs.declared.command.Command.TheVariants.{Partitions, Load, Deploy, Put, Append, Close, Fetch, Go}
use Rattle.script.specs.declared.command.FileWord.TheVariants.{Line, File}
use Rattle.script.specs.Words.{words_of, word_at, decimal_of, spelled_bytes, hex_bytes}

-- the source of a word after `hex:`: the bytes that it spells; a word that spells none is a file's name
abbrev pub hex_source : Option (List ℕ) → List ℕ → FileWord
hex_source (Some bytes) word = Line bytes
hex_source None word = File word

-- where a command's bytes come from: `hex:` and pairs of lower-case hex digits are those bytes, every other word is a
-- file's name
abbrev pub source_of : List ℕ → FileWord
source_of word = if starts_with nat_eq word (codes "hex:") then hex_source (hex_bytes (drop 4 word)) word else File word

-- the command, if each of its words is a number
abbrev pub partitions_of : Option ℕ → Option ℕ → Option ℕ → Option Command
partitions_of (Some inputs) (Some outputs) (Some cells) = Some (Partitions inputs outputs cells)
partitions_of _ _ _ = None

-- `partitions I O CELLS`
abbrev pub partitions_line : List (List ℕ) → Option Command
partitions_line words = if length words == 4 then partitions_of (decimal_of (word_at words 1))
    (decimal_of (word_at words 2)) (decimal_of (word_at words 3)) else None

-- the helper table that a load names: the second where a fourth word is `2`, and none where there is no fourth word;
-- other words are no load
abbrev pub table_of : List (List ℕ) → Option (Option Table)
table_of words =
    if length words == 3 then Some None else
    if length words == 4 && bytes_eq (word_at words 3) (codes "2") then Some (Some Table.Two) else None

-- the command, if its words are those of a load
abbrev pub load_of : List ℕ → FileWord → Option (Option Table) → Option Command
load_of name source (Some table) = Some (Load name source table)
load_of name source None = None

-- `load NAME FILE`, `load NAME FILE 2`
abbrev pub load_line : List (List ℕ) → Option Command
load_line words = load_of (word_at words 1) (source_of (word_at words 2)) (table_of words)

-- the command, if its first word is a number
abbrev pub deploy_of : Option ℕ → List ℕ → Option Command
deploy_of (Some input) name = Some (Deploy input name)
deploy_of None name = None

-- `deploy I NAME`
abbrev pub deploy_line : List (List ℕ) → Option Command
deploy_line words = if length words == 3 then deploy_of (decimal_of (word_at words 1)) (word_at words 2) else None

-- the command, if each of its words spells a number or bytes
abbrev pub put_of : Option ℕ → Option ℕ → Option (Option (List ℕ)) → Option (Option (List ℕ)) → Option Command
put_of (Some input) (Some timestamp) (Some key) (Some value) = Some (Put input timestamp key value)
put_of _ _ _ _ = None

-- `put I TS KEY VALUE`
abbrev pub put_line : List (List ℕ) → Option Command
put_line words =
    if length words == 5
    then put_of (decimal_of (word_at words 1)) (decimal_of (word_at words 2)) (spelled_bytes (word_at words 3))
    (spelled_bytes (word_at words 4))
    else None

-- the command, if its first word is a number
abbrev pub append_of : Option ℕ → FileWord → Option Command
append_of (Some input) source = Some (Append input source)
append_of None source = None

-- `append I FILE`
abbrev pub append_line : List (List ℕ) → Option Command
append_line words = if length words == 3 then append_of (decimal_of (word_at words 1)) (source_of (word_at words 2))
    else None

-- the command, if its word is a number
abbrev pub close_of : Option ℕ → Option Command
close_of (Some input) = Some (Close input)
close_of None = None

-- `close I`
abbrev pub close_line : List (List ℕ) → Option Command
close_line words = if length words == 2 then close_of (decimal_of (word_at words 1)) else None

-- the command, if each of its words is a number
abbrev pub fetch_of : Option ℕ → Option ℕ → Option ℕ → Option Command
fetch_of (Some output) (Some place) (Some max) = Some (Fetch output place max)
fetch_of _ _ _ = None

-- `fetch Q PLACE MAX`
abbrev pub fetch_line : List (List ℕ) → Option Command
fetch_line words = if length words == 4 then fetch_of (decimal_of (word_at words 1)) (decimal_of (word_at words 2))
    (decimal_of (word_at words 3)) else None

-- `go`
abbrev pub go_line : List (List ℕ) → Option Command
go_line words = if length words == 1 then Some Go else None

-- the command that the first word names, if the others are what it takes
abbrev pub command_of_words : List (List ℕ) → Option Command
command_of_words words =
    if bytes_eq (word_at words 0) (codes "partitions") then partitions_line words else
    if bytes_eq (word_at words 0) (codes "load") then load_line words else
    if bytes_eq (word_at words 0) (codes "deploy") then deploy_line words else
    if bytes_eq (word_at words 0) (codes "put") then put_line words else
    if bytes_eq (word_at words 0) (codes "append") then append_line words else
    if bytes_eq (word_at words 0) (codes "close") then close_line words else
    if bytes_eq (word_at words 0) (codes "fetch") then fetch_line words else
    if bytes_eq (word_at words 0) (codes "go") then go_line words else None

-- the command of words, of which none is empty
abbrev pub command_from : List (List ℕ) → Option Command
command_from words = if list_all (λ word. nat_lt 0 (length word)) words then command_of_words words else None

-- the command of a line, if its words are those of one
abbrev pub command_of : List ℕ → Option Command
command_of line = command_from (words_of line)
