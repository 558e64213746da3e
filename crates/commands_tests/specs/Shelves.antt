-- What the files of a shelf are.
use Rattle.std.specs.Prelude.{ℕ, List, [], Option, Some, String}
use Rattle.std.specs.{BTreeMap.BTreeMap, BTreeMap.get_by_text, Global.Global, Global.Vec, Io.Cursor.cursor_remaining}
use Rattle.std.specs.{Map.update, Option.option_map_or, Str.bytes_eq, declared.io.Cursor.Cursor}

-- the bytes of the file with this name; one that isn't there has none
abbrev pub bytes_in : BTreeMap (String Global) (Vec ℕ) → List ℕ → Option (List ℕ)
bytes_in files name = Some (option_map_or (λ content. content.items) (get_by_text files name) [])

-- files, and one of these bytes under this name
abbrev pub with_file : (List ℕ → Option (List ℕ)) → List ℕ → List ℕ → List ℕ → Option (List ℕ)
with_file files name content = update bytes_eq files name (Some content)

-- the bytes that are left of a file that is read
abbrev pub left_of : Cursor (Vec ℕ) → Option (List ℕ)
left_of file = cursor_remaining (λ content. Some content.items) file
