-- The lines that commands print, each with its line feed.
use Rattle.std.specs.Prelude.{ℕ, ◌+◌, ◌-◌, ◌/◌, ◌%◌, nat_lt, if◌then◌else◌, List, [], ◌∷◌, ◌++◌, length, Option, Some}
use Rattle.std.specs.Prelude.{None, codes, decimal}
use Rattle.std.specs.List.{flat_map}
use Rattle.log_spec.specs.declared.row.Row.{Row}

-- the lower-case hex digit of a number below 16
abbrev pub hex_glyph : ℕ → ℕ
hex_glyph digit = if nat_lt digit 10 then 48 + digit else 97 + (digit - 10)

-- a byte as two lower-case hex digits, the high one first
abbrev pub byte_text : ℕ → List ℕ
byte_text byte = hex_glyph (byte / 16) ∷ hex_glyph (byte % 16) ∷ []

-- bytes in hex, two digits each
abbrev pub hex_text : List ℕ → List ℕ
hex_text bytes = flat_map byte_text bytes

-- a key or a value: null is `-`, no bytes are `.`, others are in hex
abbrev pub bytes_text : Option (List ℕ) → List ℕ
bytes_text None = 45 ∷ []
bytes_text (Some []) = 46 ∷ []
bytes_text (Some (byte ∷ bytes)) = hex_text (byte ∷ bytes)

-- `load NAME version V`
abbrev pub load_line : List ℕ → ℕ → List ℕ
load_line name version = codes "load " ++ (name ++ (codes " version " ++ (decimal version ++ 10 ∷ [])))

-- `deploy I index X NAME version V`
abbrev pub deploy_line : ℕ → ℕ → List ℕ → ℕ → List ℕ
deploy_line input index name version =
    codes "deploy " ++ (decimal input
    ++ (codes " index " ++ (decimal index
    ++ (codes " " ++ (name ++ (codes " version " ++ (decimal version ++ 10 ∷ [])))))))

-- `append I index X base B`
abbrev pub append_line : ℕ → ℕ → ℕ → List ℕ
append_line input index base = codes "append "
    ++ (decimal input ++ (codes " index " ++ (decimal index ++ (codes " base " ++ (decimal base ++ 10 ∷ [])))))

-- `close I index X`
abbrev pub close_line : ℕ → ℕ → List ℕ
close_line input index = codes "close " ++ (decimal input ++ (codes " index " ++ (decimal index ++ 10 ∷ [])))

-- what a fetch returned: `none`, or the bytes of a batch in hex
abbrev pub found_text : Option (List ℕ) → List ℕ
found_text None = codes "none"
found_text (Some bytes) = hex_text bytes

-- `none`, or the bytes of a batch in hex
abbrev pub fetch_line : Option (List ℕ) → List ℕ
fetch_line found = found_text found ++ 10 ∷ []

-- `row Q I OFFSET NUMBER TS KEY VALUE HEADERS`, of which the last is the number of headers
abbrev pub row_line : ℕ → Row → List ℕ
row_line output row =
    codes "row " ++ (decimal output
    ++ (codes " " ++ (decimal row.input
    ++ (codes " " ++ (decimal row.offset
    ++ (codes " " ++ (decimal row.number ++ (codes " " ++ (decimal row.timestamp
    ++ (codes " " ++ (bytes_text row.key
    ++ (codes " " ++ (bytes_text row.value
    ++ (codes " " ++ (decimal (length row.headers) ++ 10 ∷ [])))))))))))))))
