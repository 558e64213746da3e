-- The key, the value and the headers of a row, by what has them.
use Rattle.std.specs.Prelude.{ℕ, List, Option}
use Rattle.wire_spec.specs.declared.record.Header.{Header}
use Rattle.log_spec.specs.declared.row.RowParts.{RowParts}
use Rattle.log_spec.specs.declared.row.RowParts.TheVariants.{Record, Apart}

-- the key
abbrev pub key_of : RowParts → Option (List ℕ)
key_of (Record given) = given.key
key_of (Apart key value headers) = key

-- the value
abbrev pub value_of : RowParts → Option (List ℕ)
value_of (Record given) = given.value
value_of (Apart key value headers) = value

-- the headers
abbrev pub headers_of : RowParts → List Header
headers_of (Record given) = given.headers
headers_of (Apart key value headers) = headers
