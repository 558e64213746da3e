-- Parts of records and of headers, as C gives them: bytes, and whether the part is null.
use Rattle.std.specs.Prelude.{ℕ, Bool, ◌||◌, nat_le, if◌then◌else◌, List, length, Option, Some, None}

-- null, or these bytes
abbrev pub part_of : Bool → List ℕ → Option (List ℕ)
part_of is_null bytes = if is_null then None else Some bytes

-- a part that is null is not too long, whatever stands beside it
abbrev pub is_part_fitting : Bool → List ℕ → ℕ → Bool
is_part_fitting is_null bytes most = is_null || nat_le (length bytes) most
