-- Bytes of a buffer between two places.
use Rattle.std.specs.Prelude.{ℕ, ◌≤◌, List, slice_range, Option, Some, None, ⊤}
use Rattle.kafka_record.specs.declared.spans.Extent.{Extent}

-- the bytes of an extent
abbrev pub extent_bytes : List ℕ → Extent → List ℕ
extent_bytes bytes extent = slice_range bytes extent.start extent.end

-- an extent of a buffer of that many bytes
pub record IsExtentWithin (count : ℕ) (extent : Extent) : Type 0 where
  pub order : extent.start ≤ extent.end
  pub within : extent.end ≤ count

-- the same of one that may be null
abbrev pub IsPartWithin : ℕ → Option Extent → Type 0
IsPartWithin count None = ⊤
IsPartWithin count (Some extent) = IsExtentWithin count extent
