-- The batches that bytes begin with, one after the other.
use Rattle.std.specs.Prelude.{◌≡◌, ℕ, List, [], ◌∷◌, drop, Ok}
use Rattle.wire_spec.specs.{declared.record.Batch.Batch, BatchReading.batch_at}

-- the bytes begin with these batches, one after the other, and these bytes are left
abbrev pub AreBatches : List ℕ → List Batch → List ℕ → Type 0
AreBatches bytes [] rest = rest ≡ bytes
AreBatches bytes (batch ∷ batches) rest = (used : ℕ) × (batch_at bytes ≡ Ok (batch, used))
    × AreBatches (drop used bytes) batches rest
