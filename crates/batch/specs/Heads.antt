-- What is before the records of a batch.
use Rattle.std.specs.Prelude.{ℕ, ◌-◌, ℤ, List, ◌∷◌, ◌++◌}
use Rattle.std.specs.Int.{w16, w32, w64, to_be_bytes}
use Rattle.wire_spec.specs.{declared.record.Batch.Batch, BatchSpelling.signed}

-- the header from attributes on, of a batch with this greatest timestamp and this number of records
abbrev pub header_of : Batch → ℤ → ℕ → List ℕ
header_of b g n =
    to_be_bytes w16 0 ++ (to_be_bytes w32 (n - 1)
    ++ (signed w64 b.base_timestamp
    ++ (signed w64 g ++ (signed w64 b.producer_id
    ++ (signed w16 b.producer_epoch ++ (signed w32 b.base_sequence ++ to_be_bytes w32 n))))))

-- what is before it in a batch of this size, with 0 in the place of the checksum
abbrev pub front_of : Batch → ℕ → List ℕ
front_of b size = signed w64 b.base_offset
    ++ (to_be_bytes w32 (size - 12) ++ (signed w32 b.leader_epoch ++ (2 ∷ to_be_bytes w32 0)))
