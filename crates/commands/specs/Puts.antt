-- The batches that `put` appends.
use Rattle.std.specs.Prelude.{ℕ, pos, negsuc, List, [], ◌∷◌, Option}
use Rattle.wire_spec.specs.declared.record.Batch.{Batch}

-- a batch of one record without headers, with a timestamp in milliseconds
abbrev pub put_batch : ℕ → Option (List ℕ) → Option (List ℕ) → Batch
put_batch timestamp key value = record {
  base_offset = pos 0;
  leader_epoch = pos 0;
  base_timestamp = pos timestamp;
  producer_id = negsuc 0;
  producer_epoch = negsuc 0;
  base_sequence = negsuc 0;
  records = record { timestamp_delta = pos 0; key = key; value = value; headers = [] } ∷ [];
}
