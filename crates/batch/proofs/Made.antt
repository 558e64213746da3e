-- A batch that is made of fields as they were read.
use Rattle.std.proofs.Common.{◌≡◌, ℕ, false, List, Result, Ok, ap}
use Rattle.wire_spec.specs.declared.{fault.BatchFault.BatchFault, record.Record.Record, record.Batch.Batch}
use Rattle.wire_spec.specs.BatchReading.{base_offset, leader_epoch, base_timestamp, producer_id, producer_epoch}
use Rattle.wire_spec.specs.BatchReading.{base_sequence, is_mistimed, timed_at}
use Rattle.wire_spec.proofs.BatchLaws.{same_batch}

abbrev done : Batch → Result Batch BatchFault
done b = Ok b

pub timed_ok : (bytes : List ℕ) (rs : List Record) (made : Batch) → is_mistimed bytes rs ≡ false →
    made.base_offset ≡ base_offset bytes → made.leader_epoch ≡ leader_epoch bytes →
    made.base_timestamp ≡ base_timestamp bytes → made.producer_id ≡ producer_id bytes →
    made.producer_epoch ≡ producer_epoch bytes → made.base_sequence ≡ base_sequence bytes → made.records ≡ rs →
    done made ≡ timed_at bytes rs
unfolding timed_at
timed_ok bytes rs made h a b c d e f g =
    let wanted : Batch = record {
      base_offset = base_offset bytes;
      leader_epoch = leader_epoch bytes;
      base_timestamp = base_timestamp bytes;
      producer_id = producer_id bytes;
      producer_epoch = producer_epoch bytes;
      base_sequence = base_sequence bytes;
      records = rs;
    } in
    rw h (ap done (same_batch made wanted a b c d e f g))
