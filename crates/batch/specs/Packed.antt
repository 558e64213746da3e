-- Batches whose records are spans of their bytes.
use Rattle.std.specs.Prelude.{◌≡◌, ℕ, ◌≤◌, List, [], ◌∷◌, length, map, ⊤}
use Rattle.wire_spec.specs.declared.{record.Record.Record, record.Batch.Batch}
use Rattle.kafka_record.specs.{declared.spans.Span.Span, Spans.spanned, Spans.IsSpanOf}
use Rattle.wire_spec.specs.BatchSpelling.{BatchFits, batch_spelling}
use Rattle.wire_spec.specs.BatchReading.{base_offset, leader_epoch, base_timestamp, producer_id, producer_epoch}
use Rattle.wire_spec.specs.BatchReading.{base_sequence}
use Rattle.batch.specs.declared.packed.Head.{Head}

-- the records of spans of these bytes, in order
abbrev pub span_records : List ℕ → List Span → List Record
span_records bytes spans = map (spanned bytes) spans

-- each is a span of these bytes
abbrev pub AreSpansOf : List ℕ → List Span → Type 0
AreSpansOf bytes [] = ⊤
AreSpansOf bytes (span ∷ spans) = IsSpanOf bytes span × AreSpansOf bytes spans

-- the batch of a header and of records
abbrev pub headed : Head → List Record → Batch
headed head records = record {
  base_offset = head.base_offset;
  leader_epoch = head.leader_epoch;
  base_timestamp = head.base_timestamp;
  producer_id = head.producer_id;
  producer_epoch = head.producer_epoch;
  base_sequence = head.base_sequence;
  records = records;
}

-- the bytes are a batch's, all of them
pub record IsWhole (bytes : List ℕ) (batch : Batch) : Type 0 where
  pub fits : BatchFits batch
  pub long : 61 ≤ length bytes
  pub spelled : bytes ≡ batch_spelling batch

-- these are the fields of the header at the front of the bytes
pub record IsHeadOf (bytes : List ℕ) (head : Head) : Type 0 where
  pub base_offset : head.base_offset ≡ base_offset bytes
  pub leader_epoch : head.leader_epoch ≡ leader_epoch bytes
  pub base_timestamp : head.base_timestamp ≡ base_timestamp bytes
  pub producer_id : head.producer_id ≡ producer_id bytes
  pub producer_epoch : head.producer_epoch ≡ producer_epoch bytes
  pub base_sequence : head.base_sequence ≡ base_sequence bytes
