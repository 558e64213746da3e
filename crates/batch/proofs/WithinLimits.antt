-- Batches within their limits.
use Rattle.std.proofs.lemmas.Bool.{leb-true, le-leb}
use Rattle.std.proofs.Common.{◌≡◌, ℕ, ◌+◌, ◌≤◌, ◌<◌, true, List, length, All, IsTrue, Some, None, sym}
use Rattle.std.proofs.Common.{subst, ◌∙◌, arith, ℤ, FitsSigned, ◌↔◌, nat_le}
use Rattle.std.specs.Int.{w16, w32, w64}
use Rattle.std.specs.List.{AllByRecursion, list_all}
use Rattle.wire_spec.specs.declared.{record.Record.Record, record.Batch.Batch}
use Rattle.wire_spec.specs.{RecordSpelling.RecordFits, BatchReading.is_timestamp}
use Rattle.wire_spec.specs.BatchSpelling.{IsTimestamp, BatchFits, timestamps, greatest, records_spelling}
use Rattle.wire_spec.specs.BatchSpelling.{batch_spelling}
use Rattle.wire_spec.specs.declared.limits.TheConstants.{MAX_BATCH, MAX_RECORDS}
use Rattle.wire_spec.proofs.BatchLaws.{IsTimestamp-from, AllByRecursion-from, length-covered, records_length}
use Rattle.batch.specs.Latest.{latest_of}
use Rattle.batch.proofs.{Latest.in_time, Written.latest_some}
use Rattle.kafka_record.proofs.Within.{recursion_from_All}

pub all_in_time : (base : ℤ) (rs : List Record) (t : ℤ) → true ≡ is_timestamp base → Some t ≡ latest_of base rs →
    IsTimestamp base × AllByRecursion IsTimestamp (timestamps base rs)
unfolding latest_of
all_in_time base rs t b e =
    let h = in_time (list_all is_timestamp (timestamps base rs)) t (greatest (timestamps base rs)) e in
    (IsTimestamp-from base (sym b), AllByRecursion-from (timestamps base rs) h.0)

pub not_in_time : (base : ℤ) (rs : List Record) → None ≡ latest_of base rs →
    AllByRecursion IsTimestamp (timestamps base rs) → ⊥
not_in_time base rs e all =
    let none : None ≡ Some (greatest (timestamps base rs)) = e ∙ latest_some base rs all in
    absurd cc

pub spelling_length : (b : Batch) → length (batch_spelling b) ≡ 61 + length (records_spelling 0 b.records)
spelling_length b = omega (arith, length-covered b, records_length b)

fits_of : (b : Batch) (n : ℕ) → FitsSigned w64 b.base_offset → FitsSigned w32 b.leader_epoch →
    FitsSigned w64 b.producer_id → FitsSigned w16 b.producer_epoch → FitsSigned w32 b.base_sequence →
    0 < length b.records → length b.records ≤ MAX_RECORDS → All RecordFits b.records →
    IsTimestamp b.base_timestamp × AllByRecursion IsTimestamp (timestamps b.base_timestamp b.records) →
    n ≡ length (records_spelling 0 b.records) → 61 + n ≤ MAX_BATCH → BatchFits b
fits_of b n f1 f2 f3 f4 f5 some few records times e le = record {
  base_offset = f1;
  leader_epoch = f2;
  producer_id = f3;
  producer_epoch = f4;
  base_sequence = f5;
  some_records = some;
  few_records = few;
  records = recursion_from_All RecordFits b.records records;
  base_timestamp = times.0;
  each_timestamp = times.1;
  few_bytes = omega (arith, e, le, spelling_length b);
}

few_of : (b : Batch) (n : ℕ) → n ≡ length (records_spelling 0 b.records) → BatchFits b → 61 + n ≤ MAX_BATCH
few_of b n e fits = omega (arith, e, spelling_length b, fits.few_bytes)

pub fits_iff : (b : Batch) (rs : List Record) (n : ℕ) → rs ≡ b.records → FitsSigned w64 b.base_offset →
    FitsSigned w32 b.leader_epoch → FitsSigned w64 b.producer_id → FitsSigned w16 b.producer_epoch →
    FitsSigned w32 b.base_sequence → 0 < length rs → length rs ≤ MAX_RECORDS → All RecordFits rs →
    IsTimestamp b.base_timestamp × AllByRecursion IsTimestamp (timestamps b.base_timestamp rs) →
    n ≡ length (records_spelling 0 rs) → IsTrue (nat_le (61 + n) MAX_BATCH) ↔ BatchFits b
fits_iff b rs n same f1 f2 f3 f4 f5 some few records times e =
    let some' = subst (λ (x : List Record). 0 < length x) same some in
    let few' = subst (λ (x : List Record). length x ≤ MAX_RECORDS) same few in
    let records' = subst (λ (x : List Record). All RecordFits x) same records in
    let times' = subst (λ (x : List Record). IsTimestamp b.base_timestamp
    × AllByRecursion IsTimestamp (timestamps b.base_timestamp x)) same times in
    let e' = subst (λ (x : List Record). n ≡ length (records_spelling 0 x)) same e in (
      λ t. fits_of b n f1 f2 f3 f4 f5 some' few' records' times' e' (leb-true (61 + n) MAX_BATCH t),
      λ f. le-leb (61 + n)
          MAX_BATCH (few_of b n e' f),
    )
