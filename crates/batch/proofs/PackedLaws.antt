-- Spans of a batch's records, and the records that they are.
use Rattle.std.proofs.Common.{◌≡◌, ◌∙◌, ℕ, zero, suc, ◌+◌, ◌<◌, List, [], ◌∷◌, ◌++◌, length, get_or, slice_get, Some}
use Rattle.std.proofs.Common.{take, Bool, true, false, Result, Ok, Err, refl, sym, ap, subst, arith, pos, None}
use Rattle.std.proofs.lemmas.List.{map_push, take_more}
use Rattle.wire_spec.specs.declared.{fault.BatchFault.BatchFault, record.Record.Record, record.Batch.Batch}
use Rattle.wire_spec.specs.{declared.fault.BatchFault.TheVariants.Timestamp, BatchReading.is_mistimed}
use Rattle.wire_spec.specs.BatchReading.{timed_at}
use Rattle.kafka_record.specs.{declared.spans.Span.Span, Spans.spanned, Spans.IsSpanOf}
use Rattle.batch.specs.declared.packed.Head.{Head}
use Rattle.batch.specs.Packed.{span_records, headed, AreSpansOf, IsHeadOf}
use Rattle.batch.proofs.Made.{timed_ok}

abbrev answer : Result Batch BatchFault → Result Batch BatchFault
answer given = given

-- what a read past the last span gives
abbrev pub no_span : Span
no_span = record {
  timestamp_delta = pos 0;
  key = None;
  value = None;
  parts = record { start = 0; end = 0 };
  headers = 0;
  count = 0;
}

module _ (bytes : List ℕ) where
  pub span_at : (spans : List Span) (k : ℕ) (span : Span) → AreSpansOf bytes spans → k < length spans →
      span ≡ get_or spans k span → IsSpanOf bytes span
  span_at [] k span all lt is = absurd (omega arith)
  span_at (first ∷ spans) zero span all lt is = subst (IsSpanOf bytes) (sym is) all.0
  span_at (first ∷ spans) (suc k) span all lt is = span_at spans k span all.1 (omega arith) is

  -- one span more
  pub one_within : (spans : List Span) (span : Span) → AreSpansOf bytes spans → IsSpanOf bytes span →
      AreSpansOf bytes (spans ++ span ∷ [])
  one_within [] span all within = (within, tt)
  one_within (first ∷ spans) span all within = (all.0, one_within spans span all.1 within)

  pub one_more : (spans : List Span) (span : Span) →
      span_records bytes (spans ++ span ∷ []) ≡ span_records bytes spans ++ spanned bytes span ∷ []
  one_more spans span = map_push (spanned bytes) spans span

  -- the record of a span in its list
  pub record_at : (spans : List Span) (k : ℕ) (span : Span) → k < length spans → span ≡ get_or spans k span →
      slice_get (span_records bytes spans) k ≡ Some (spanned bytes span)
  record_at [] k span lt is = absurd (omega arith)
  record_at (first ∷ spans) zero span lt is = ap (λ (s : Span). Some (spanned bytes s)) (sym is)
  record_at (first ∷ spans) (suc k) span lt is = record_at spans k span (omega arith) is

  pub record_or : (spans : List Span) (k : ℕ) (span : Span) (r : Record) → k < length spans →
      span ≡ get_or spans k span → spanned bytes span ≡ get_or (span_records bytes spans) k r
  record_or [] k span r lt is = absurd (omega arith)
  record_or (first ∷ spans) zero span r lt is = ap (spanned bytes) is
  record_or (first ∷ spans) (suc k) span r lt is = record_or spans k span r (omega arith) is

  -- the records of the first spans, and of one more
  pub one_taken : (spans : List Span) (k : ℕ) (span : Span) → k < length spans → span ≡ get_or spans k span →
      span_records bytes (take (k + 1) spans) ≡ span_records bytes (take k spans) ++ spanned bytes span ∷ []
  one_taken spans k span lt is =
      ap (span_records bytes) (take_more spans k span lt ∙ ap (λ (s : Span). take k spans ++ s ∷ []) (sym is))
      ∙ map_push (spanned bytes) (take k spans) span

-- ---- the batch of a header and of spans

pub untimely : (bytes slice : List ℕ) (spans spans' : List Span) (late : Bool) → slice ≡ bytes → spans' ≡ spans →
    late ≡ is_mistimed slice (span_records slice spans') → late ≡ true →
    answer (Err Timestamp) ≡ timed_at bytes (span_records bytes spans)
unfolding timed_at
untimely bytes slice spans spans' late same same_spans is late_is =
    let late' : is_mistimed bytes (span_records bytes spans) ≡ true = rw (← same, ← same_spans) (sym is ∙ late_is) in
    rw late' refl

pub headed_ok : (bytes slice : List ℕ) (spans spans' : List Span) (head : Head) (late : Bool) → slice ≡ bytes →
    spans' ≡ spans → late ≡ is_mistimed slice (span_records slice spans') → late ≡ false → IsHeadOf slice head →
    answer (Ok (headed head (span_records bytes spans))) ≡ timed_at bytes (span_records bytes spans)
headed_ok bytes slice spans spans' head late same same_spans is late_is head_is =
    let rs = span_records bytes spans in
    let timely : is_mistimed bytes rs ≡ false = rw (← same, ← same_spans) (sym is ∙ late_is) in
    let h : IsHeadOf bytes head = subst (λ (b : List ℕ). IsHeadOf b head) same head_is in
    timed_ok bytes rs (headed head rs) timely h.base_offset h.leader_epoch h.base_timestamp h.producer_id
    h.producer_epoch h.base_sequence refl
