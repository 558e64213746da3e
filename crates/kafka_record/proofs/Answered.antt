-- From what reading gives to what was answered.
use Rattle.std.proofs.Common.{◌≡◌, ℕ, ◌+◌, ◌-◌, ◌<◌, ◌≤◌, Bool, cond, List, [], ◌++◌, length, take, drop, refl, sym, ap}
use Rattle.std.proofs.Common.{subst, ◌∙◌, arith, ℤ, pos, Option, Some, None, Result, Ok, Err, IfOk, FitsSigned, ok_or}
use Rattle.std.specs.{Int.w32, Ordering.int_eq}
use Rattle.std.proofs.lemmas.List.{length-append, length-drop, take_at, drop_all}
use Rattle.wire_spec.specs.{declared.record.Record.Record, Varint.read_varint, RecordSpelling.RecordFits}
use Rattle.wire_spec.specs.{RecordSpelling.record_spelling, Memory.AnswersAs}
use Rattle.wire_spec.specs.RecordReading.{varint_at, body_at, record_at}
use Rattle.wire_spec.proofs.Varints.{IsBytes, IsBytes-drop}
use Rattle.wire_spec.proofs.RecordLaws.{some_is, record_takes, record_again}
use Rattle.kafka_record.specs.declared.fault.RecordFault.{RecordFault}
use Rattle.kafka_record.specs.declared.fault.RecordFault.TheVariants.{Bad, Memory}

-- what was read, where an answer says that it was
pub read_ok : {Y : Type 0} (read : Option Y) (y : Y) → ok_or read Bad ≡ Ok y → read ≡ Some y
read_ok None y h = let clash : Err Bad ≡ Ok y = h in absurd cc
read_ok (Some x) y h = let same : x ≡ y = cc in ap Some same

-- what reading gives, as an answer
pub as_answer : {Y : Type 0} (read gives : Option Y) → read ≡ gives → ok_or read Bad ≡ ok_or gives Bad
as_answer read gives e = rw e refl

-- where the length and the fields were read
pub record_reads : (delta delta' : ℤ) (bytes slice : List ℕ) (at start end : ℕ) (len len' : ℤ) (r : Record) (b : Bool) →
    delta' ≡ delta → slice ≡ bytes → len' ≡ len → varint_at (drop at slice) ≡ Some (len, drop start slice) →
    body_at delta' (drop start bytes) ≡ Some (r, drop end bytes) → start ≤ end → end ≤ length bytes →
    b ≡ int_eq len' (pos (end - start)) → record_at delta (drop at bytes) ≡ cond b (Some (r, drop end bytes)) None
unfolding record_at
record_reads delta delta' bytes slice at start end len len' r b same_delta same_bytes same_len first second low high is
    =
    let used : length (drop start bytes) - length (drop end bytes) ≡ end - start =
    omega (arith, length-drop start bytes, length-drop end bytes) in
    let first' : varint_at (drop at bytes) ≡ Some (len, drop start bytes) =
    subst (λ (s : List ℕ). varint_at (drop at s) ≡ Some (len, drop start s)) same_bytes first in
    let second' : body_at delta (drop start bytes) ≡ Some (r, drop end bytes) =
    subst (λ (d : ℤ). body_at d (drop start bytes) ≡ Some (r, drop end bytes)) same_delta second in
    let is' : b ≡ int_eq len (pos (end - start)) = subst (λ (l : ℤ). b ≡ int_eq l (pos (end - start))) same_len is in
    rw (first', second', used, ← is') refl

-- no bytes begin with a record
nothing_begins : (delta : ℤ) → record_at delta [] ≡ None
unfolding record_at read_varint
nothing_begins delta = refl

-- and so none begins past the end
pub past_end : (bytes : List ℕ) (at : ℕ) (delta : ℤ) → length bytes < at → record_at delta (drop at bytes) ≡ None
past_end bytes at delta past = ap (record_at delta) (drop_all at bytes (omega (arith, past))) ∙ nothing_begins delta

module _ (bytes : List ℕ) (at : ℕ) (delta : ℤ) (fits : FitsSigned w32 delta) where
  abbrev pub view : Record × ℕ → Record × List ℕ
  view x = (x.0, drop (at + x.1) bytes)

  pub is_found : (answer : Result (Record × ℕ) RecordFault) → IsBytes bytes →
      AnswersAs Memory view answer (ok_or (record_at delta (drop at bytes)) Bad) →
      IfOk answer (λ x. at + x.1 ≤ length bytes) →
      IfOk answer (λ x. RecordFits x.0 × (at + x.1 ≤ length bytes)
      × (take x.1 (drop at bytes) ≡ record_spelling delta x.0))
  is_found (Err e) small given within = tt
  is_found (Ok x) small given within =
      let t = record_takes delta (drop at bytes) (view x) (IsBytes-drop at bytes small) (read_ok _ (view x) given) in
      let len : length (record_spelling delta x.0) ≡ x.1 =
      omega (
        arith,
        ap length t.0.parts,
        length-append (record_spelling delta x.0) (drop (at + x.1) bytes),
        length-drop at bytes,
        length-drop (at + x.1) bytes,
      ) in
      (t.1, within, ap (take x.1) t.0.parts ∙ take_at (record_spelling delta x.0) (drop (at + x.1) bytes) x.1 len)

  pub is_only : (answer : Result (Record × ℕ) RecordFault) →
      AnswersAs Memory view answer (ok_or (record_at delta (drop at bytes)) Bad) →
      IfOk answer (λ x. at + x.1 ≤ length bytes) → (r : Record) (rest : List ℕ) → RecordFits r →
      drop at bytes ≡ record_spelling delta r ++ rest →
      AnswersAs Memory (λ x. x) answer (Ok (r, length (record_spelling delta r)))
  is_only (Err fault) given within r rest f e = λ reported.
      let read : ok_or (record_at delta (drop at bytes)) Bad ≡ ok_or (Some (r, rest)) Bad =
      ap (λ (o : Option (Record × List ℕ)). ok_or o Bad)
      (ap (record_at delta) e ∙ record_again delta r rest fits f) in
      let clash : ◌≡◌ {A = Result (Record × List ℕ) RecordFault} (Ok (r, rest)) (Err fault) = sym read
      ∙ given reported in
      absurd cc
  is_only (Ok x) given within r rest f e =
      let same : ◌≡◌ {A = Record × List ℕ} (r, rest) (view x) =
      some_is (r, rest) (view x) (sym (ap (record_at delta) e ∙ record_again delta r rest fits f)
      ∙ read_ok _ (view x) given) in
      let after : rest ≡ drop (at + x.1) bytes = ap (λ (p : Record × List ℕ). p.1) same in
      let len : length (record_spelling delta r) ≡ x.1 =
      omega (
        arith,
        ap length e,
        ap length after,
        length-append (record_spelling delta r) rest,
        length-drop at
            bytes,
        length-drop (at + x.1) bytes,
      ) in
      let first : r ≡ x.0 = ap (λ (p : Record × List ℕ). p.0) same in
      rw (len, first) refl
