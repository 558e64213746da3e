-- What a feed gives of its bytes, which are in two parts, by what is cut off the first.
use Rattle.std.proofs.Common.{◌≡◌, ◌≢◌, ℕ, List, [], ◌∷◌, ◌++◌, length, take, drop, Ok, Err, true, false, refl, sym, ap}
use Rattle.std.proofs.Common.{subst, ◌∙◌, arith, ◌↔◌, Some, None}
use Rattle.std.proofs.lemmas.List.{drop-append-le, take-append-le, append-nil}
use Rattle.wire_spec.specs.declared.{fault.BatchFault.BatchFault, record.Batch.Batch}
use Rattle.wire_spec.specs.declared.fault.BatchFault.TheVariants as faults
use Rattle.wire_spec.specs.declared.fault.BatchFault.TheVariants.{Memory}
use Rattle.wire_spec.specs.BatchReading.{◌>>=◌, size_at, whole_at, IsPart, batch_at}
use Rattle.wire_spec.proofs.MoreBytes.{batch_at-part, batch_at-append, batch_at-not_short}
use Rattle.wire_spec.proofs.BatchLaws.{Sized, bind_ok, ok_is, size_taken}
use Rattle.batch.specs.Streams.{Stream, Open, kept_bytes, after_fault, IsRefusal, Gives, Cuts, IsReady}

-- a batch takes its header at least, and no more bytes than there are
pub batch_at-taken : (bytes : List ℕ) (batch : Batch) (used : ℕ) → batch_at bytes ≡ Ok (batch, used) → Sized bytes used
unfolding batch_at
batch_at-taken bytes batch used e =
    let a = bind_ok (size_at bytes) (λ size. whole_at (take size bytes) >>= λ b. Ok (b, size)) (batch, used) e in
    let w = bind_ok (whole_at (take a.0 bytes)) (λ b. Ok (b, a.0)) (batch, used) a.2 in
    subst (Sized bytes) (ap (λ (x : Batch × ℕ). x.1) (ok_is (w.0, a.0) (batch, used) w.2)) (size_taken bytes a.0 a.1)

pub is_refusal : (bytes : List ℕ) (fault : BatchFault) → (IsPart bytes → ⊥) →
    (fault ≢ Memory → batch_at bytes ≡ Err fault) → IsRefusal bytes fault
is_refusal bytes fault whole exact =
    λ other. (λ short. batch_at-not_short bytes whole (exact other ∙ ap (λ (f : BatchFault). Err f) short), exact other)

pub gives_none : (old new : Stream) (ready next : List ℕ) → old ≡ Open (ready ++ next) → new ≡ Open (ready ++ next) →
    IsReady false ready next → Gives old (Ok None) new
gives_none old new ready next old_is new_is part =
    subst (λ (s : Stream). Gives s (Ok None) new) (sym old_is) (batch_at-part (ready ++ next) part, new_is)

pub gives_batch : (old after : Stream) (ready next new : List ℕ) (batch : Batch) → old ≡ Open (ready ++ next) →
    after ≡ Open (new ++ next) → IsReady true ready next → Cuts ready (Ok batch) new → Gives old (Ok (Some batch)) after
gives_batch old after ready next new batch old_is after_is whole (used, within, found, spelled, new_is) =
    let rest : new ++ next ≡ drop used (ready ++ next) = ap (λ (front : List ℕ). front ++ next) new_is
    ∙ sym (drop-append-le used ready next within) in
    subst (λ (s : Stream). Gives s (Ok (Some batch)) after) (sym old_is) (
      used,
      batch_at-append ready next whole ∙ found,
      take-append-le used ready next within ∙ spelled,
      after_is ∙ ap (λ (bytes : List ℕ). Open bytes) rest,
    )

pub gives_refusal : (old after : Stream) (ready next new : List ℕ) (fault : BatchFault) → old ≡ Open (ready ++ next) →
    after ≡ after_fault (Open (new ++ next)) fault → IsReady true ready next → Cuts ready (Err fault) new →
    Gives old (Err fault) after
gives_refusal old after ready next new fault old_is after_is whole (refusal, new_is) =
    subst (λ (s : Stream). Gives s (Err fault) after) (sym old_is) (
      λ other. ((refusal other).0, batch_at-append ready next whole ∙ (refusal other).1),
      after_is
          ∙ ap (λ (front : List ℕ). after_fault (Open (front ++ next)) fault) new_is,
    )

pub none_of : (ready next : List ℕ) → (ready ++ next ≡ []) ↔ ((length ready ≡ 0) × (length next ≡ 0))
none_of [] [] = (λ e. (refl, refl), λ e. refl)
none_of [] (byte ∷ next) = (λ e. absurd cc, λ e. absurd cc)
none_of (byte ∷ ready) next = (λ e. absurd cc, λ e. absurd cc)

-- bytes with nothing after them
pub alone : (ready : List ℕ) → Open (ready ++ []) ≡ Open ready
alone ready = ap (λ (bytes : List ℕ). Open bytes) (append-nil ready)

-- a part of a batch with nothing after it
pub part_alone : (ready next : List ℕ) → length next ≡ 0 → IsPart ready → IsPart (ready ++ next)
part_alone ready [] none part = subst IsPart (sym (append-nil ready)) part
part_alone ready (byte ∷ next) none part = absurd (omega arith)

-- a fault leaves all bytes
pub kept_after : (bytes : List ℕ) (fault : BatchFault) → kept_bytes (after_fault (Open bytes) fault) ≡ bytes
kept_after bytes faults.Short = refl
kept_after bytes faults.Length = refl
kept_after bytes faults.TooLarge = refl
kept_after bytes faults.Magic = refl
kept_after bytes faults.Crc = refl
kept_after bytes faults.Attributes = refl
kept_after bytes faults.Count = refl
kept_after bytes (faults.Record number) = refl
kept_after bytes faults.Timestamp = refl
kept_after bytes faults.Memory = refl
