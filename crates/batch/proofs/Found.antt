-- What a function that reads found, by the laws of batches.
use Rattle.std.proofs.Common.{◌≡◌, ◌≤◌, ℕ, List, ◌++◌, length, take, Result, Ok, Err, ap, subst, ◌∙◌, IfOk, refl, arith}
use Rattle.std.proofs.lemmas.List.{length-take}
use Rattle.wire_spec.specs.{declared.fault.BatchFault.BatchFault, declared.record.Batch.Batch, BatchSpelling.BatchFits}
use Rattle.wire_spec.specs.{BatchSpelling.batch_spelling, Memory.AnswersAs}
use Rattle.wire_spec.specs.BatchReading.{size_at, whole_at, batch_at}
use Rattle.wire_spec.specs.declared.fault.BatchFault.TheVariants.{Memory}
use Rattle.wire_spec.proofs.{Varints.IsBytes, BatchLaws.batch_takes, BatchLaws.batch_again, BatchLaws.size_taken}
use Rattle.batch.specs.Packed.{IsWhole}

pub is_found : (bytes : List ℕ) (r : Result (Batch × ℕ) BatchFault) → IsBytes bytes →
    AnswersAs Memory (λ x. x) r (batch_at bytes) →
    IfOk r (λ x. BatchFits x.0 × (x.1 ≤ length bytes) × (take x.1 bytes ≡ batch_spelling x.0))
is_found bytes (Ok x) fits given = batch_takes bytes x fits given
is_found bytes (Err e) fits given = tt

pub is_only : (bytes : List ℕ) (r : Result (Batch × ℕ) BatchFault) → IsBytes bytes →
    AnswersAs Memory (λ x. x) r (batch_at bytes) → (b : Batch) (rest : List ℕ) → BatchFits b →
    bytes ≡ batch_spelling b ++ rest → AnswersAs Memory (λ x. x) r (Ok (b, length (batch_spelling b)))
is_only bytes r fits given b rest h e =
    subst (λ (f : Result (Batch × ℕ) BatchFault). AnswersAs Memory (λ x. x) r f)
    (ap batch_at e ∙ batch_again b rest h (subst IsBytes e fits)) given

-- the bytes that a size at the front of some takes are those of the batch that they are
pub is_whole : (bytes front : List ℕ) (size : ℕ) → IsBytes bytes → size_at bytes ≡ Ok size → front ≡ take size bytes →
    (b : Batch) → whole_at front ≡ Ok b → IsWhole front b
unfolding batch_at
is_whole bytes front size fits sized is b found =
    let here : whole_at (take size bytes) ≡ Ok b = subst (λ (l : List ℕ). whole_at l ≡ Ok b) is found in
    let batch : batch_at bytes ≡ Ok (b, size) = rw (sized, here) refl in
    let taken = batch_takes bytes (b, size) fits batch in
    let there = size_taken bytes size sized in
    record {
      fits = taken.0;
      long = omega (arith, there.least, there.there, ap length is, length-take size bytes);
      spelled = is ∙ taken.2;
    }
