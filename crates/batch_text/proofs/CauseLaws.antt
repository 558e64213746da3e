-- The bytes after some records, and the words on one.
use Rattle.std.proofs.Common.{◌≡◌, ℕ, zero, suc, ◌-◌, ◌<◌, ◌==◌, false, List, ◌++◌, length, take, drop, arith, ap}
use Rattle.std.proofs.Common.{subst, refl, ◌∙◌, Option, Some, None, codes}
use Rattle.std.proofs.lemmas.List.{take_all, length-drop}
use Rattle.wire_spec.specs.BatchReading.{record_count}
use Rattle.batch_text.specs.Lines.{count_field}
use Rattle.batch_text.specs.Causes.{after_record, after_records, fault_cause, record_cause}

pub after_none : (number : ℕ) (bytes : List ℕ) → 0 < number → after_record bytes ≡ None →
    after_records number bytes ≡ None
unfolding after_records
after_none zero bytes some none = absurd (omega arith)
after_none (suc n) bytes some none = rw none refl

pub after_one : (number : ℕ) (bytes rest : List ℕ) → 0 < number → after_record bytes ≡ Some rest →
    after_records number bytes ≡ after_records (number - 1) rest
unfolding after_records
after_one zero bytes rest some found = absurd (omega arith)
after_one (suc n) bytes rest some found =
    let less : suc n - 1 ≡ n = omega arith in
    rw (found, less) refl

pub after_all : (number : ℕ) (bytes : List ℕ) → number ≡ 0 → after_records number bytes ≡ Some bytes
unfolding after_records
after_all zero bytes none = refl
after_all (suc n) bytes none = absurd (omega (arith, none))

pub record_is : (number count : ℕ) (bytes text : List ℕ) (left : Option (List ℕ)) → count ≡ record_count bytes →
    (number == count) ≡ false → left ≡ after_records number (drop 61 bytes) →
    text ≡ count_field (codes "record ") number ++ fault_cause left → text ≡ record_cause number bytes
record_is number count bytes text left count_is other left_is text_is =
    let test : (number == record_count bytes) ≡ false = subst (λ (n : ℕ). (number == n) ≡ false) count_is other in
    rw test (text_is ∙ ap (λ (l : Option (List ℕ)). count_field (codes "record ") number ++ fault_cause l) left_is)

-- the bytes from a place on
pub rest_is : (bytes : List ℕ) → take (length bytes - 61) (drop 61 bytes) ≡ drop 61 bytes
rest_is bytes = take_all (length bytes - 61) (drop 61 bytes) (omega (arith, length-drop 61 bytes))
