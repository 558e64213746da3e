-- Texts that are written one after the other.
use Rattle.std.proofs.Common.{◌≡◌, List, ◌++◌, Result, Ok, Err, length, sym, ap, ◌∙◌, refl}
use Rattle.std.specs.Prelude.{ℕ, OnOk, codes, is_ok, if◌then◌else◌}
use Rattle.wire_spec.specs.BatchReading.{base_offset, leader_epoch, base_timestamp, max_timestamp, producer_id}
use Rattle.wire_spec.specs.BatchReading.{producer_epoch, base_sequence, record_count}
use Rattle.batch_text.specs.Lines.{count_field, field, place_part, time_part, producer_part}
use Rattle.batch.proofs.Written.{row}

pub four : (old m1 m2 m3 new a b c d : List ℕ) → m1 ≡ old ++ a → m2 ≡ m1 ++ b → m3 ≡ m2 ++ c → new ≡ m3 ++ d →
    new ≡ old ++ (a ++ (b ++ (c ++ d)))
four old m1 m2 m3 new a b c d e1 e2 e3 e4 =
    row old m1 new a (b ++ (c ++ d)) e1 (row m1 m2 new b (c ++ d) e2 (row m2 m3 new c d e3 e4))

pub pushed : {E : Type 0} (result : Result (Unit {0}) E) (old mid new first second whole : List ℕ) →
    mid ≡ old ++ first → OnOk result (new ≡ mid ++ second) → whole ≡ first ++ second → OnOk result (new ≡ old ++ whole)
pushed (Ok done) old mid new first second whole one other is =
    row old mid new first second one other ∙ ap (λ (l : List ℕ). old ++ l) (sym is)
pushed (Err e) old mid new first second whole one other is = tt

pub pushed_four : {E : Type 0} (result : Result (Unit {0}) E) (old m1 m2 m3 new a b c d whole : List ℕ) →
    m1 ≡ old ++ a → m2 ≡ m1 ++ b → m3 ≡ m2 ++ c → OnOk result (new ≡ m3 ++ d) → whole ≡ a ++ (b ++ (c ++ d)) →
    OnOk result (new ≡ old ++ whole)
pushed_four (Ok done) old m1 m2 m3 new a b c d whole e1 e2 e3 e4 is =
    four old m1 m2 m3 new a b c d e1 e2 e3 e4 ∙ ap (λ (l : List ℕ). old ++ l) (sym is)
pushed_four (Err e) old m1 m2 m3 new a b c d whole e1 e2 e3 e4 is = tt

pub place_is : (position count size : ℕ) (bytes : List ℕ) → count ≡ record_count bytes → size ≡ length bytes →
    place_part position bytes
    ≡ count_field (codes "position: ") position ++ (field (codes " baseOffset: ") (base_offset bytes)
    ++ (count_field (codes " count: ") count ++ count_field (codes " size: ") size))
unfolding place_part
place_is position count size bytes one other = rw (one, other) refl

pub time_is : (bytes : List ℕ) → time_part bytes ≡ field (codes " baseTimestamp: ") (base_timestamp bytes)
    ++ field (codes " maxTimestamp: ") (max_timestamp bytes)
unfolding time_part
time_is bytes = refl

pub producer_is : (bytes : List ℕ) → producer_part bytes
    ≡ field (codes " partitionLeaderEpoch: ") (leader_epoch bytes) ++ (field (codes " producerId: ") (producer_id bytes)
    ++ (field (codes " producerEpoch: ") (producer_epoch bytes)
    ++ field (codes " baseSequence: ") (base_sequence bytes)))
unfolding producer_part
producer_is bytes = refl

pub str_pushed : {E : Type 0} (result : Result (Unit {0}) E) (old new text : List ℕ) →
    new ≡ (if is_ok result then old ++ text else old) → OnOk result (new ≡ old ++ text)
str_pushed (Ok done) old new text is = is
str_pushed (Err e) old new text is = tt
