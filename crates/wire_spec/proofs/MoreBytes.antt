-- What bytes begin with, whatever follows them.
use Rattle.std.proofs.Common.{◌≡◌, ℕ, zero, suc, ◌<◌, ◌≤◌, Bool, true, false, cond, ltb, List, [], ◌∷◌, ◌++◌, length}
use Rattle.std.proofs.Common.{take, Result, Ok, Err, refl, sym, ap, ◌∙◌, arith, ℤ, pos, Option, Some, None, int_lt}
use Rattle.std.specs.Int.{w32, cast_signed}
use Rattle.std.proofs.lemmas.Bool.{cases_lt, ltb-false, le-ltb, lt-ltb}
use Rattle.std.proofs.lemmas.List.{length-append, take_at, take-append-le}
use Rattle.wire_spec.specs.{declared.fault.BatchFault.BatchFault, declared.record.Batch.Batch}
use Rattle.wire_spec.specs.{declared.record.Record.Record, declared.limits.TheConstants.MAX_BATCH}
use Rattle.wire_spec.specs.RecordReading.{record_at}
use Rattle.wire_spec.specs.declared.fault.BatchFault.TheVariants as faults
use Rattle.wire_spec.specs.BatchReading.{◌>>=◌, number_at, batch_length, with_front, batch_size, is_mistimed, record_or}
use Rattle.wire_spec.specs.BatchReading.{records_at, count_at, timed_at, whole_at, size_at, IsPart, batch_at}
use Rattle.wire_spec.proofs.BatchLaws.{size_taken, length_alone}

-- ---- How many bytes a batch takes

-- the first of four tests that holds names the refusal; else the size is given
size_by : Bool → Bool → Bool → Bool → ℕ → Result ℕ BatchFault
size_by few low high part size =
    cond few (Err faults.Short) (cond low (Err faults.Length)
    (cond high (Err faults.TooLarge) (cond part (Err faults.Short) (Ok size))))

same_size : (few few' low high part part' : Bool) (size : ℕ) → (few ≡ false → few' ≡ false) →
    (part ≡ false → part' ≡ false) → (size_by few low high part size ≡ Err faults.Short → ⊥) →
    size_by few' low high part' size ≡ size_by few low high part size
unfolding size_by
same_size true few' low high part part' size f g h = absurd (h refl)
same_size false few' true high part part' size f g h = rw (f refl) refl
same_size false few' false true part part' size f g h = rw (f refl) refl
same_size false few' false false true part' size f g h = absurd (h refl)
same_size false few' false false false part' size f g h = rw (f refl, g refl) refl

still_no_less : (n m limit : ℕ) → n ≤ m → ltb n limit ≡ false → ltb m limit ≡ false
still_no_less n m limit le e = le-ltb m limit (omega (arith, ltb-false n limit e))

short_is_part : (bytes : List ℕ) → length bytes < 12 → IsPart bytes
unfolding size_at
short_is_part bytes few = let yes : ltb (length bytes) 12 ≡ true = lt-ltb (length bytes) 12 few in rw yes refl

size_of_long : (bytes more : List ℕ) → 12 ≤ length bytes → (IsPart bytes → ⊥) → size_at (bytes ++ more) ≡ size_at bytes
unfolding size_at size_by
size_of_long bytes more long whole =
    let all = bytes ++ more in
    let longer : length bytes ≤ length all = omega (arith, length-append bytes more) in
    let front : number_at w32 8 all ≡ number_at w32 8 bytes =
    sym (length_alone (length bytes) all long) ∙ ap (number_at w32 8) (take_at bytes more (length bytes) refl) in
    let same : batch_length all ≡ batch_length bytes = ap (cast_signed w32) front in
    ap (λ (l : ℤ). size_by (ltb (length all) 12) (int_lt l (pos 49)) (ltb MAX_BATCH (with_front l))
    (ltb (length all) (with_front l)) (with_front l)) same
    ∙ same_size (ltb (length bytes) 12) (ltb (length all) 12) (int_lt (batch_length bytes) (pos 49))
    (ltb MAX_BATCH (batch_size bytes))
    (ltb (length bytes) (batch_size bytes)) (ltb (length all) (batch_size bytes)) (batch_size bytes)
    (still_no_less (length bytes) (length all) 12 longer)
    (still_no_less (length bytes) (length all) (batch_size bytes) longer) whole

-- a size, or the refusal of a length, is that of the bytes with more behind them too
pub size_at-append : (bytes more : List ℕ) → (IsPart bytes → ⊥) → size_at (bytes ++ more) ≡ size_at bytes
size_at-append bytes more whole = grind (arith, cases_lt, short_is_part, size_of_long)

-- ---- Which batch it is

pub batch_at-part : (bytes : List ℕ) → IsPart bytes → batch_at bytes ≡ Err faults.Short
unfolding batch_at
batch_at-part bytes part = rw part refl

whole_of : List ℕ → ℕ → Result (Batch × ℕ) BatchFault
whole_of bytes size = whole_at (take size bytes) >>= λ b. Ok (b, size)

size_within : (bytes : List ℕ) (n : ℕ) → size_at bytes ≡ Ok n → n ≤ length bytes
size_within bytes n e = (size_taken bytes n e).there

same_whole : (bytes more : List ℕ) (size : Result ℕ BatchFault) → ((n : ℕ) → size ≡ Ok n → n ≤ length bytes) →
    (size >>= whole_of (bytes ++ more)) ≡ (size >>= whole_of bytes)
unfolding whole_of
same_whole bytes more (Err f) within = refl
same_whole bytes more (Ok n) within =
    ap (λ (front : List ℕ). whole_at front >>= λ b. Ok (b, n)) (take-append-le n bytes more (within n refl))

-- bytes that are no part of a batch begin with the same batch, or none for the same reason, whatever follows them
pub batch_at-append : (bytes more : List ℕ) → (IsPart bytes → ⊥) → batch_at (bytes ++ more) ≡ batch_at bytes
unfolding batch_at whole_of
batch_at-append bytes more whole = grind (arith, whole_of, size_at-append, same_whole, size_within)

-- ---- Only the length may be short

abbrev NotShort : {A : Type 0} → Result A BatchFault → Type 0
NotShort r = r ≡ Err faults.Short → ⊥

not_short-cond : {A : Type 0} (test : Bool) (one other : Result A BatchFault) → NotShort one → NotShort other →
    NotShort (cond test one other)
not_short-cond true one other h k = h
not_short-cond false one other h k = k

not_short-bind : {A B : Type 0} (r : Result A BatchFault) (f : A → Result B BatchFault) → NotShort r →
    ((x : A) → NotShort (f x)) → NotShort (r >>= f)
not_short-bind (Ok x) f h k = k x
not_short-bind (Err fault) f h k = λ e. let same : fault ≡ faults.Short = cc in h (ap (λ (g : BatchFault). Err g) same)

not_short-count : (bytes : List ℕ) → NotShort (count_at bytes)
unfolding count_at
not_short-count bytes = grind (arith, not_short-cond)

not_short-record : (place : ℕ) (read : Option (Record × List ℕ)) → NotShort (record_or place read)
not_short-record place None = λ e. absurd cc
not_short-record place (Some x) = λ e. absurd cc

not_short-records : (n place : ℕ) (bytes : List ℕ) → NotShort (records_at n place bytes)
unfolding records_at
not_short-records zero place [] = λ e. absurd cc
not_short-records zero place (b ∷ bytes) = λ e. absurd cc
not_short-records (suc n) place bytes =
    not_short-bind (record_or place (record_at (pos place) bytes)) _
    (not_short-record place (record_at (pos place) bytes))
    (λ first. not_short-bind (records_at n (suc place) first.1) _ (not_short-records n (suc place) first.1)
    (λ others. λ e. absurd cc))

not_short-timed : (bytes : List ℕ) (records : List Record) → NotShort (timed_at bytes records)
unfolding timed_at
not_short-timed bytes records = not_short-cond (is_mistimed bytes records) _ _ (λ e. absurd cc) (λ e. absurd cc)

not_short-whole : (bytes : List ℕ) → NotShort (whole_at bytes)
unfolding whole_at
not_short-whole bytes = grind (arith, not_short-bind, not_short-count, not_short-records, not_short-timed)

-- bytes that are no part of a batch are not refused as short
pub batch_at-not_short : (bytes : List ℕ) → (IsPart bytes → ⊥) → NotShort (batch_at bytes)
unfolding batch_at
batch_at-not_short bytes whole = grind (arith, not_short-bind, not_short-whole)
