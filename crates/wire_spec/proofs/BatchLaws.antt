-- The laws of batches: what is read is spelled so, what is spelled so is read, and no spelling begins
-- another.
use Rattle.std.proofs.Common.{◌≡◌, ℕ, zero, suc, ◌+◌, ◌-◌, ◌^◌, ◌<◌, ◌≤◌, true, false, ltb, eqb, ◌||◌, not, List, []}
use Rattle.std.proofs.Common.{◌∷◌, ◌++◌, length, get_or, take, drop, Result, Ok, Err, refl, sym, ap, ◌∙◌, append_assoc}
use Rattle.std.proofs.Common.{drop-cons, arith, ℤ, pos, negsuc, fold, Option, Some, None, FitsSigned, int_lt}
use Rattle.std.specs.Int.{Width, w16, w32, w64, from_be_bytes, to_be_bytes, cast_signed, cast_unsigned, int_max}
use Rattle.std.specs.{List.AllByRecursion, List.list_all}
use Rattle.std.proofs.lemmas.Bool.{cond_both, cases_lt, ltb-false, le-ltb, eqb-true, eq-eqb, ne_eqb, or_parts}
use Rattle.std.proofs.lemmas.Bool.{and_parts, not-false, eqb-false}
use Rattle.std.proofs.{lemmas.Bool.Decides.Decides-int_eq, Math.Facts.sfits_to_z, Math.Facts.Fits-of_z}
use Rattle.std.proofs.{lemmas.Simd.Each1-from_get_or}
use Rattle.std.proofs.lemmas.Int.{ints, to_z_pos, to_z-of_z, of_z-to_z}
use Rattle.std.proofs.lemmas.List.{append-nil, take-append-drop, drop-drop, length-append, length-take, length-drop}
use Rattle.std.proofs.lemmas.List.{take_at, get_or-take, get_or-drop}
use Rattle.std.proofs.lemmas.Nat.{be_bytes_2, be_bytes_4, be_bytes_8, from_be_bytes-to_be_bytes_2}
use Rattle.std.proofs.lemmas.Nat.{from_be_bytes-to_be_bytes_4, from_be_bytes-to_be_bytes_8}
use mir.Val.{bits}
use Rattle.wire_spec.specs.declared.{fault.BatchFault.BatchFault, record.Record.Record, record.Batch.Batch}
use Rattle.wire_spec.specs.declared.fault.BatchFault.TheVariants as faults
use Rattle.wire_spec.specs.{Checksum.checksum, RecordSpelling.RecordFits, RecordSpelling.record_spelling}
use Rattle.wire_spec.specs.RecordReading.{record_at}
use Rattle.wire_spec.specs.BatchSpelling.{timestamps, greatest, IsTimestamp, signed, records_spelling}
use Rattle.wire_spec.specs.BatchSpelling.{checksummed_bytes, batch_spelling, BatchFits}
use Rattle.wire_spec.specs.declared.limits.TheConstants.{MAX_BATCH, MAX_RECORDS}
use Rattle.wire_spec.specs.BatchReading.{◌>>=◌, number_at, signed_at, base_offset, leader_epoch, magic, crc, attributes}
use Rattle.wire_spec.specs.BatchReading.{last_offset_delta, base_timestamp, max_timestamp, producer_id, producer_epoch}
use Rattle.wire_spec.specs.BatchReading.{base_sequence, record_count, is_miscounted, is_timestamp, record_or}
use Rattle.wire_spec.specs.BatchReading.{records_at, count_at, timed_at, whole_at, size_at, batch_at}
use Rattle.wire_spec.proofs.Varints.{IsBytes, IsBytes-drop, IsBytes-take, guard_ok}
use Rattle.wire_spec.proofs.Checksums.{checksum-lt}
use Rattle.wire_spec.proofs.RecordLaws.{record_takes, record_again, one_record}

-- ---- Batches by their fields

pub same_batch : (b c : Batch) → b.base_offset ≡ c.base_offset → b.leader_epoch ≡ c.leader_epoch →
    b.base_timestamp ≡ c.base_timestamp → b.producer_id ≡ c.producer_id → b.producer_epoch ≡ c.producer_epoch →
    b.base_sequence ≡ c.base_sequence → b.records ≡ c.records → b ≡ c
same_batch b c e1 e2 e3 e4 e5 e6 e7 = grind arith

-- ---- Steps that may fail

pub bind_ok : {A B : Type 0} (r : Result A BatchFault) (f : A → Result B BatchFault) (y : B) → (r >>= f) ≡ Ok y →
    (x : A) × (r ≡ Ok x) × (f x ≡ Ok y)
bind_ok (Ok x) f y e = (x, refl, e)
bind_ok (Err d) f y e = absurd cc

abbrev done : {A : Type 0} → A → Result A BatchFault
done x = Ok x

pub ok_is : {A : Type 0} (x y : A) → done x ≡ done y → x ≡ y
ok_is x y e = cc

-- ---- Numbers

-- a number of this width, as bytes and back
pub record IsWide (w : Width) (len : ℕ) : Type 0 where
  pub front : (bytes : List ℕ) → from_be_bytes w (take len bytes) ≡ from_be_bytes w bytes
  pub back : (bytes : List ℕ) → length bytes ≡ len → IsBytes bytes → to_be_bytes w (from_be_bytes w bytes) ≡ bytes
  pub again : (n : ℕ) → n < 2 ^ bits w → from_be_bytes w (to_be_bytes w n) ≡ n
  pub below : (bytes : List ℕ) → IsBytes bytes → from_be_bytes w bytes < 2 ^ bits w

wide16 : IsWide w16 2
wide16 = grind (arith, get_or-take, be_bytes_2, from_be_bytes-to_be_bytes_2)

wide32 : IsWide w32 4
wide32 = grind (arith, get_or-take, be_bytes_4, from_be_bytes-to_be_bytes_4)

wide64 : IsWide w64 8
wide64 = grind (arith, get_or-take, be_bytes_8, from_be_bytes-to_be_bytes_8)

-- a field is the bytes at its place, and the next field follows it
number_field : (w : Width) (len : ℕ) → IsWide w len → (at : ℕ) (bytes : List ℕ) → IsBytes bytes →
    at + len ≤ length bytes → drop at bytes ≡ to_be_bytes w (number_at w at bytes) ++ drop (at + len) bytes
number_field w len wide at bytes fits le =
    let here = drop at bytes in
    let size : length (take len here) ≡ len = omega (arith, length-take len here, length-drop at bytes) in
    let back = wide.back (take len here) size (IsBytes-take len here (IsBytes-drop at bytes fits)) in
    cc (back, wide.front here, take-append-drop len here, drop-drop len at bytes)

signed_field : (w : Width) (len : ℕ) → IsWide w len → (at : ℕ) (bytes : List ℕ) → IsBytes bytes →
    at + len ≤ length bytes → drop at bytes ≡ signed w (signed_at w at bytes) ++ drop (at + len) bytes
signed_field w len wide at bytes fits le =
    let low = wide.below (drop at bytes) (IsBytes-drop at bytes fits) in
    cc (number_field w len wide at bytes fits le, of_z-to_z w (number_at w at bytes) low)

signed_fits : (w : Width) (len : ℕ) → IsWide w len → (at : ℕ) (bytes : List ℕ) → IsBytes bytes →
    FitsSigned w (signed_at w at bytes)
signed_fits w len wide at bytes fits =
    sfits_to_z (record { fits = wide.below (drop at bytes) (IsBytes-drop at bytes fits) })

-- ---- The bytes of a header that was read

-- ---- Records

is_some : (place : ℕ) (o : Option (Record × List ℕ)) (x : Record × List ℕ) → record_or place o ≡ Ok x → o ≡ Some x
is_some place (Some y) x e = cc
is_some place None x e = absurd cc

records_take : (n place : ℕ) (bytes : List ℕ) (rs : List Record) → IsBytes bytes → records_at n place bytes ≡ Ok rs →
    (bytes ≡ records_spelling place rs) × (length rs ≡ n) × AllByRecursion RecordFits rs
unfolding records_at
records_take zero place [] rs fits e = rw (← ok_is [] rs e) (refl, refl, tt)
records_take zero place (b ∷ bytes) rs fits e = absurd cc
records_take (suc n) place bytes rs fits e =
    let a = bind_ok (record_or place (record_at (pos place) bytes)) _ rs e in
    let b = bind_ok (records_at n (suc place) a.0.1) _ rs a.2 in
    let first = record_takes (pos place) bytes a.0 fits (is_some place (record_at (pos place) bytes) a.0 a.1) in
    let second = records_take n (suc place) a.0.1 b.0 first.0.rest_fits b.1 in
    let whole : bytes ≡ records_spelling place (a.0.0 ∷ b.0) = grind arith in
    rw (← ok_is _ rs b.2) (whole, ap suc second.1, (first.1, second.2))

pub records_again : (place : ℕ) (rs : List Record) → place + length rs < 2 ^ 31 → AllByRecursion RecordFits rs →
    records_at (length rs) place (records_spelling place rs) ≡ Ok rs
unfolding records_at
records_again place [] small fits = refl
records_again place (r ∷ rs) small fits = grind (arith, record_again, records_again (suc place) rs)

-- as many records begin both
records_one : (place : ℕ) (rs ss : List Record) (x y : List ℕ) → place + length rs < 2 ^ 31 → length rs ≡ length ss →
    AllByRecursion RecordFits rs → AllByRecursion RecordFits ss →
    records_spelling place rs ++ x ≡ records_spelling place ss ++ y → (rs ≡ ss) × (x ≡ y)
records_one place [] [] x y small len fits also e = (refl, e)
records_one place (r ∷ rs) (s ∷ ss) x y small len fits also e =
    let place_fits : FitsSigned w32 (pos place) = record { sfits = omega arith } in
    let row = rw (append_assoc (record_spelling (pos place) r), append_assoc (record_spelling (pos place) s)) at e in
    let first = one_record r s (pos place) (pos place) _ _ place_fits place_fits fits.0 also.0 row in
    let others = records_one (suc place) rs ss x y (omega arith) (omega arith) fits.1 also.1 first.2 in
    (rw (first.0, others.0) refl, others.1)
records_one place _ _ x y small len fits also e = absurd (omega arith)

-- ---- Timestamps

pub is_timestamp-from : (t : ℤ) → IsTimestamp t → is_timestamp t ≡ true
is_timestamp-from t h = grind (arith, ints, h.0, h.1)

pub IsTimestamp-from : (t : ℤ) → is_timestamp t ≡ true → IsTimestamp t
IsTimestamp-from t h = grind (arith, and_parts, ints)

pub list_all-from : (ts : List ℤ) → AllByRecursion IsTimestamp ts → list_all is_timestamp ts ≡ true
list_all-from [] h = refl
list_all-from (t ∷ ts) h = rw (is_timestamp-from t h.0) (list_all-from ts h.1)

pub AllByRecursion-from : (ts : List ℤ) → list_all is_timestamp ts ≡ true → AllByRecursion IsTimestamp ts
AllByRecursion-from [] h = tt
AllByRecursion-from (t ∷ ts) h =
    let b = and_parts (is_timestamp t) (list_all is_timestamp ts) h in
    (IsTimestamp-from t b.0, AllByRecursion-from ts b.1)

-- ---- The header's tests

record Counted (bytes : List ℕ) (n : ℕ) : Type 0 where
  pub magic : magic bytes ≡ 2
  pub crc : crc bytes ≡ checksum (drop 21 bytes)
  pub attributes : attributes bytes ≡ 0
  pub some : 0 < n
  pub few : n ≤ MAX_RECORDS
  pub last : last_offset_delta bytes + 1 ≡ n
  pub count : record_count bytes ≡ n

count_taken : (bytes : List ℕ) (n : ℕ) → count_at bytes ≡ Ok n → Counted bytes n
unfolding count_at
count_taken bytes n e =
    let m = guard_ok (not (eqb (magic bytes) 2)) faults.Magic _ n e in
    let c = guard_ok (not (eqb (crc bytes) (checksum (drop 21 bytes)))) faults.Crc _ n m.1 in
    let a = guard_ok (not (eqb (attributes bytes) 0)) faults.Attributes _ n c.1 in
    let k = guard_ok (is_miscounted bytes) faults.Count _ n a.1 in
    grind (arith, or_parts, not-false, eqb-true, eqb-false, ltb-false, ok_is)

counted_ok : (n last : ℕ) → 0 < n → n ≤ MAX_RECORDS → last + 1 ≡ n →
    (eqb n 0 || (ltb MAX_RECORDS n || not (eqb (last + 1) n))) ≡ false
counted_ok n last some few e = grind (arith, ne_eqb, le-ltb, eq-eqb)

count_again : (bytes : List ℕ) (n : ℕ) → Counted bytes n → count_at bytes ≡ Ok n
unfolding count_at
count_again bytes n h = grind (arith, counted_ok, eq-eqb)

pub record Sized (bytes : List ℕ) (n : ℕ) : Type 0 where
  pub size : number_at w32 8 bytes + 12 ≡ n
  pub least : 61 ≤ n
  pub most : n ≤ MAX_BATCH
  pub there : n ≤ length bytes

more_by_12 : (m : ℕ) → 49 ≤ m → 61 ≤ m + 12
more_by_12 m h = omega arith

negative : (m : ℕ) → ltb m (2 ^ 31) ≡ false → int_lt (cast_signed w32 m) (pos 49) ≡ false → ⊥
negative m high h = grind arith

long_enough : (m : ℕ) → int_lt (cast_signed w32 m) (pos 49) ≡ false → (cast_signed w32 m ≡ pos m) × (49 ≤ m)
long_enough m h = grind (arith, cases_lt, to_z_pos, ltb-false, negative, le-ltb)

pub size_taken : (bytes : List ℕ) (n : ℕ) → size_at bytes ≡ Ok n → Sized bytes n
unfolding size_at
size_taken bytes n e = grind (arith, guard_ok, long_enough, ok_is, ltb-false, more_by_12)

sized_by : (bytes : List ℕ) (n m : ℕ) → number_at w32 8 bytes ≡ m → m + 12 ≡ n → 61 ≤ n → n ≤ MAX_BATCH →
    n ≤ length bytes → size_at bytes ≡ Ok n
unfolding size_at
sized_by bytes n m number size least most there = grind (arith, to_z_pos, le-ltb)

size_again : (bytes : List ℕ) (n : ℕ) → Sized bytes n → size_at bytes ≡ Ok n
size_again bytes n h = sized_by bytes n (number_at w32 8 bytes) refl h.size h.least h.most h.there

-- ---- What is read is spelled so

-- the bytes that the checksum covers, by their fields, and all bytes by those
shape : ℕ → ℕ → ℤ → ℤ → ℤ → ℤ → ℤ → ℕ → List ℕ → List ℕ
shape a l base top id epoch first n rest =
    to_be_bytes w16 a ++ (to_be_bytes w32 l
    ++ (signed w64 base ++ (signed w64 top
    ++ (signed w64 id ++ (signed w16 epoch ++ (signed w32 first ++ (to_be_bytes w32 n ++ rest)))))))

outline : ℤ → ℕ → ℤ → ℕ → ℕ → List ℕ → List ℕ
outline offset len epoch m c rest =
    signed w64 offset ++ (to_be_bytes w32 len ++ (signed w32 epoch ++ (m ∷ (to_be_bytes w32 c ++ rest))))

covered_bytes : (bytes : List ℕ) → IsBytes bytes → 61 ≤ length bytes →
    drop 21 bytes ≡ shape (attributes bytes) (last_offset_delta bytes) (base_timestamp bytes) (max_timestamp bytes)
    (producer_id bytes) (producer_epoch bytes) (base_sequence bytes) (record_count bytes) (drop 61 bytes)
unfolding shape
covered_bytes bytes fits le =
    cc (
      number_field w16 2 wide16 21 bytes fits (omega arith),
      number_field w32 4 wide32 23 bytes fits (omega arith),
      signed_field w64 8 wide64 27 bytes fits (omega arith),
      signed_field w64 8 wide64 35 bytes fits (omega arith),
      signed_field w64 8 wide64 43 bytes fits (omega arith),
      signed_field w16 2 wide16 51 bytes fits (omega arith),
      signed_field w32 4 wide32 53 bytes fits (omega arith),
      number_field w32 4 wide32 57 bytes fits (omega arith),
    )

enclosed_bytes : (bytes : List ℕ) → IsBytes bytes → 61 ≤ length bytes →
    bytes ≡ outline (base_offset bytes) (number_at w32 8 bytes) (leader_epoch bytes) (magic bytes) (crc bytes)
    (drop 21 bytes)
unfolding outline
enclosed_bytes bytes fits le =
    cc (
      signed_field w64 8 wide64 0 bytes fits (omega arith),
      number_field w32 4 wide32 8 bytes fits (omega arith),
      signed_field w32 4 wide32 12 bytes fits (omega arith),
      drop-cons bytes 16 0 (omega arith),
      number_field w32 4 wide32 17 bytes fits (omega arith),
    )

covered_shape : (b : Batch) → checksummed_bytes b
    ≡ shape 0 (length b.records - 1) b.base_timestamp (greatest (timestamps b.base_timestamp b.records)) b.producer_id
    b.producer_epoch b.base_sequence (length b.records) (records_spelling 0 b.records)
unfolding shape
covered_shape b = refl

spelled_outline : (b : Batch) → batch_spelling b
    ≡ outline b.base_offset (9 + length (checksummed_bytes b)) b.leader_epoch 2 (checksum (checksummed_bytes b))
    (checksummed_bytes b)
unfolding outline batch_spelling
spelled_outline b = refl

-- the batch of the header of these bytes and these records
made_of : List ℕ → List Record → Batch
made_of bytes rs = record {
  base_offset = base_offset bytes;
  leader_epoch = leader_epoch bytes;
  base_timestamp = base_timestamp bytes;
  producer_id = producer_id bytes;
  producer_epoch = producer_epoch bytes;
  base_sequence = base_sequence bytes;
  records = rs;
}

made_spelled : (bytes : List ℕ) (rs : List Record) → IsBytes bytes → 61 ≤ length bytes → Counted bytes (length rs) →
    number_at w32 8 bytes + 12 ≡ length bytes → drop 61 bytes ≡ records_spelling 0 rs →
    max_timestamp bytes ≡ greatest (timestamps (base_timestamp bytes) rs) → bytes ≡ batch_spelling (made_of bytes rs)
unfolding made_of
made_spelled bytes rs fits long counted size records top =
    let b = made_of bytes rs in
    let last : last_offset_delta bytes ≡ length rs - 1 = omega (arith, counted.last) in
    let inner : drop 21 bytes ≡ checksummed_bytes b = cc (covered_bytes bytes fits long, covered_shape b) in
    let len : number_at w32 8 bytes ≡ 9 + length (checksummed_bytes b) =
    omega (arith, size, long, length-drop 21 bytes, ap length inner) in
    cc (enclosed_bytes bytes fits long, spelled_outline b)

record Timed (bytes : List ℕ) (rs : List Record) : Type 0 where
  pub base : is_timestamp (base_timestamp bytes) ≡ true
  pub each : list_all is_timestamp (timestamps (base_timestamp bytes) rs) ≡ true
  pub top : max_timestamp bytes ≡ greatest (timestamps (base_timestamp bytes) rs)

timed_taken : (bytes : List ℕ) (rs : List Record) (b : Batch) → timed_at bytes rs ≡ Ok b →
    Timed bytes rs × (made_of bytes rs ≡ b)
unfolding timed_at made_of
timed_taken bytes rs b e = grind (arith, guard_ok, or_parts, not-false, Decides-int_eq, ok_is)

made_fits : (bytes : List ℕ) (rs : List Record) → IsBytes bytes → length bytes ≤ MAX_BATCH → Counted bytes (length rs) →
    Timed bytes rs → AllByRecursion RecordFits rs → bytes ≡ batch_spelling (made_of bytes rs) →
    BatchFits (made_of bytes rs)
unfolding made_of
made_fits bytes rs fits small counted timed records spelled = record {
  base_offset = signed_fits w64 8 wide64 0 bytes fits;
  leader_epoch = signed_fits w32 4 wide32 12 bytes fits;
  producer_id = signed_fits w64 8 wide64 43 bytes fits;
  producer_epoch = signed_fits w16 2 wide16 51 bytes fits;
  base_sequence = signed_fits w32 4 wide32 53 bytes fits;
  some_records = counted.some;
  few_records = counted.few;
  records = records;
  base_timestamp = IsTimestamp-from (base_timestamp bytes) timed.base;
  each_timestamp = AllByRecursion-from (timestamps (base_timestamp bytes) rs) timed.each;
  few_bytes = rw (← spelled) small;
}

pub whole_takes : (bytes : List ℕ) (b : Batch) → IsBytes bytes → 61 ≤ length bytes → length bytes ≤ MAX_BATCH →
    number_at w32 8 bytes + 12 ≡ length bytes → whole_at bytes ≡ Ok b → BatchFits b × (bytes ≡ batch_spelling b)
unfolding whole_at
whole_takes bytes b fits long small size e =
    let c = bind_ok (count_at bytes) _ b e in
    let r = bind_ok (records_at c.0 0 (drop 61 bytes)) _ b c.2 in
    let recs = records_take c.0 0 (drop 61 bytes) r.0 (IsBytes-drop 61 bytes fits) r.1 in
    let counted : Counted bytes (length r.0) = rw recs.1 (count_taken bytes c.0 c.1) in
    let timed = timed_taken bytes r.0 b r.2 in
    let spelled = made_spelled bytes r.0 fits long counted size recs.0 timed.0.top in
    rw (← timed.1) (made_fits bytes r.0 fits small counted timed.0 recs.2 spelled, spelled)

-- batchLength is the same where the batch is alone
pub length_alone : (n : ℕ) (bytes : List ℕ) → 12 ≤ n → number_at w32 8 (take n bytes) ≡ number_at w32 8 bytes
length_alone n bytes le =
    let same : (i : ℕ) → i < 4 → get_or (drop 8 (take n bytes)) i 0 ≡ get_or (drop 8 bytes) i 0 =
    λ i lt. get_or-drop 8 (take n bytes) i 0 ∙ get_or-take n bytes (8 + i) 0 (omega arith)
    ∙ sym (get_or-drop 8 bytes i 0) in
    omega (arith, same 0 (omega arith), same 1 (omega arith), same 2 (omega arith), same 3 (omega arith))

pub batch_takes : (bytes : List ℕ) (x : Batch × ℕ) → IsBytes bytes → batch_at bytes ≡ Ok x →
    BatchFits x.0 × (x.1 ≤ length bytes) × (take x.1 bytes ≡ batch_spelling x.0)
unfolding batch_at
batch_takes bytes x fits e =
    let a = bind_ok (size_at bytes) _ x e in
    let w = bind_ok (whole_at (take a.0 bytes)) _ x a.2 in
    let sized = size_taken bytes a.0 a.1 in
    let alone = take a.0 bytes in
    let len : length alone ≡ a.0 = omega (arith, length-take a.0 bytes, sized.there) in
    let size : number_at w32 8 alone + 12 ≡ length alone = grind (arith, length_alone) in
    let whole = whole_takes alone w.0 (IsBytes-take a.0 bytes fits) (omega (arith, sized.least))
    (omega (arith, sized.most)) size w.1 in
    rw (← ok_is _ x w.2) (whole.0, sized.there, whole.1)

-- ---- What is spelled so is read

-- the fields that are in these bytes
record HasFields (b : Batch) (bytes : List ℕ) : Type 0 where
  pub base_offset : base_offset bytes ≡ b.base_offset
  pub size : number_at w32 8 bytes ≡ 9 + length (checksummed_bytes b)
  pub leader_epoch : leader_epoch bytes ≡ b.leader_epoch
  pub magic : magic bytes ≡ 2
  pub attributes : attributes bytes ≡ 0
  pub last : last_offset_delta bytes ≡ length b.records - 1
  pub base_timestamp : base_timestamp bytes ≡ b.base_timestamp
  pub max_timestamp : max_timestamp bytes ≡ greatest (timestamps b.base_timestamp b.records)
  pub producer_id : producer_id bytes ≡ b.producer_id
  pub producer_epoch : producer_epoch bytes ≡ b.producer_epoch
  pub base_sequence : base_sequence bytes ≡ b.base_sequence
  pub count : record_count bytes ≡ length b.records

read_signed : (w : Width) (len : ℕ) → IsWide w len → (z : ℤ) → FitsSigned w z →
    cast_signed w (from_be_bytes w (signed w z)) ≡ z
read_signed w len wide z fits = rw (wide.again (cast_unsigned w z) (Fits-of_z fits).fits) (to_z-of_z w z fits)

back_16 : (z : ℤ) → FitsSigned w16 z → cast_signed w16 (from_be_bytes w16 (signed w16 z)) ≡ z
back_16 = read_signed w16 2 wide16

back_32 : (z : ℤ) → FitsSigned w32 z → cast_signed w32 (from_be_bytes w32 (signed w32 z)) ≡ z
back_32 = read_signed w32 4 wide32

back_64 : (z : ℤ) → FitsSigned w64 z → cast_signed w64 (from_be_bytes w64 (signed w64 z)) ≡ z
back_64 = read_signed w64 8 wide64

-- timestamps fit 64 bits
pub timestamp_fits : (t : ℤ) → IsTimestamp t → FitsSigned w64 t
timestamp_fits (pos n) h = record { sfits = omega (arith, ints, h.1) }
timestamp_fits (negsuc n) h = absurd (omega (arith, ints, h.0))

max_timestamp_is : (ts : List ℤ) (a : ℤ) → IsTimestamp a → AllByRecursion IsTimestamp ts →
    IsTimestamp (fold int_max a ts)
max_timestamp_is [] a h all = h
max_timestamp_is (t ∷ ts) a h all =
    max_timestamp_is ts (int_max a t) (cond_both (int_lt t a) a t IsTimestamp (λ e. h) (λ e. all.0)) all.1

pub length-covered : (b : Batch) → length (batch_spelling b) ≡ 21 + length (checksummed_bytes b)
unfolding batch_spelling
length-covered b = omega arith

pub records_length : (b : Batch) → length (checksummed_bytes b) ≡ 40 + length (records_spelling 0 b.records)
records_length b = omega arith

has_fields : (b : Batch) (rest : List ℕ) → BatchFits b → HasFields b (batch_spelling b ++ rest)
unfolding batch_spelling
has_fields b rest fits =
    grind (
      arith,
      ints,
      timestamp_fits,
      max_timestamp_is,
      length-covered,
      back_64,
      from_be_bytes-to_be_bytes_4,
      back_32,
      from_be_bytes-to_be_bytes_2,
      back_16,
    )

crc_there : (b : Batch) (rest : List ℕ) → IsBytes (checksummed_bytes b) →
    crc (batch_spelling b ++ rest) ≡ checksum (checksummed_bytes b)
unfolding batch_spelling
crc_there b rest bytes = from_be_bytes-to_be_bytes_4 (checksum (checksummed_bytes b))
    (checksum-lt (checksummed_bytes b) (Each1-from_get_or (λ x. x < 256) (checksummed_bytes b) 0 (λ i lt. bytes i)))

covered_there : (b : Batch) (rest : List ℕ) → drop 21 (batch_spelling b ++ rest) ≡ checksummed_bytes b ++ rest
unfolding batch_spelling
covered_there b rest = refl

records_there : (b : Batch) (rest : List ℕ) → drop 61 (batch_spelling b ++ rest) ≡ records_spelling 0 b.records ++ rest
unfolding batch_spelling
records_there b rest = refl

timed_again : (b : Batch) (bytes : List ℕ) → BatchFits b → HasFields b bytes → timed_at bytes b.records ≡ Ok b
unfolding timed_at
timed_again b bytes fits s = grind (arith, is_timestamp-from, list_all-from, same_batch)

whole_again : (b : Batch) → BatchFits b → IsBytes (batch_spelling b) → whole_at (batch_spelling b) ≡ Ok b
unfolding whole_at
whole_again b fits bytes =
    let text = batch_spelling b in
    let s = rw append-nil at (has_fields b [] fits) in
    let inner = simp append-nil at (covered_there b []) in
    let behind = simp append-nil at (records_there b []) in
    let sum = rw append-nil at (crc_there b [] (rw inner at (IsBytes-drop 21 text bytes))) in
    let last : last_offset_delta text + 1 ≡ length b.records = omega (arith, s.last, fits.some_records) in
    let counted : Counted text (length b.records) = grind arith in
    let small : 0 + length b.records < 2 ^ 31 = omega (arith, fits.few_records) in
    rw (count_again text (length b.records) counted, behind, records_again 0 b.records small fits.records)
    (timed_again b text fits s)

pub batch_again : (b : Batch) (rest : List ℕ) → BatchFits b → IsBytes (batch_spelling b ++ rest) →
    batch_at (batch_spelling b ++ rest) ≡ Ok (b, length (batch_spelling b))
unfolding batch_at
batch_again b rest fits bytes =
    let text = batch_spelling b in
    let n = length text in
    let all = text ++ rest in
    let s = has_fields b rest fits in
    let whole = length-covered b in
    let inner = records_length b in
    let alone : take n all ≡ text = take_at text rest n refl in
    let text_bytes = rw alone at (IsBytes-take n all bytes) in
    let sized : Sized all n = grind (arith, length-append) in
    rw (size_again all n sized, alone, whole_again b fits text_bytes)

-- no spelling of a batch begins another
pub one_batch : (b c : Batch) (x y : List ℕ) → BatchFits b → BatchFits c →
    batch_spelling b ++ x ≡ batch_spelling c ++ y → (b ≡ c) × (x ≡ y)
one_batch b c x y fits also e =
    let s = has_fields b x fits in
    let t = rw (← e) at (has_fields c y also) in
    let row = sym (records_there b x) ∙ ap (drop 61) e ∙ records_there c y in
    let both = records_one 0 b.records c.records x y (omega (arith, fits.few_records)) (sym s.count ∙ t.count)
    fits.records also.records row in
    (grind (arith, same_batch), both.1)
