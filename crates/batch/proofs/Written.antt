-- Writing one part after the other.
use Rattle.std.proofs.Common.{◌≡◌, ℕ, suc, ◌+◌, ◌-◌, ◌≤◌, ◌<◌, List, [], ◌∷◌, ◌++◌, length, get_or, take, drop, Option}
use Rattle.std.proofs.Common.{Some, refl, sym, ap, ◌∙◌, append_assoc, arith, ℤ, pos, FitsSigned}
use Rattle.std.specs.Int.{Width, w16, w32, w64, to_be_bytes, cast_signed, cast_unsigned}
use Rattle.std.specs.List.{AllByRecursion}
use Rattle.std.proofs.lemmas.Int.{to_z-of_z}
use Rattle.std.proofs.lemmas.List.{take_more, append-nil, length-append, length-take, length-drop}
use Rattle.wire_spec.specs.declared.{record.Record.Record, record.Batch.Batch}
use Rattle.wire_spec.specs.{Checksum.checksum, RecordSpelling.record_spelling}
use Rattle.wire_spec.specs.BatchSpelling.{IsTimestamp, timestamps, greatest, signed, records_spelling}
use Rattle.wire_spec.specs.BatchSpelling.{checksummed_bytes, batch_spelling}
use Rattle.wire_spec.proofs.BatchLaws.{list_all-from, records_length}
use Rattle.batch.specs.{Latest.latest_of, Heads.front_of, Heads.header_of}

-- two parts in a row
pub row : (old mid new a b : List ℕ) → mid ≡ old ++ a → new ≡ mid ++ b → new ≡ old ++ (a ++ b)
row old mid new a b p q = q ∙ ap (λ (m : List ℕ). m ++ b) p ∙ append_assoc old a b

-- a signed number as the code passes it
pub kept : (w : Width) (z : ℤ) (old new : List ℕ) → FitsSigned w z →
    new ≡ old ++ signed w (cast_signed w (cast_unsigned w z)) → new ≡ old ++ signed w z
kept w z old new fits e = e ∙ ap (λ (x : ℤ). old ++ signed w x) (to_z-of_z w z fits)

records_spelling-append : (d : ℕ) (xs ys : List Record) →
    records_spelling d (xs ++ ys) ≡ records_spelling d xs ++ records_spelling (d + length xs) ys
records_spelling-append d [] ys =
    let e : d + 0 ≡ d = omega arith in
    ap (λ (k : ℕ). records_spelling k ys) (sym e)
records_spelling-append d (x ∷ xs) ys =
    let e : suc d + length xs ≡ d + suc (length xs) = omega arith in
    ap (λ (r : List ℕ). record_spelling (pos d) x ++ r)
    (records_spelling-append (suc d) xs ys
    ∙ ap (λ (k : ℕ). records_spelling (suc d) xs ++ records_spelling k ys) e)
    ∙ sym (append_assoc (record_spelling (pos d) x) (records_spelling (suc d) xs)
    (records_spelling (d + suc (length xs)) ys))

-- one more record
pub spelling_more : (rs : List Record) (i : ℕ) (r : Record) → i < length rs → r ≡ get_or rs i r →
    records_spelling 0 (take (i + 1) rs) ≡ records_spelling 0 (take i rs) ++ record_spelling (pos i) r
spelling_more rs i r lt e =
    let front = take i rs in
    let size : 0 + length front ≡ i = omega (arith, length-take i rs) in
    ap (records_spelling 0) (take_more rs i r lt ∙ ap (λ (x : Record). front ++ x ∷ []) (sym e))
    ∙ records_spelling-append 0 front (r ∷ [])
    ∙ ap (λ (k : ℕ). records_spelling 0 front ++ (record_spelling (pos k) r ++ [])) size
    ∙ ap (λ (s : List ℕ). records_spelling 0 front ++ s) (append-nil (record_spelling (pos i) r))

pub length_more : (rs : List Record) (i n len : ℕ) (r : Record) → i < length rs → r ≡ get_or rs i r →
    n ≡ length (records_spelling 0 (take i rs)) → len ≡ length (record_spelling (pos i) r) →
    n + len ≡ length (records_spelling 0 (take (i + 1) rs))
length_more rs i n len r lt e so_far here =
    let front = records_spelling 0 (take i rs) in
    let last = record_spelling (pos i) r in
    omega (arith, so_far, here, length-append front last, ap length (spelling_more rs i r lt e))

pub items_more : (rs : List Record) (i : ℕ) (r : Record) (old out new : List ℕ) → i < length rs → r ≡ get_or rs i r →
    out ≡ old ++ records_spelling 0 (take i rs) → new ≡ out ++ record_spelling (pos i) r →
    new ≡ old ++ records_spelling 0 (take (i + 1) rs)
items_more rs i r old out new lt e so_far here =
    row old out new (records_spelling 0 (take i rs)) (record_spelling (pos i) r) so_far here
    ∙ ap (λ (s : List ℕ). old ++ s) (sym (spelling_more rs i r lt e))

pub latest_some : (base : ℤ) (rs : List Record) → AllByRecursion IsTimestamp (timestamps base rs) →
    latest_of base rs ≡ Some (greatest (timestamps base rs))
unfolding latest_of
latest_some base rs h = rw (list_all-from (timestamps base rs) h) refl

header_then : (b : Batch) → header_of b (greatest (timestamps b.base_timestamp b.records)) (length b.records)
    ++ records_spelling 0 b.records ≡ checksummed_bytes b
header_then b = refl

pub covered_is : (b : Batch) (rs : List Record) (g : ℤ) (n : ℕ) (old mid new : List ℕ) → rs ≡ b.records →
    g ≡ greatest (timestamps b.base_timestamp rs) → n ≡ length rs → mid ≡ old ++ header_of b g n →
    new ≡ mid ++ records_spelling 0 rs → new ≡ old ++ checksummed_bytes b
covered_is b rs g n old mid new same top count first second =
    let top' : g ≡ greatest (timestamps b.base_timestamp b.records) = top
    ∙ ap (λ (x : List Record). greatest (timestamps b.base_timestamp x)) same in
    let count' : n ≡ length b.records = count ∙ ap length same in
    let first' : mid ≡ old ++ header_of b (greatest (timestamps b.base_timestamp b.records)) (length b.records) = first
    ∙ ap (λ (x : ℤ). old ++ header_of b x n) top'
    ∙ ap (λ (m : ℕ). old ++ header_of b (greatest (timestamps b.base_timestamp b.records)) m) count' in
    let second' : new ≡ mid ++ records_spelling 0 b.records = second
    ∙ ap (λ (x : List Record). mid ++ records_spelling 0 x) same in
    row old mid new (header_of b (greatest (timestamps b.base_timestamp b.records)) (length b.records))
    (records_spelling 0 b.records) first' second' ∙ ap (λ (s : List ℕ). old ++ s) (header_then b)

sealed : (b : Batch) (size : ℕ) (rest : List ℕ) →
    take 17 (front_of b size ++ rest)
    ++ (to_be_bytes w32 (checksum (drop 21 (front_of b size ++ rest))) ++ drop 21 (front_of b size ++ rest))
    ≡ signed w64 b.base_offset ++ (to_be_bytes w32 (size - 12)
    ++ (signed w32 b.leader_epoch ++ (2 ∷ (to_be_bytes w32 (checksum rest) ++ rest))))
sealed b size rest = refl

pub spelled_is : (b : Batch) (size : ℕ) (first second third : List ℕ) →
    size ≡ 61 + length (records_spelling 0 b.records) → first ≡ [] ++ front_of b size →
    second ≡ first ++ checksummed_bytes b → third ≡ take 17 second
    ++ (to_be_bytes w32 (checksum (drop 21 second)) ++ drop 21 second) → third ≡ batch_spelling b
unfolding batch_spelling
spelled_is b size first second third e p q r =
    let whole : second ≡ front_of b size ++ checksummed_bytes b = q ∙ ap (λ (s : List ℕ). s ++ checksummed_bytes b) p in
    let len : size - 12 ≡ 9 + length (checksummed_bytes b) = omega (arith, e, records_length b) in
    r ∙ ap (λ (s : List ℕ). take 17 s ++ (to_be_bytes w32 (checksum (drop 21 s)) ++ drop 21 s)) whole
    ∙ sealed b size (checksummed_bytes b)
    ∙ ap (λ (n : ℕ). signed w64 b.base_offset
    ++ (to_be_bytes w32 n ++ (signed w32 b.leader_epoch
    ++ (2 ∷ (to_be_bytes w32 (checksum (checksummed_bytes b)) ++ checksummed_bytes b))))) len

-- where records were written after the beginning, and then the checksum
pub finished_is : (b : Batch) (size n : ℕ) (g : ℤ) (begun written all : List ℕ) →
    size ≡ 61 + length (records_spelling 0 b.records) → g ≡ greatest (timestamps b.base_timestamp b.records) →
    n ≡ length b.records → begun ≡ front_of b size ++ header_of b g n →
    written ≡ begun ++ records_spelling 0 b.records →
    all ≡ take 17 written ++ (to_be_bytes w32 (checksum (drop 21 written)) ++ drop 21 written) → all ≡ batch_spelling b
finished_is b size n g begun written all long top count e1 e2 e3 =
    spelled_is b size (front_of b size) written all long refl
    (covered_is b b.records g n (front_of b size) begun written refl top count e1 e2) e3

pub header_is : (b : Batch) (g : ℤ) (n : ℕ) (o0 o1 o2 o3 o4 o5 o6 o7 o8 : List ℕ) → FitsSigned w64 b.base_timestamp →
    FitsSigned w64 g → FitsSigned w64 b.producer_id → FitsSigned w16 b.producer_epoch → FitsSigned w32 b.base_sequence →
    o1 ≡ o0 ++ to_be_bytes w16 0 → o2 ≡ o1 ++ to_be_bytes w32 (n - 1) →
    o3 ≡ o2 ++ signed w64 (cast_signed w64 (cast_unsigned w64 b.base_timestamp)) →
    o4 ≡ o3 ++ signed w64 (cast_signed w64 (cast_unsigned w64 g)) →
    o5 ≡ o4 ++ signed w64 (cast_signed w64 (cast_unsigned w64 b.producer_id)) →
    o6 ≡ o5 ++ signed w16 (cast_signed w16 (cast_unsigned w16 b.producer_epoch)) →
    o7 ≡ o6 ++ signed w32 (cast_signed w32 (cast_unsigned w32 b.base_sequence)) → o8 ≡ o7 ++ to_be_bytes w32 n →
    o8 ≡ o0 ++ header_of b g n
header_is b g n o0 o1 o2 o3 o4 o5 o6 o7 o8 f3 f4 f5 f6 f7 e1 e2 e3 e4 e5 e6 e7 e8 =
    let last = to_be_bytes w32 n in
    let r7 = signed w32 b.base_sequence ++ last in
    let r6 = signed w16 b.producer_epoch ++ r7 in
    let r5 = signed w64 b.producer_id ++ r6 in
    let r4 = signed w64 g ++ r5 in
    let r3 = signed w64 b.base_timestamp ++ r4 in
    let r2 = to_be_bytes w32 (n - 1) ++ r3 in
    let q7 = row o6 o7 o8 (signed w32 b.base_sequence) last (kept w32 b.base_sequence o6 o7 f7 e7) e8 in
    let q6 = row o5 o6 o8 (signed w16 b.producer_epoch) r7 (kept w16 b.producer_epoch o5 o6 f6 e6) q7 in
    let q5 = row o4 o5 o8 (signed w64 b.producer_id) r6 (kept w64 b.producer_id o4 o5 f5 e5) q6 in
    let q4 = row o3 o4 o8 (signed w64 g) r5 (kept w64 g o3 o4 f4 e4) q5 in
    let q3 = row o2 o3 o8 (signed w64 b.base_timestamp) r4 (kept w64 b.base_timestamp o2 o3 f3 e3) q4 in
    let q2 = row o1 o2 o8 (to_be_bytes w32 (n - 1)) r3 e2 q3 in
    row o0 o1 o8 (to_be_bytes w16 0) r2 e1 q2

pub front_is : (b : Batch) (size : ℕ) (o0 o1 o2 o3 o4 o5 : List ℕ) → FitsSigned w64 b.base_offset →
    FitsSigned w32 b.leader_epoch → o1 ≡ o0 ++ signed w64 (cast_signed w64 (cast_unsigned w64 b.base_offset)) →
    o2 ≡ o1 ++ to_be_bytes w32 (size - 12) →
    o3 ≡ o2 ++ signed w32 (cast_signed w32 (cast_unsigned w32 b.leader_epoch)) → o4 ≡ o3 ++ 2 ∷ [] →
    o5 ≡ o4 ++ to_be_bytes w32 0 → o5 ≡ o0 ++ front_of b size
front_is b size o0 o1 o2 o3 o4 o5 f1 f3 e1 e2 e3 e4 e5 =
    let last = to_be_bytes w32 0 in
    let r4 = (2 ∷ []) ++ last in
    let r3 = signed w32 b.leader_epoch ++ r4 in
    let r2 = to_be_bytes w32 (size - 12) ++ r3 in
    let q4 = row o3 o4 o5 (2 ∷ []) last e4 e5 in
    let q3 = row o2 o3 o5 (signed w32 b.leader_epoch) r4 (kept w32 b.leader_epoch o2 o3 f3 e3) q4 in
    let q2 = row o1 o2 o5 (to_be_bytes w32 (size - 12)) r3 e2 q3 in
    row o0 o1 o5 (signed w64 b.base_offset) r2 (kept w64 b.base_offset o0 o1 f1 e1) q2

pub some_same : (o : Option ℤ) (x y : ℤ) → o ≡ Some x → o ≡ Some y → x ≡ y
some_same o x y p q = cc

pub sealed_length : (old new : List ℕ) (c : ℕ) → 21 ≤ length old →
    new ≡ take 17 old ++ (to_be_bytes w32 c ++ drop 21 old) → length new ≡ length old
sealed_length old new c long e =
    omega (
      arith,
      long,
      ap length e,
      length-append (take 17 old) (to_be_bytes w32 c ++ drop 21 old),
      length-append
          (to_be_bytes w32 c) (drop 21 old),
      length-take 17 old,
      length-drop 21 old,
    )
