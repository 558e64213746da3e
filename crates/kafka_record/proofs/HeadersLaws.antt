-- Headers that are read where they are spelled.
use Rattle.std.proofs.Common.{◌≡◌, ℕ, zero, suc, ◌-◌, ◌<◌, ◌≤◌, Bool, true, false, cond, List, [], ◌∷◌, length}
use Rattle.std.proofs.Common.{drop, if◌then◌else◌, refl, sym, ap, subst, ◌∙◌, arith, Option, Some, None, Err, Ok, Result, ok_or, slice_range}
use Rattle.std.specs.{List.flat_map, Str.is_utf8}
use Rattle.std.proofs.lemmas.List.{length-append, length-drop}
use Rattle.wire_spec.specs.{declared.record.Header.Header, RecordSpelling.header, Memory.IsFault}
use Rattle.wire_spec.specs.RecordReading.{◌>>=◌, string_at, nullable_at, header_at, headers_at}
use Rattle.wire_spec.specs.declared.limits.TheConstants.{MAX_HEADER_KEY, MAX_HEADER_VALUE}
use Rattle.wire_spec.proofs.Varints.{IsBytes, IsBytes-drop}
use Rattle.wire_spec.proofs.RecordLaws.{bind_some, some_is, headers_take}
use Rattle.kafka_record.specs.declared.fault.RecordFault.{RecordFault}
use Rattle.kafka_record.specs.declared.fault.RecordFault.TheVariants.{Bad, Memory}
use Rattle.kafka_record.specs.SpelledHeaders.{any_header_at, read_headers, headers_in, AreSpelled}
use Rattle.kafka_record.proofs.Spelled.{between}

-- ---- A header in two steps

abbrev some_header : Header × List ℕ → Option (Header × List ℕ)
some_header x = Some x

-- a header whose key is UTF-8
abbrev pub tested : Header × List ℕ → Option (Header × List ℕ)
tested x = if is_utf8 x.0.key then Some x else None

value_tested : (key : List ℕ) (value : Option (Option (List ℕ) × List ℕ)) →
    (value >>= λ v. if is_utf8 key then Some (record { key = key; value = v.0 }, v.1) else None)
    ≡ ((value >>= λ v. Some (record { key = key; value = v.0 }, v.1)) >>= tested)
value_tested key None = refl
value_tested key (Some v) = refl

key_tested : (key : Option (List ℕ × List ℕ)) →
    (key >>= λ k. nullable_at MAX_HEADER_VALUE k.1 >>= λ v.
    if is_utf8 k.0 then Some (record { key = k.0; value = v.0 }, v.1) else None)
    ≡ ((key >>= λ k. nullable_at MAX_HEADER_VALUE k.1 >>= λ v. Some (record { key = k.0; value = v.0 }, v.1)) >>= tested)
key_tested None = refl
key_tested (Some k) = value_tested k.0 (nullable_at MAX_HEADER_VALUE k.1)

pub header_tested : (bytes : List ℕ) → header_at bytes ≡ (any_header_at bytes >>= tested)
unfolding header_at any_header_at
header_tested bytes = key_tested (string_at MAX_HEADER_KEY bytes)

by_test : (b : Bool) (y x : Header × List ℕ) → cond b (some_header y) None ≡ Some x → some_header y ≡ Some x
by_test true y x e = e
by_test false y x e = absurd cc

some_tested : (any : Option (Header × List ℕ)) (x : Header × List ℕ) → (any >>= tested) ≡ Some x → any ≡ Some x
some_tested None x e = absurd cc
some_tested (Some y) x e = by_test (is_utf8 y.0.key) y x e

-- what is a header is one before its key is tested
pub known : (bytes : List ℕ) (x : Header × List ℕ) → header_at bytes ≡ Some x → any_header_at bytes ≡ Some x
known bytes x e = some_tested (any_header_at bytes) x (sym (header_tested bytes) ∙ e)

pub passed : (bytes : List ℕ) (x : Header × List ℕ) (b : Bool) → any_header_at bytes ≡ Some x →
    b ≡ is_utf8 x.0.key → header_at bytes ≡ cond b (Some x) None
passed bytes x b e is = header_tested bytes ∙ rw (e, is) refl

-- ---- Headers one after the other

pub none_in : (bytes : List ℕ) → headers_in 0 bytes ≡ []
unfolding headers_at
none_in bytes = refl

pub count_is : (count : ℕ) (bytes : List ℕ) (x : List Header × List ℕ) → headers_at count bytes ≡ Some x →
    length x.0 ≡ count
unfolding headers_at
count_is zero bytes x e = let same : ([], bytes) ≡ x = some_is ([], bytes) x e in rw (← same) refl
count_is (suc n) bytes x e =
    let a = bind_some (header_at bytes) _ x e in
    let b = bind_some (headers_at n a.0.1) _ x a.2 in
    rw (← some_is _ x b.2) (ap suc (count_is n a.0.1 b.0 b.1))

pub length_in : (bytes : List ℕ) (start end count : ℕ) → AreSpelled bytes start end count →
    length (headers_in count (drop start bytes)) ≡ count
length_in bytes start end count s = count_is count (drop start bytes) _ s.read

-- the bytes of them
pub bytes_are : (bytes : List ℕ) (start end count : ℕ) → IsBytes bytes → AreSpelled bytes start end count →
    slice_range bytes start end ≡ flat_map header (headers_in count (drop start bytes))
bytes_are bytes start end count fits s =
    between bytes _ start end (headers_take count (drop start bytes) _ (IsBytes-drop start bytes fits) s.read).0 s.order
    s.within

-- the first of them, and the others
pub record IsFirst (bytes : List ℕ) (start end count others after : ℕ) (h : Header) : Type 0 where
  pub all : headers_in count (drop start bytes) ≡ h ∷ headers_in others (drop after bytes)
  pub rest : AreSpelled bytes after end others

pub read_is : (n : ℕ) (bytes rest : List ℕ) (x : List Header × List ℕ) → headers_at n bytes ≡ Some x → x.1 ≡ rest →
    headers_at n bytes ≡ Some (headers_in n bytes, rest)
read_is n bytes rest x e is = rw (e, ← is) refl

first_of : (bytes : List ℕ) (start end n after : ℕ) (h : Header) → IsBytes bytes → AreSpelled bytes start end (suc n) →
    any_header_at (drop start bytes) ≡ Some (h, drop after bytes) → after ≤ length bytes →
    IsFirst bytes start end (suc n) n after h
unfolding headers_at
first_of bytes start end n after h fits s e le =
    let a = bind_some (header_at (drop start bytes)) _ _ s.read in
    let b = bind_some (headers_at n a.0.1) _ _ a.2 in
    let same : ◌≡◌ {A = Header × List ℕ} (h, drop after bytes) a.0 =
    some_is _ _ (sym e ∙ known (drop start bytes) a.0 a.1) in
    let all = some_is _ _ b.2 in
    let from : headers_at n (drop after bytes) ≡ Some b.0 =
    subst (λ (x : Header × List ℕ). headers_at n x.1 ≡ Some b.0) (sym same) b.1 in
    let ends : b.0.1 ≡ drop end bytes = ap (λ (x : List Header × List ℕ). x.1) all in
    let taken = headers_take n (drop after bytes) b.0 (IsBytes-drop after bytes fits) from in
    let read = read_is n (drop after bytes) (drop end bytes) b.0 from ends in
    record {
      all = sym (ap (λ (x : List Header × List ℕ). x.0) all)
          ∙ (ap (λ (k : Header). k ∷ b.0.0) (sym (ap (λ (x : Header × List ℕ). x.0) same))
          ∙ ap (λ (hs : List Header). h ∷ hs) (sym (ap read_headers from)));
      rest = record {
        small = s.small;
        order = omega (
          arith,
          ap length taken.0.parts,
          length-append (flat_map header b.0.0) b.0.1,
          ap length ends,
          length-drop after bytes,
          length-drop end bytes,
          s.within,
        );
        within = s.within;
        read = read;
      };
    }

pub first_is : (bytes : List ℕ) (start end count after : ℕ) (h : Header) → IsBytes bytes → 0 < count →
    AreSpelled bytes start end count → any_header_at (drop start bytes) ≡ Some (h, drop after bytes) →
    after ≤ length bytes → IsFirst bytes start end count (count - 1) after h
first_is bytes start end zero after h fits some s e le = absurd (omega arith)
first_is bytes start end (suc n) after h fits some s e le =
    let one_less : n ≡ suc n - 1 = omega arith in
    subst (λ (k : ℕ). IsFirst bytes start end (suc n) k after h) one_less (first_of bytes start end n after h fits s e le)

-- there is a first one
pub is_first : (bytes : List ℕ) (start end count : ℕ) → 0 < count → AreSpelled bytes start end count →
    (x : Header × List ℕ) × (any_header_at (drop start bytes) ≡ Some x)
unfolding headers_at
is_first bytes start end zero some s = absurd (omega arith)
is_first bytes start end (suc n) some s =
    let a = bind_some (header_at (drop start bytes)) _ _ s.read in
    (a.0, known (drop start bytes) a.0 a.1)

-- and reading it is not refused
pub not_refused : (read : Option (Header × List ℕ)) (x : Header × List ℕ) (fault : RecordFault) → read ≡ Some x →
    IsFault Memory fault (ok_or read Bad) → fault ≡ Bad → ⊥
not_refused read x Memory e said bad = let clash : Memory ≡ Bad = bad in absurd cc
not_refused read x Bad e said bad =
    let reported : ok_or read Bad ≡ Err Bad = said (λ m. let clash : Bad ≡ Memory = m in absurd cc) in
    let clash : ◌≡◌ {A = Result (Header × List ℕ) RecordFault} (Ok x) (Err Bad) =
    subst (λ (o : Option (Header × List ℕ)). ok_or o Bad ≡ Err Bad) e reported in
    absurd cc

fault_of : (any : Option (Header × List ℕ)) (fault : RecordFault) → ok_or any Bad ≡ Err fault →
    ok_or (any >>= tested) Bad ≡ Err fault
fault_of None fault e = let bad : ◌≡◌ {A = Result (Header × List ℕ) RecordFault} (Err Bad) (Err fault) = e in cc
fault_of (Some x) fault e =
    let clash : ◌≡◌ {A = Result (Header × List ℕ) RecordFault} (Ok x) (Err fault) = e in
    absurd cc

-- a refusal of what is before the test of the key is one of the header
pub refused_as : (fault : RecordFault) (bytes : List ℕ) → IsFault Memory fault (ok_or (any_header_at bytes) Bad) →
    IsFault Memory fault (ok_or (header_at bytes) Bad)
refused_as fault bytes said other =
    ap (λ (o : Option (Header × List ℕ)). ok_or o Bad) (header_tested bytes) ∙ fault_of (any_header_at bytes) fault (said other)
