-- The laws of records: what is read is spelled so, and what is spelled so is read.
use Rattle.std.proofs.Common.{◌≡◌, ℕ, zero, suc, ◌+◌, ◌-◌, ◌*◌, ◌^◌, ◌<◌, ◌≤◌, Bool, true, false, cond, List, [], ◌∷◌}
use Rattle.std.proofs.Common.{◌++◌, length, take, drop, refl, sym, ap, append_assoc, arith, ℤ, pos, negsuc, Option}
use Rattle.std.proofs.Common.{Some, None, Result, Ok, Err, IfSome, IfOk, FitsSigned}
use Rattle.std.specs.{Int.w32, Int.w64, List.flat_map, List.AllByRecursion, Ordering.int_eq, Str.is_utf8}
use Rattle.std.proofs.lemmas.Bool.{ltb-false, le-ltb, or_parts}
use Rattle.std.proofs.{lemmas.Bool.Decides.Decides-int_eq, lemmas.List.Concat.flat_map-cons}
use Rattle.std.proofs.{lemmas.Str.is_utf8-from_IsUtf8, lemmas.Str.IsUtf8-from_is_utf8, lemmas.Option.cond_some}
use Rattle.std.proofs.lemmas.List.{take-append-drop, length-append, length-take, take_at, drop_at}
use Rattle.wire_spec.specs.declared.{fault.VarintFault.VarintFault, record.Header.Header, record.Record.Record}
use Rattle.wire_spec.specs.Varint.{varint, varlong, read_varint, read_varlong, IsVarint, IsVarlong}
use Rattle.wire_spec.specs.declared.limits.TheConstants.{MAX_KEY, MAX_VALUE, MAX_HEADERS, MAX_HEADER_KEY}
use Rattle.wire_spec.specs.declared.limits.TheConstants.{MAX_HEADER_VALUE, MAX_HEADER_SIZE, MAX_BODY_SIZE}
use Rattle.wire_spec.specs.RecordSpelling.{HeaderFits, RecordFits, string, nullable, header, record_body}
use Rattle.wire_spec.specs.RecordSpelling.{record_spelling}
use Rattle.wire_spec.specs.RecordReading.{◌>>=◌, with_rest, varint_at, varlong_at, bytes_at, nullable_bytes_at}
use Rattle.wire_spec.specs.RecordReading.{string_at, nullable_at, header_at, headers_at, counted_at, attributes_at}
use Rattle.wire_spec.specs.RecordReading.{delta_at, body_at, record_at}
use Rattle.wire_spec.proofs.Varints.{IsBytes, IsBytes-rest, IsBytes-drop, varint_found, varlong_found, read_varint-form}
use Rattle.wire_spec.proofs.Varints.{read_varlong-form, IsVarint-varint, IsVarlong-varlong, varint_is, varlong_is}
use Rattle.wire_spec.proofs.Varints.{length-varint, length-varlong}

-- the value of a step that gave one
pub bind_some : {A B : Type 0} (r : Option A) (f : A → Option B) (y : B) → (r >>= f) ≡ Some y →
    (x : A) × (r ≡ Some x) × (f x ≡ Some y)
bind_some (Some x) f y e = (x, refl, e)
bind_some None f y e = absurd cc

bind_to : {A B : Type 0} {P : Type 0} (r : Option A) (f : A → Option B) (y : B) → (r >>= f) ≡ Some y →
    ((x : A) → r ≡ Some x → f x ≡ Some y → P) → P
bind_to r f y e go = let b = bind_some r f y e in go b.0 b.1 b.2

-- a test that let a value pass
pub guard_some : {A : Type 0} (b : Bool) (r : Option A) (y : A) → cond b None r ≡ Some y → (b ≡ false) × (r ≡ Some y)
guard_some true r y e = absurd cc
guard_some false r y e = (refl, e)

abbrev whole : {A : Type 0} → A → Option A
whole x = Some x

pub some_is : {A : Type 0} (x y : A) → whole x ≡ whole y → x ≡ y
some_is x y e = cc

-- what a reader took from the front
pub record Takes (bytes text rest : List ℕ) : Type 0 where
  pub parts : bytes ≡ text ++ rest
  pub rest_fits : IsBytes rest

pub Takes-then : (a x b y c : List ℕ) → Takes a x b → Takes b y c → Takes a (x ++ y) c
Takes-then a x b y c p q = grind (arith, append_assoc)

-- ---- Varints

number_took : (spell : ℤ → List ℕ) (Fits : ℤ → Type 0) (Is : List ℕ → ℤ → Type 0) →
    ((form : List ℕ) (z : ℤ) → Is form z → (form ≡ spell z) × Fits z) → (bytes : List ℕ)
    (r : Result (ℤ × ℕ) VarintFault) (x : ℤ × List ℕ) → IsBytes bytes →
    IfOk r (λ v. (v.1 ≤ length bytes) × Is (take v.1 bytes) v.0) → with_rest bytes r ≡ Some x →
    Takes bytes (spell x.0) x.1 × Fits x.0
number_took spell Fits Is is bytes (Err f) x fits found e = absurd cc
number_took spell Fits Is is bytes (Ok v) x fits found e =
    let form = is (take v.1 bytes) v.0 found.1 in
    let taken : Takes bytes (spell v.0) (drop v.1 bytes) = record {
      parts = rw (← form.0) (sym (take-append-drop v.1 bytes));
      rest_fits = IsBytes-drop v.1 bytes fits;
    } in
    rw (← some_is (v.0, drop v.1 bytes) x e) (taken, form.1)

pub varint_takes : (bytes : List ℕ) (x : ℤ × List ℕ) → IsBytes bytes → varint_at bytes ≡ Some x →
    Takes bytes (varint x.0) x.1 × FitsSigned w32 x.0
varint_takes bytes x fits e =
    number_took varint (FitsSigned w32) IsVarint (λ form z h. (varint_is form z h, h.fits)) bytes
    (read_varint bytes) x fits (varint_found bytes (read_varint bytes) fits refl) e

pub varint_again : (z : ℤ) (rest : List ℕ) → FitsSigned w32 z → varint_at (varint z ++ rest) ≡ Some (z, rest)
varint_again z rest h = grind (arith, read_varint-form, IsVarint-varint, drop_at)

pub varlong_takes : (bytes : List ℕ) (x : ℤ × List ℕ) → IsBytes bytes → varlong_at bytes ≡ Some x →
    Takes bytes (varlong x.0) x.1 × FitsSigned w64 x.0
varlong_takes bytes x fits e =
    number_took varlong (FitsSigned w64) IsVarlong (λ form z h. (varlong_is form z h, h.fits)) bytes
    (read_varlong bytes) x fits (varlong_found bytes (read_varlong bytes) fits refl) e

pub varlong_again : (z : ℤ) (rest : List ℕ) → FitsSigned w64 z → varlong_at (varlong z ++ rest) ≡ Some (z, rest)
varlong_again z rest h = grind (arith, read_varlong-form, IsVarlong-varlong, drop_at)

fits_pos : (n : ℕ) → n < 2 ^ 31 → FitsSigned w32 (pos n)
fits_pos n h = record { sfits = omega arith }

-- ---- Strings and nulls

bytes_take : (limit : ℕ) (z : ℤ) (bytes : List ℕ) (x : List ℕ × List ℕ) → IsBytes bytes →
    bytes_at limit z bytes ≡ Some x → Takes bytes x.0 x.1 × (z ≡ pos (length x.0)) × (length x.0 ≤ limit)
bytes_take limit (negsuc n) bytes x fits e = absurd cc
bytes_take limit (pos n) bytes x fits e =
    grind (arith, guard_some, or_parts, ltb-false, length-take, some_is, take-append-drop, IsBytes-drop)

bytes_again : (limit : ℕ) (s rest : List ℕ) → length s ≤ limit →
    bytes_at limit (pos (length s)) (s ++ rest) ≡ Some (s, rest)
bytes_again limit s rest few = grind (arith, le-ltb, length-append, take_at, drop_at)

pub string_takes : (limit : ℕ) (bytes : List ℕ) (x : List ℕ × List ℕ) → IsBytes bytes → string_at limit bytes ≡ Some x →
    Takes bytes (string x.0) x.1 × (length x.0 ≤ limit)
unfolding string_at
string_takes limit bytes x fits e =
    let b = bind_some (varint_at bytes) _ x e in
    let n = varint_takes bytes b.0 fits b.1 in
    let s = bytes_take limit b.0.0 b.0.1 x n.0.rest_fits b.2 in
    (Takes-then _ _ _ _ _ (rw s.1 at n.0) s.0, s.2)

pub string_again : (limit : ℕ) (s rest : List ℕ) → limit < 2 ^ 31 → length s ≤ limit →
    string_at limit (string s ++ rest) ≡ Some (s, rest)
unfolding string_at
string_again limit s rest small few = grind (arith, varint_again, fits_pos, append_assoc, bytes_again)

nullable_bytes_take : (limit : ℕ) (z : ℤ) (bytes before : List ℕ) (x : Option (List ℕ) × List ℕ) → IsBytes bytes →
    Takes before (varint z) bytes → nullable_bytes_at limit z bytes ≡ Some x →
    Takes before (nullable x.0) x.1 × IfSome x.0 (λ s. length s ≤ limit)
nullable_bytes_take limit (negsuc zero) bytes before x fits t e = grind (arith, some_is)
nullable_bytes_take limit (negsuc (suc n)) bytes before x fits t e = absurd cc
nullable_bytes_take limit (pos n) bytes before x fits t e =
    let b = bind_some (bytes_at limit (pos n) bytes) _ x e in
    let s = bytes_take limit (pos n) bytes b.0 fits b.1 in
    rw (← some_is _ x b.2) (Takes-then _ _ _ _ _ (rw s.1 at t) s.0, s.2)

pub nullable_takes : (limit : ℕ) (bytes : List ℕ) (x : Option (List ℕ) × List ℕ) → IsBytes bytes →
    nullable_at limit bytes ≡ Some x → Takes bytes (nullable x.0) x.1 × IfSome x.0 (λ s. length s ≤ limit)
unfolding nullable_at
nullable_takes limit bytes x fits e =
    let b = bind_some (varint_at bytes) _ x e in
    let n = varint_takes bytes b.0 fits b.1 in
    nullable_bytes_take limit b.0.0 b.0.1 bytes x n.0.rest_fits n.0 b.2

pub nullable_again : (limit : ℕ) (o : Option (List ℕ)) (rest : List ℕ) → limit < 2 ^ 31 →
    IfSome o (λ s. length s ≤ limit) → nullable_at limit (nullable o ++ rest) ≡ Some (o, rest)
unfolding nullable_at
nullable_again limit None rest small few = rw (varint_again (negsuc 0) rest (record { sfits = omega arith })) refl
nullable_again limit (Some s) rest small few = grind (arith, varint_again, fits_pos, append_assoc, bytes_again)

-- ---- Headers

pub header_takes : (bytes : List ℕ) (x : Header × List ℕ) → IsBytes bytes → header_at bytes ≡ Some x →
    Takes bytes (header x.0) x.1 × HeaderFits x.0
unfolding header_at
header_takes bytes x fits e =
    let a = bind_some (string_at MAX_HEADER_KEY bytes) _ x e in
    let b = bind_some (nullable_at MAX_HEADER_VALUE a.0.1) _ x a.2 in
    let g = cond_some (is_utf8 a.0.0) _ x b.2 in
    let key = string_takes MAX_HEADER_KEY bytes a.0 fits a.1 in
    let value = nullable_takes MAX_HEADER_VALUE a.0.1 b.0 key.0.rest_fits b.1 in
    rw (← g.1) (
      Takes-then _ _ _ _ _ key.0 value.0,
      record { key = key.1; text = IsUtf8-from_is_utf8 a.0.0 g.0; value = value.1 },
    )

pub header_again : (h : Header) (rest : List ℕ) → HeaderFits h → header_at (header h ++ rest) ≡ Some (h, rest)
unfolding header_at
header_again h rest fits = grind (arith, append_assoc, string_again, nullable_again, is_utf8-from_IsUtf8)

pub headers_take : (n : ℕ) (bytes : List ℕ) (x : List Header × List ℕ) → IsBytes bytes → headers_at n bytes ≡ Some x →
    Takes bytes (flat_map header x.0) x.1 × (length x.0 ≡ n) × AllByRecursion HeaderFits x.0
unfolding headers_at
headers_take zero bytes x fits e = grind (arith, some_is)
headers_take (suc n) bytes x fits e =
    let a = bind_some (header_at bytes) _ x e in
    let b = bind_some (headers_at n a.0.1) _ x a.2 in
    let first = header_takes bytes a.0 fits a.1 in
    let second = headers_take n a.0.1 b.0 first.0.rest_fits b.1 in
    rw (← some_is _ x b.2, flat_map-cons)
    (Takes-then _ _ _ _ _ first.0 second.0, ap suc second.1, (first.1, second.2))

pub headers_again : (hs : List Header) (rest : List ℕ) → AllByRecursion HeaderFits hs →
    headers_at (length hs) (flat_map header hs ++ rest) ≡ Some (hs, rest)
unfolding headers_at
headers_again [] rest fits = refl
headers_again (h ∷ hs) rest fits =
    rw (flat_map-cons, append_assoc (header h), header_again h _ fits.0, headers_again hs rest fits.1)

pub counted_take : (z : ℤ) (bytes : List ℕ) (x : List Header × List ℕ) → IsBytes bytes → counted_at z bytes ≡ Some x →
    Takes bytes (flat_map header x.0) x.1 × (z ≡ pos (length x.0)) × (length x.0 ≤ MAX_HEADERS)
    × AllByRecursion HeaderFits x.0
counted_take (negsuc n) bytes x fits e = absurd cc
counted_take (pos n) bytes x fits e = grind (arith, guard_some, headers_take n bytes x fits, ltb-false)

counted_again : (hs : List Header) (rest : List ℕ) → length hs ≤ MAX_HEADERS → AllByRecursion HeaderFits hs →
    counted_at (pos (length hs)) (flat_map header hs ++ rest) ≡ Some (hs, rest)
counted_again hs rest few fits = rw (le-ltb MAX_HEADERS (length hs) few) (headers_again hs rest fits)

-- ---- Attributes and the offset delta

attributes_take : (bytes rest : List ℕ) → IsBytes bytes → attributes_at bytes ≡ Some rest → Takes bytes (0 ∷ []) rest
attributes_take (zero ∷ bytes) rest fits e = rw (← some_is bytes rest e)
    (record { parts = refl; rest_fits = IsBytes-rest 0 bytes fits })
attributes_take _ rest fits e = absurd cc

delta_takes : (delta : ℤ) (bytes rest : List ℕ) → IsBytes bytes → delta_at delta bytes ≡ Some rest →
    Takes bytes (varint delta) rest
unfolding delta_at
delta_takes delta bytes rest fits e =
    let b = bind_some (varint_at bytes) _ rest e in
    let g = cond_some (int_eq b.0.0 delta) b.0.1 rest b.2 in
    rw ((Decides-int_eq b.0.0 delta).0 g.0, g.1) at (varint_takes bytes b.0 fits b.1).0

same_int : (z : ℤ) → int_eq z z ≡ true
same_int z = (Decides-int_eq z z).1 refl

delta_again : (delta : ℤ) (rest : List ℕ) → FitsSigned w32 delta → delta_at delta (varint delta ++ rest) ≡ Some rest
unfolding delta_at
delta_again delta rest h = rw (varint_again delta rest h, same_int delta) refl

-- ---- What follows a record's length

-- what a record's parts make, when each of them was read
body_parts : (delta : ℤ) (bytes a b c d e : List ℕ) (t n : ℤ × List ℕ) (k v : Option (List ℕ)) (hs : List Header) →
    Takes bytes (0 ∷ []) a → Takes a (varlong t.0) t.1 → Takes t.1 (varint delta) b → Takes b (nullable k) c →
    Takes c (nullable v) d → Takes d (varint n.0) n.1 → n.0 ≡ pos (length hs) → Takes n.1 (flat_map header hs) e →
    Takes bytes (record_body delta (record { timestamp_delta = t.0; key = k; value = v; headers = hs })) e
body_parts delta bytes a b c d e t n k v hs p0 p1 p2 p3 p4 p5 q p6 =
    let counted = rw q at p5 in
    let parts = Takes-then _ _ _ _ _ p3 (Takes-then _ _ _ _ _ p4 (Takes-then _ _ _ _ _ counted p6)) in
    Takes-then _ _ _ _ _ p0 (Takes-then _ _ _ _ _ p1 (Takes-then _ _ _ _ _ p2 parts))

pub body_takes : (delta : ℤ) (bytes : List ℕ) (x : Record × List ℕ) → IsBytes bytes → body_at delta bytes ≡ Some x →
    Takes bytes (record_body delta x.0) x.1 × RecordFits x.0
unfolding body_at
body_takes delta bytes x fits e =
    bind_to (attributes_at bytes) _ x e (λ a ra ea.
    let ta = attributes_take bytes a fits ra in
    bind_to (varlong_at a) _ x ea (λ t rt et.
    let tt' = varlong_takes a t ta.rest_fits rt in
    bind_to (delta_at delta t.1) _ x et (λ b rb eb.
    let tb = delta_takes delta t.1 b tt'.0.rest_fits rb in
    bind_to (nullable_at MAX_KEY b) _ x eb (λ k rk ek.
    let tk = nullable_takes MAX_KEY b k tb.rest_fits rk in
    bind_to (nullable_at MAX_VALUE k.1) _ x ek (λ v rv ev.
    let tv = nullable_takes MAX_VALUE k.1 v tk.0.rest_fits rv in
    bind_to (varint_at v.1) _ x ev (λ n rn en.
    let tn = varint_takes v.1 n tv.0.rest_fits rn in
    bind_to (counted_at n.0 n.1) _ x en (λ h rh eh.
    let th = counted_take n.0 n.1 h tn.0.rest_fits rh in
    rw (← some_is _ x eh) (
      body_parts delta bytes a b k.1 v.1 h.1 t n k.0 v.0 h.0 ta tt'.0 tb tk.0 tv.0 tn.0 th.1 th.0,
      record { timestamp = tt'.1; key = tk.1; value = tv.1; count = th.2; headers = th.3 },
    ))))))))

regrouped_body : (delta : ℤ) (r : Record) (rest : List ℕ) →
    record_body delta r ++ rest ≡ 0
    ∷ (varlong r.timestamp_delta ++ (varint delta
    ++ (nullable r.key ++ (nullable r.value
    ++ (varint (pos (length r.headers)) ++ (flat_map header r.headers ++ rest))))))
regrouped_body delta r rest = simp append_assoc

pub body_again : (delta : ℤ) (r : Record) (rest : List ℕ) → FitsSigned w32 delta → RecordFits r →
    body_at delta (record_body delta r ++ rest) ≡ Some (r, rest)
unfolding body_at
body_again delta r rest h fits =
    grind (arith, regrouped_body, varlong_again, delta_again, nullable_again, varint_again, fits_pos, counted_again)

-- ---- Records

pub length-nullable : (limit : ℕ) (o : Option (List ℕ)) → IfSome o (λ s. length s ≤ limit) →
    length (nullable o) ≤ 5 + limit
length-nullable limit None h = omega (arith, length-varint (negsuc 0))
length-nullable limit (Some s) h = grind (arith, length-append, length-varint)

pub length-header : (h : Header) → HeaderFits h → length (header h) ≤ MAX_HEADER_SIZE
length-header h fits = grind (arith, length-append, length-varint, length-nullable)

pub length-headers : (hs : List Header) → AllByRecursion HeaderFits hs →
    length (flat_map header hs) ≤ MAX_HEADER_SIZE * length hs
length-headers [] fits = omega arith
length-headers (h ∷ hs) fits =
    grind (arith, flat_map-cons, length-append, length-header h fits.0, length-headers hs fits.1)

-- the bytes of a record after its length
pub length-record_body : (delta : ℤ) (r : Record) → RecordFits r → length (record_body delta r) ≤ MAX_BODY_SIZE
length-record_body delta r fits =
    grind (arith, length-append, length-varlong, length-varint, length-nullable, length-headers)

pub record_takes : (delta : ℤ) (bytes : List ℕ) (x : Record × List ℕ) → IsBytes bytes → record_at delta bytes ≡ Some x →
    Takes bytes (record_spelling delta x.0) x.1 × RecordFits x.0
unfolding record_at
record_takes delta bytes x fits e =
    let a = bind_some (varint_at bytes) _ x e in
    let b = bind_some (body_at delta a.0.1) _ x a.2 in
    let g = cond_some (int_eq a.0.0 (pos (length a.0.1 - length b.0.1))) b.0 x b.2 in
    let n = varint_takes bytes a.0 fits a.1 in
    let t = body_takes delta a.0.1 b.0 n.0.rest_fits b.1 in
    let len : a.0.0 ≡ pos (length (record_body delta b.0.0)) = grind (arith, length-append, Decides-int_eq) in
    rw (← g.1) (Takes-then _ _ _ _ _ (rw len at n.0) t.0, t.1)

pub record_again : (delta : ℤ) (r : Record) (rest : List ℕ) → FitsSigned w32 delta → RecordFits r →
    record_at delta (record_spelling delta r ++ rest) ≡ Some (r, rest)
unfolding record_at
record_again delta r rest h fits =
    grind (arith, append_assoc, fits_pos, length-record_body, length-append, varint_again, body_again, same_int)

same_delta : (c d : ℤ) (bytes : List ℕ) (u v : Record × List ℕ) → record_at c bytes ≡ Some u →
    record_at d bytes ≡ Some v → c ≡ d
unfolding record_at body_at delta_at
same_delta c d bytes u v p q = grind (arith, bind_some, cond_some, Decides-int_eq)

-- no spelling of a record begins another, and none of two offset deltas is one
pub one_record : (r s : Record) (c d : ℤ) (x y : List ℕ) → FitsSigned w32 c → FitsSigned w32 d → RecordFits r →
    RecordFits s → record_spelling c r ++ x ≡ record_spelling d s ++ y → (r ≡ s) × (c ≡ d) × (x ≡ y)
one_record r s c d x y p q fits also e =
    let read = record_again c r x p fits in
    let other = rw (← e) at (record_again d s y q also) in
    let delta = same_delta c d (record_spelling c r ++ x) (r, x) (s, y) read other in
    grind (arith, some_is)
