-- The laws of varints: a number has one spelling, no spelling begins another, what is read is spelled so
-- and what is spelled so is read.
use Rattle.std.proofs.Common.{◌≡◌, ℕ, zero, suc, ◌+◌, ◌-◌, ◌*◌, ◌/◌, ◌%◌, ◌^◌, ◌<◌, ◌≤◌, ◌⊎◌, ℤ, Bool, true, false}
use Rattle.std.proofs.Common.{cond, ◌&&◌, ltb, eqb, List, [], ◌∷◌, ◌++◌, length, get_or, take, drop, Option, Some, None}
use Rattle.std.proofs.Common.{Result, Ok, Err, refl, sym, ap, arith, inl, add-one, inr, IfOk, FitsSigned}
use Rattle.std.proofs.lemmas.Bool.{cases_lt, cases_eq, eq-eqb, eqb-true, eqb-false, ne_eqb, ltb-false, ltb-true, le-ltb}
use Rattle.std.proofs.lemmas.Bool.{lt-ltb}
use Rattle.std.proofs.lemmas.List.{length-append, length-take, get_or-drop, get_or-take, get_or_past}
use Rattle.std.proofs.lemmas.List.{get_or_append_left, take_at}
use Rattle.std.proofs.{lemmas.List.Sums.position_or_len_is, lemmas.List.Quantifiers.position-Some}
use Rattle.std.proofs.lemmas.Bool.Decides.{nat_tests}
use Rattle.std.specs.Int.{w32, w64}
use Rattle.wire_spec.specs.declared.fault.VarintFault.{VarintFault}
use Rattle.wire_spec.specs.declared.fault.VarintFault.TheVariants.{Short, Long, NotShortest}
use Rattle.wire_spec.specs.Varint.{zigzag, unzigzag, IsBase128, IsVarint, IsVarlong, groups, varint, varlong}
use Rattle.wire_spec.specs.Varint.{groups_value, last_place, read_to, read_base128, read_signed, read_varint}
use Rattle.wire_spec.specs.Varint.{read_varlong}

-- ---- The zigzag number

pub unzigzag-zigzag : (z : ℤ) → unzigzag (zigzag z) ≡ z
unzigzag-zigzag z = grind (arith, nat_tests)

-- an even number and an odd one
even_or_odd : (n : ℕ) → (eqb (n % 2) 0 ≡ true) × (2 * (n / 2) ≡ n) ⊎ (eqb (n % 2) 0 ≡ false) × (2 * (n / 2) + 1 ≡ n)
even_or_odd n = grind (arith, cases_eq, eq-eqb, ne_eqb)

pub zigzag-unzigzag : (n : ℕ) → zigzag (unzigzag n) ≡ n
zigzag-unzigzag n = grind (arith, even_or_odd)

-- ---- Widths

pub zigzag-fits_32 : (z : ℤ) → FitsSigned w32 z → zigzag z < 2 ^ 32
zigzag-fits_32 z h = grind (arith, h.sfits)

pub zigzag-fits_64 : (z : ℤ) → FitsSigned w64 z → zigzag z < 2 ^ 64
zigzag-fits_64 z h = grind (arith, h.sfits)

pub unzigzag-fits_32 : (n : ℕ) → n < 2 ^ 32 → FitsSigned w32 (unzigzag n)
unzigzag-fits_32 n h = grind (arith, even_or_odd)

pub unzigzag-fits_64 : (n : ℕ) → n < 2 ^ 64 → FitsSigned w64 (unzigzag n)
unzigzag-fits_64 n h = grind (arith, even_or_odd)

-- ---- The forms of a number

-- x, that many groups of seven bits higher
abbrev pub worth : ℕ → ℕ → ℕ
worth zero x = x
worth (suc j) x = 128 * worth j x

-- the first byte below 128 has this place
pub record EndsAt (bytes : List ℕ) (last : ℕ) : Type 0 where
  pub within : last < length bytes
  pub before : (k : ℕ) → k < last → 128 ≤ get_or bytes k 0
  pub ends : get_or bytes last 0 < 128

-- what a form of a number has
pub record Parts (form : List ℕ) (n last : ℕ) : Type 0 where
  pub size : length form ≡ suc last
  pub ends : EndsAt form last
  pub number : groups_value form ≡ n
  pub low : worth last (get_or form last 0) ≤ n
  pub high : n < worth last (get_or form last 0 + 1)
  pub nonzero : 0 < n → 0 < get_or form last 0
  pub some : 0 < last → 0 < get_or form last 0

first_or : (P : ℕ → Type 0) (n : ℕ) → P 0 → ((k : ℕ) → k < n → P (suc k)) → (k : ℕ) → k < suc n → P k
first_or P n base step zero h = base
first_or P n base step (suc k) h = step k (omega arith)

-- a byte from 128 on before a form
Parts-more : (b high n last : ℕ) (form : List ℕ) → 128 ≤ b → 0 < high → n + 128 ≡ b + 128 * high → b < 256 →
    Parts form high last → Parts (b ∷ form) n (suc last)
Parts-more b high n last form large some e small p = record {
  size = ap suc p.size;
  ends = record {
    within = omega (arith, p.ends.within);
    before = first_or (λ k. 128 ≤ get_or (b ∷ form) k 0) last large p.ends.before;
    ends = p.ends.ends;
  };
  number = omega (arith, p.number);
  low = omega (arith, p.low);
  high = omega (arith, p.high);
  nonzero = λ q. p.nonzero some;
  some = λ q. p.nonzero some;
}

pub Parts-of : (form : List ℕ) (n : ℕ) → IsBase128 form n → (last : ℕ) × Parts form n last
Parts-of [] n h = absurd h
Parts-of (b ∷ []) n h = grind arith
Parts-of (b ∷ c ∷ bs) n h =
    let inner = Parts-of (c ∷ bs) h.2 h.5 in
    (suc inner.0, Parts-more b h.2 n inner.0 (c ∷ bs) h.0 h.3 h.4 h.1 inner.1)

-- a byte from 128 on before the form of what is left
pub IsBase128-more : (b : ℕ) (form : List ℕ) (n high : ℕ) → 128 ≤ b → b < 256 → 0 < high → n + 128 ≡ b + 128 * high →
    IsBase128 form high → IsBase128 (b ∷ form) n
IsBase128-more b [] n high low top some e h = absurd h
IsBase128-more b (c ∷ bs) n high low top some e h = (low, top, high, some, e, h)

-- the groups of a number are a form of it
pub IsBase128-groups : (k n : ℕ) → n < worth k 1 → 0 < k → IsBase128 (groups k n) n
unfolding groups
IsBase128-groups zero n lt some = absurd (omega arith)
IsBase128-groups (suc zero) n lt some = rw (lt-ltb n 128 (omega arith)) (omega arith, refl)
IsBase128-groups (suc (suc k)) n lt some =
    elim (cases_lt n 128) [
      | inl below ↦ rw (lt-ltb n 128 below) (below, refl)
      | inr above ↦ rw (le-ltb n 128 above) (IsBase128-more (128 + n % 128) (groups (suc k) (n / 128)) n (n / 128)
          (omega arith) (omega arith) (omega arith) (omega arith)
          (IsBase128-groups (suc k) (n / 128) (omega arith) (omega arith)))
    ]

-- a number has one form
pub groups_is : (k : ℕ) (form : List ℕ) (n : ℕ) → n < worth k 1 → 0 < k → IsBase128 form n → form ≡ groups k n
unfolding groups
groups_is zero form n lt some h = absurd (omega arith)
groups_is (suc k) [] n lt some h = absurd h
groups_is (suc k) (b ∷ []) n lt some h = rw (lt-ltb n 128 (omega arith)) (ap (λ i. i ∷ []) (sym h.1))
groups_is (suc zero) (b ∷ c ∷ bs) n lt some h = absurd (omega arith)
groups_is (suc (suc k)) (b ∷ c ∷ bs) n lt some h =
    let inner = groups_is (suc k) (c ∷ bs) h.2 (omega arith) (omega arith) h.5 in
    let high : n / 128 ≡ h.2 = omega arith in
    let low : 128 + n % 128 ≡ b = omega arith in
    rw (le-ltb n 128 (omega arith), high, low, ← inner) refl

pub length-groups : (k n : ℕ) → length (groups k n) ≤ k
unfolding groups
length-groups zero n = omega arith
length-groups (suc k) n = grind (arith, length-groups k (n / 128))

-- ---- Reading

abbrev pub IsBytes : List ℕ → Type 0
IsBytes bytes = (i : ℕ) → get_or bytes i 0 < 256

pub IsBytes-rest : (b : ℕ) (bytes : List ℕ) → IsBytes (b ∷ bytes) → IsBytes bytes
IsBytes-rest b bytes h i = h (suc i)

pub IsBytes-drop : (n : ℕ) (bytes : List ℕ) → IsBytes bytes → IsBytes (drop n bytes)
IsBytes-drop n bytes h i = rw get_or-drop (h (n + i))

pub IsBytes-take : (n : ℕ) (bytes : List ℕ) → IsBytes bytes → IsBytes (take n bytes)
IsBytes-take n bytes h i = grind (arith, cases_lt, get_or-take, get_or_past, length-take)

worth-le : (j k x : ℕ) → j ≤ k → 0 < x → worth j 1 ≤ worth k x
worth-le zero zero x le h = h
worth-le zero (suc k) x le h = omega (arith, worth-le zero k x (omega arith) h)
worth-le (suc j) zero x le h = absurd (omega arith)
worth-le (suc j) (suc k) x le h = omega (arith, worth-le j k x (omega arith) h)

pub worth-mono : (j x y : ℕ) → x ≤ y → worth j x ≤ worth j y
worth-mono zero x y h = h
worth-mono (suc j) x y h = omega (arith, worth-mono j x y h)

pub worth-add : (j x y : ℕ) → worth j (x + y) ≡ worth j x + worth j y
worth-add zero x y = refl
worth-add (suc j) x y = omega (arith, worth-add j x y)

pub worth-128 : (j x : ℕ) → worth j (128 * x) ≡ 128 * worth j x
worth-128 zero x = refl
worth-128 (suc j) x = omega (arith, worth-128 j x)

-- the bytes after the first
EndsAt-tail : (b : ℕ) (bs : List ℕ) (last : ℕ) → EndsAt (b ∷ bs) (suc last) → EndsAt bs last
EndsAt-tail b bs last e = record {
  within = omega (arith, e.within);
  before = λ k lt. e.before (suc k) (omega arith);
  ends = e.ends;
}

groups_value-pos : (last : ℕ) (bytes : List ℕ) → EndsAt bytes last → 0 < get_or bytes last 0 →
    0 < groups_value (take (suc last) bytes)
groups_value-pos last [] e h = absurd (omega (arith, e.within))
groups_value-pos zero (b ∷ bs) e h = let below : b < 128 = e.ends in omega arith
groups_value-pos (suc last) (b ∷ bs) e h = omega (arith, groups_value-pos last bs (EndsAt-tail b bs last e) h)

pub IsBase128-from_ends : (last : ℕ) (bytes : List ℕ) → IsBytes bytes → EndsAt bytes last →
    (0 < last → 0 < get_or bytes last 0) → IsBase128 (take (suc last) bytes) (groups_value (take (suc last) bytes))
IsBase128-from_ends last [] fits e some = absurd (omega (arith, e.within))
IsBase128-from_ends zero (b ∷ bs) fits e some = let below : b < 128 = e.ends in (below, omega arith)
IsBase128-from_ends (suc last) (b ∷ bs) fits e some =
    let inner = EndsAt-tail b bs last e in
    let positive : 0 < get_or bs last 0 = some (omega arith) in
    let first : 128 ≤ b = e.before 0 (omega arith) in
    let byte : b < 256 = fits 0 in
    IsBase128-more b (take (suc last) bs) (groups_value (take (suc (suc last)) (b ∷ bs)))
    (groups_value (take (suc last) bs)) first byte (groups_value-pos last bs inner positive) (omega arith)
    (IsBase128-from_ends last bs (IsBytes-rest b bs fits) inner (λ q. positive))

-- ---- The place of the last byte

abbrev below_128 : ℕ → Bool
below_128 b = ltb b 128

pub last_place_is : (most : ℕ) (bytes : List ℕ) (last : ℕ) → EndsAt bytes last → last < most →
    last_place most bytes ≡ Some last
last_place_is most bytes last e lt = grind (arith, length-take, position_or_len_is, get_or-take, le-ltb, lt-ltb)

pub EndsAt-from : (most : ℕ) (bytes : List ℕ) (last : ℕ) → last_place most bytes ≡ Some last →
    EndsAt bytes last × (last < most)
EndsAt-from most bytes last e =
    grind (arith, position-Some below_128 (take most bytes) last 0 e, length-take, get_or-take, ltb-false, ltb-true)

-- ---- What is read is spelled so, and what is spelled so is read

pub and_no : (a b : Bool) → (a ≡ true → b ≡ false) → (a && b) ≡ false
and_no true b h = h refl
and_no false b h = refl

from_and_no : (a b : Bool) → (a && b) ≡ false → a ≡ true → b ≡ false
from_and_no true b h e = h
from_and_no false b h e = absurd cc

pub guard_ok : {A E : Type 0} (b : Bool) (d : E) (r : Result A E) (y : A) → cond b (Err d) r ≡ Ok y →
    (b ≡ false) × (r ≡ Ok y)
guard_ok true d r y e = absurd cc
guard_ok false d r y e = (refl, e)

pub read_to_ok : (most top : ℕ) (bytes : List ℕ) (last : ℕ) → (last ≡ most - 1 → get_or bytes last 0 ≤ top) →
    (0 < last → 0 < get_or bytes last 0) → read_to most top bytes (Some last)
    ≡ Ok (groups_value (take (last + 1) bytes), last + 1)
read_to_ok most top bytes last narrow some = grind (arith, and_no, le-ltb, eqb-true, ne_eqb, ltb-true)

-- what a read of bytes up to a place says
pub record ReadTo (most top : ℕ) (bytes : List ℕ) (last n used : ℕ) : Type 0 where
  pub narrow : last ≡ most - 1 → get_or bytes last 0 ≤ top
  pub some : 0 < last → 0 < get_or bytes last 0
  pub number : groups_value (take (last + 1) bytes) ≡ n
  pub size : last + 1 ≡ used

ReadTo-from : (most top : ℕ) (bytes : List ℕ) (last n used : ℕ) → read_to most top bytes (Some last) ≡ Ok (n, used) →
    ReadTo most top bytes last n used
ReadTo-from most top bytes last n used e =
    grind (arith, guard_ok, ltb-false, from_and_no, eq-eqb, eqb-false, lt-ltb, cases_lt)

-- A width: of at most that many groups, the last one at most top, are the numbers below the limit.
pub record IsWide (most top limit : ℕ) : Type 0 where
  pub limit_is : limit ≡ worth (most - 1) (top + 1)
  pub small : top < 128
  pub some : 0 < most

form_within : (most top limit : ℕ) → IsWide most top limit → (last byte : ℕ) → last < most → byte < 128 →
    (last ≡ most - 1 → byte ≤ top) → worth last (byte + 1) ≤ limit
form_within most top limit wide last byte lt small narrow =
    elim (cases_lt (suc last) most) [
      | inl before ↦ omega (
        arith,
        worth-mono last (byte + 1) 128 (omega arith),
        worth-128 last 1,
        worth-le (suc last) (most - 1) (top + 1) (omega arith) (omega arith),
      )
      | inr at ↦ let e : last ≡ most - 1 = omega arith in
          omega (arith, rw (← e) at wide.limit_is, worth-mono last (byte + 1) (top + 1) (omega (arith, narrow e)))
    ]

number_within : (most top limit : ℕ) → IsWide most top limit → (last byte n : ℕ) → worth last byte ≤ n → n < limit →
    (0 < last → 0 < byte) → (last < most) × (last ≡ most - 1 → byte ≤ top)
number_within most top limit wide last byte n low lt some =
    elim (cases_lt last most) [
      | inl few ↦ (
        few,
        λ e. elim (cases_lt top byte) [
          | inl over ↦ absurd (omega (arith, rw (← e) at wide.limit_is, worth-mono last (top + 1) byte (omega arith)))
          | inr le ↦ le
        ],
      )
      | inr many ↦ absurd (omega (
        arith,
        worth-mono (most - 1) (top + 1) 128 (omega arith),
        worth-128 (most - 1) 1,
        worth-le (suc (most - 1)) last byte (omega arith) (some (omega arith)),
      ))
    ]

pub wide_32 : IsWide 5 15 (2 ^ 32)
wide_32 = omega arith

pub wide_64 : IsWide 10 1 (2 ^ 64)
wide_64 = omega arith

-- what a number that was read from the front has
pub record Taken (bytes : List ℕ) (limit n used : ℕ) : Type 0 where
  pub within : used ≤ length bytes
  pub form : IsBase128 (take used bytes) n
  pub below : n < limit

none_read : (b : Bool) (x : ℕ × ℕ) → cond {A = Result (ℕ × ℕ) VarintFault} b (Err Short) (Err Long) ≡ Ok x → ⊥
none_read true x h = cc
none_read false x h = cc

form_below : (most top limit : ℕ) → IsWide most top limit → (bytes : List ℕ) (last n : ℕ) → EndsAt bytes last →
    last < most → (last ≡ most - 1 → get_or bytes last 0 ≤ top) → IsBase128 (take (suc last) bytes) n → n < limit
form_below most top limit wide bytes last n ends lt narrow form =
    let parts = Parts-of (take (suc last) bytes) n form in
    let high = form_within most top limit wide last (get_or bytes last 0) lt ends.ends narrow in
    grind (arith, length-take, get_or-take (suc last) bytes last 0)

Taken-from : (most top limit : ℕ) → IsWide most top limit → (bytes : List ℕ) (n used : ℕ) (place : Option ℕ) →
    IsBytes bytes → last_place most bytes ≡ place → read_to most top bytes place ≡ Ok (n, used) →
    Taken bytes limit n used
Taken-from most top limit wide bytes n used None fits place e = absurd (none_read (ltb (length bytes) most) (n, used) e)
Taken-from most top limit wide bytes n used (Some last) fits place e =
    let ends = EndsAt-from most bytes last place in
    let r = ReadTo-from most top bytes last n used e in
    let form = rw add-one at r.number in
    let formed : IsBase128 (take (suc last) bytes) n = rw form at (IsBase128-from_ends last bytes fits ends.0 r.some) in
    grind (arith, form_below most top limit wide bytes last n ends.0 ends.1 r.narrow formed)

pub read_taken : (most top limit : ℕ) → IsWide most top limit → (bytes : List ℕ) (n used : ℕ) → IsBytes bytes →
    read_base128 most top bytes ≡ Ok (n, used) → Taken bytes limit n used
read_taken most top limit wide bytes n used fits e =
    Taken-from most top limit wide bytes n used (last_place most bytes) fits refl e

pub read_form : (most top limit : ℕ) → IsWide most top limit → (form rest : List ℕ) (n : ℕ) → n < limit →
    IsBase128 form n → read_base128 most top (form ++ rest) ≡ Ok (n, length form)
read_form most top limit wide form rest n lt h =
    let parts = Parts-of form n h in
    let last = parts.0 in
    let p = parts.1 in
    let w = number_within most top limit wide last (get_or form last 0) n p.low lt p.some in
    let ends : EndsAt (form ++ rest) last = grind (arith, length-append, get_or_append_left) in
    let same : get_or (form ++ rest) last 0 ≡ get_or form last 0 = get_or_append_left form rest 0 last p.ends.within in
    let found = last_place_is most (form ++ rest) last ends w.0 in
    grind (arith, take_at form rest (last + 1), read_to_ok most top (form ++ rest) last)

-- ---- Varints and varlongs

-- what is read is spelled so, of a spelling that the forms of small numbers are
signed_found : (most top limit : ℕ) (Is : List ℕ → ℤ → Type 0) → IsWide most top limit →
    ((form : List ℕ) (n : ℕ) → n < limit → IsBase128 form n → Is form (unzigzag n)) → (bytes : List ℕ)
    (r : Result (ℕ × ℕ) VarintFault) → IsBytes bytes → read_base128 most top bytes ≡ r →
    IfOk (read_signed r) (λ x. (x.1 ≤ length bytes) × Is (take x.1 bytes) x.0)
signed_found most top limit Is wide is bytes (Ok x) fits e =
    let t = read_taken most top limit wide bytes x.0 x.1 fits e in
    (t.within, is (take x.1 bytes) x.0 t.below t.form)
signed_found most top limit Is wide is bytes (Err f) fits e = tt

-- what is read is spelled so, of an answer
pub varint_found : (bytes : List ℕ) (r : Result (ℤ × ℕ) VarintFault) → IsBytes bytes → r ≡ read_varint bytes →
    IfOk r (λ x. (x.1 ≤ length bytes) × IsVarint (take x.1 bytes) x.0)
unfolding read_varint
varint_found bytes r fits e = rw e (signed_found 5 15 (2 ^ 32) IsVarint wide_32 (λ form n lt h. record {
  fits = unzigzag-fits_32 n lt;
  spelled = rw zigzag-unzigzag h;
}) bytes (read_base128 5 15 bytes) fits refl)

pub varlong_found : (bytes : List ℕ) (r : Result (ℤ × ℕ) VarintFault) → IsBytes bytes → r ≡ read_varlong bytes →
    IfOk r (λ x. (x.1 ≤ length bytes) × IsVarlong (take x.1 bytes) x.0)
unfolding read_varlong
varlong_found bytes r fits e = rw e (signed_found 10 1 (2 ^ 64) IsVarlong wide_64 (λ form n lt h. record {
  fits = unzigzag-fits_64 n lt;
  spelled = rw zigzag-unzigzag h;
}) bytes (read_base128 10 1 bytes) fits refl)

pub read_varint-form : (form rest : List ℕ) (z : ℤ) → IsVarint form z → read_varint (form ++ rest) ≡ Ok (z, length form)
unfolding read_varint
read_varint-form form rest z h = grind (arith, read_form 5 15 (2 ^ 32) wide_32, zigzag-fits_32, unzigzag-zigzag)

pub read_varlong-form : (form rest : List ℕ) (z : ℤ) → IsVarlong form z →
    read_varlong (form ++ rest) ≡ Ok (z, length form)
unfolding read_varlong
read_varlong-form form rest z h = grind (arith, read_form 10 1 (2 ^ 64) wide_64, zigzag-fits_64, unzigzag-zigzag)

pub IsVarint-varint : (z : ℤ) → FitsSigned w32 z → IsVarint (varint z) z
unfolding varint
IsVarint-varint z h = record {
  fits = h;
  spelled = IsBase128-groups 5 (zigzag z) (omega (arith, zigzag-fits_32 z h)) (omega arith);
}

pub IsVarlong-varlong : (z : ℤ) → FitsSigned w64 z → IsVarlong (varlong z) z
unfolding varlong
IsVarlong-varlong z h = record {
  fits = h;
  spelled = IsBase128-groups 10 (zigzag z) (omega (arith, zigzag-fits_64 z h)) (omega arith);
}

pub varint_is : (form : List ℕ) (z : ℤ) → IsVarint form z → form ≡ varint z
unfolding varint
varint_is form z h = groups_is 5 form (zigzag z) (omega (arith, zigzag-fits_32 z h.fits)) (omega arith) h.spelled

pub varlong_is : (form : List ℕ) (z : ℤ) → IsVarlong form z → form ≡ varlong z
unfolding varlong
varlong_is form z h = groups_is 10 form (zigzag z) (omega (arith, zigzag-fits_64 z h.fits)) (omega arith) h.spelled

pub one_varint : (a b x y : List ℕ) (z w : ℤ) → IsVarint a z → IsVarint b w → a ++ x ≡ b ++ y → (a ≡ b) × (z ≡ w)
one_varint a b x y z w p q e =
    grind (arith, read_varint-form a x z p, read_varint-form b y w q, varint_is a z p, varint_is b w q)

pub one_varlong : (a b x y : List ℕ) (z w : ℤ) → IsVarlong a z → IsVarlong b w → a ++ x ≡ b ++ y → (a ≡ b) × (z ≡ w)
one_varlong a b x y z w p q e =
    grind (arith, read_varlong-form a x z p, read_varlong-form b y w q, varlong_is a z p, varlong_is b w q)

-- ---- One group more

pub groups_value-take : (at : ℕ) (bytes : List ℕ) → at < length bytes →
    groups_value (take (suc at) bytes) ≡ groups_value (take at bytes) + worth at (get_or bytes at 0 % 128)
groups_value-take at [] lt = absurd (omega arith)
groups_value-take zero (b ∷ bs) lt = omega arith
groups_value-take (suc at) (b ∷ bs) lt = omega (arith, groups_value-take at bs (omega arith))

-- the number of the bytes up to a place, when the byte there was added
pub record Adds (bytes : List ℕ) (at number : ℕ) : Type 0 where
  pub number_is : number ≡ groups_value (take (at + 1) bytes)
  pub below : number < worth (at + 1) 1

pub adds : (bytes : List ℕ) (at number digit : ℕ) → at < length bytes → number ≡ groups_value (take at bytes) →
    number < worth at 1 → digit ≡ get_or bytes at 0 % 128 → Adds bytes at (number + worth at digit)
adds bytes at number digit lt is below e =
    grind (arith, groups_value-take, worth-mono at (digit + 1) 128, worth-128 at 1, worth-add at digit 1)

-- at most nine groups fit 63 bits
pub nine_groups : (k n : ℕ) → k ≤ 9 → n < worth k 1 → n < 2 ^ 63
nine_groups k n le lt = omega (arith, worth-le k 9 1 le (omega arith))

pub reads_at : (most top : ℕ) (bytes : List ℕ) (at number : ℕ) → EndsAt bytes at → at < most →
    (at ≡ most - 1 → get_or bytes at 0 ≤ top) → (0 < at → 0 < get_or bytes at 0) →
    number ≡ groups_value (take (at + 1) bytes) → Ok (number, at + 1) ≡ read_base128 most top bytes
reads_at most top bytes at number ends lt narrow some is = grind (arith, last_place_is, read_to_ok)

pub refuses_zero : (most top : ℕ) (bytes : List ℕ) (at : ℕ) → EndsAt bytes at → at < most → 0 < at →
    get_or bytes at 0 ≡ 0 → Err NotShortest ≡ read_base128 most top bytes
refuses_zero most top bytes at ends lt some zero_there = grind (arith, and_no, le-ltb, last_place_is, lt-ltb, eq-eqb)

pub length-varint : (z : ℤ) → length (varint z) ≤ 5
unfolding varint
length-varint z = length-groups 5 (zigzag z)

pub length-varlong : (z : ℤ) → length (varlong z) ≤ 10
unfolding varlong
length-varlong z = length-groups 10 (zigzag z)
