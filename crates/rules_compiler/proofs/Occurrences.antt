-- Places of a text in bytes.
use Rattle.std.proofs.Common.{◌≡◌, ℕ, zero, suc, ◌+◌, ◌-◌, ◌<◌, ◌≤◌, Bool, true, false}
use Rattle.std.proofs.Common.{◌&&◌, ◌||◌, nat_le, List, [], ◌∷◌, length, Some}
use Rattle.std.proofs.Common.{None, refl, sym, ap, ◌∙◌, subst, arith, ⊎_elim}
use Rattle.std.proofs.lemmas.Bool.{cases_Bool, cond-true, cond-false, and_parts}
use Rattle.machine_spec.specs.{Places.stand_at}
use Rattle.std.specs.Prelude.{drop}
use Rattle.std.proofs.lemmas.List.{length-take, length-drop}
use Rattle.std.proofs.lemmas.Bool.{cases_lt, leb-true}
use Rattle.std.specs.{Str.bytes_eq, List.starts_with}
use Rattle.std.proofs.lemmas.{Slice.Eq.bytes_eq-Decides}
use Rattle.std.proofs.Common.{nat_eq, take}
use Rattle.std.proofs.lemmas.Bool.{le-leb, cases_eq}
use Rattle.std.proofs.Common.{◌⊎◌, inl, inr}
use Rattle.std.proofs.lemmas.Bool.{and_from}
use Rattle.machine_spec.specs.Places.{least_place}
use Rattle.rules.specs.Meaning.{occurs}

pub same_truth : (a b : Bool) → (a ≡ true → b ≡ true) → (b ≡ true → a ≡ true) → a ≡ b
same_truth true b x y = sym (x refl)
same_truth false true x y = y refl
same_truth false false x y = refl

-- ---- places at which a test holds

abbrev pub any_place : (ℕ → Bool) → (from count : ℕ) → Bool
any_place test from zero = false
any_place test from (suc count) = test from || any_place test (from + 1) count

pub or_left : (a b : Bool) → a ≡ true → (a || b) ≡ true
or_left true b e = refl
or_left false b e = absurd cc

pub or_right : (a b : Bool) → b ≡ true → (a || b) ≡ true
or_right true b e = refl
or_right false b e = e

pub or_cases : (a b : Bool) → (a || b) ≡ true → (a ≡ true) ⊎ (b ≡ true)
or_cases true b e = inl refl
or_cases false b e = inr e

pub to_any : (test : ℕ → Bool) (from count q : ℕ) → from ≤ q → q < from + count → test q ≡ true → any_place test from count ≡ true
to_any test from zero q low high e = absurd (omega arith)
to_any test from (suc count) q low high e = ⊎_elim
    (λ same. or_left (test from) (any_place test (from + 1) count) (subst (λ (p : ℕ). test p ≡ true) (sym same) e))
    (λ apart. or_right (test from) (any_place test (from + 1) count)
    (to_any test (from + 1) count q (omega arith) (omega arith) e))
    (cases_eq from q)

pub record Found (test : ℕ → Bool) (from count : ℕ) : Type 0 where
  pub place : ℕ
  pub low : from ≤ place
  pub high : place < from + count
  pub holds : test place ≡ true

pub from_any : (test : ℕ → Bool) (from count : ℕ) → any_place test from count ≡ true → Found test from count
from_any test from zero e = absurd cc
from_any test from (suc count) e = ⊎_elim
    (λ here. record { place = from; low = omega arith; high = omega arith; holds = here })
    (λ further. let f = from_any test (from + 1) count further in
    record { place = f.place; low = omega (arith, f.low); high = omega (arith, f.high); holds = f.holds })
    (or_cases (test from) (any_place test (from + 1) count) e)

-- the least place
pub record Least (test : ℕ → Bool) (from count p : ℕ) : Type 0 where
  pub is : least_place test from count ≡ Some p
  pub low : from ≤ p
  pub high : p < from + count
  pub holds : test p ≡ true
  pub first : (q : ℕ) → from ≤ q → q < p → test q ≡ false

pub record NoPlace (test : ℕ → Bool) (from count : ℕ) : Type 0 where
  pub is : least_place test from count ≡ None
  pub none : (q : ℕ) → from ≤ q → q < from + count → test q ≡ false

pub least_cases : (test : ℕ → Bool) (from count : ℕ) → ((p : ℕ) × Least test from count p) ⊎ NoPlace test from count
unfolding least_place
least_cases test from zero = inr (record { is = refl; none = λ q low high. absurd (omega arith) })
least_cases test from (suc count) = ⊎_elim
    (λ here. inl (
      from,
      record {
        is = cond-true _ _ _ here;
        low = omega arith;
        high = omega arith;
        holds = here;
        first = λ q low high. absurd (omega arith);
      },
    ))
    (λ not_here. ⊎_elim
    (λ further. inl (
      further.0,
      record {
        is = cond-false _ _ _ not_here ∙ further.1.is;
        low = omega (arith, further.1.low);
        high = omega (arith, further.1.high);
        holds = further.1.holds;
        first = λ q low high. ⊎_elim
            (λ same. subst (λ (r : ℕ). test r ≡ false) same not_here)
            (λ apart. further.1.first q (omega arith) high) (cases_eq from q);
      },
    ))
    (λ none. inr (record {
      is = cond-false _ _ _ not_here ∙ none.is;
      none = λ q low high. ⊎_elim
          (λ same. subst (λ (r : ℕ). test r ≡ false) same not_here)
          (λ apart. none.none q (omega arith) (omega arith)) (cases_eq from q);
    }))
    (least_cases test (from + 1) count))
    (cases_Bool (test from))

-- ---- texts at places

pub starts_long : (xs text : List ℕ) → starts_with nat_eq xs text ≡ true → length text ≤ length xs
starts_long xs text e =
    let same = (bytes_eq-Decides text (take (length text) xs)).0 e in
    omega (arith, ap length same, length-take (length text) xs)

pub stand_long : (part text : List ℕ) (q : ℕ) → stand_at part text q ≡ true → q + length text ≤ length part
stand_long part text q e =
    let both = and_parts (nat_le q (length part)) (starts_with nat_eq (drop q part) text) e in
    let within = leb-true q (length part) both.0 in
    omega (arith, within, starts_long (drop q part) text both.1, length-drop q part)

abbrev pub hit : (part text : List ℕ) → ℕ → Bool
hit part text q = stand_at part text q && nat_le (q + length text) 65536

abbrev pub hits : (part text : List ℕ) → ℕ → Bool
hits part text place = any_place (hit part text) place (65536 - place)

pub to_hit : (part text : List ℕ) (q : ℕ) → stand_at part text q ≡ true → q + length text ≤ 65536 → hit part text q ≡ true
to_hit part text q e low = and_from (stand_at part text q) (nat_le (q + length text) 65536) e (le-leb (q + length text) 65536 low)

-- ---- a text stands somewhere in bytes

pub record Stands (text xs : List ℕ) : Type 0 where
  pub place : ℕ
  pub within : place ≤ length xs
  pub starts : starts_with nat_eq (drop place xs) text ≡ true

pub from_occurs : (text xs : List ℕ) → occurs text xs ≡ true → Stands text xs
from_occurs text [] e = record { place = 0; within = omega arith; starts = e }
from_occurs text (x ∷ xs) e = ⊎_elim
    (λ here. record { place = 0; within = omega arith; starts = here })
    (λ further. let f = from_occurs text xs further in
    record { place = suc f.place; within = omega (arith, f.within); starts = f.starts })
    (or_cases (starts_with nat_eq (x ∷ xs) text) (occurs text xs) e)

pub to_occurs : (text xs : List ℕ) (q : ℕ) → q ≤ length xs → starts_with nat_eq (drop q xs) text ≡ true → occurs text xs ≡ true
to_occurs text [] zero low e = e
to_occurs text [] (suc q) low e = absurd (omega arith)
to_occurs text (x ∷ xs) zero low e = or_left (starts_with nat_eq (x ∷ xs) text) (occurs text xs) e
to_occurs text (x ∷ xs) (suc q) low e =
    or_right (starts_with nat_eq (x ∷ xs) text) (occurs text xs) (to_occurs text xs q (omega arith) e)

pub take_less : (n k : ℕ) (xs : List ℕ) → n ≤ k → take n (take k xs) ≡ take n xs
take_less zero k xs low = refl
take_less (suc n) zero xs low = absurd (omega arith)
take_less (suc n) (suc k) [] low = refl
take_less (suc n) (suc k) (x ∷ xs) low = ap (λ (l : List ℕ). x ∷ l) (take_less n k xs (omega arith))

pub cut_same : (k q n : ℕ) (xs : List ℕ) → q + n ≤ k → take n (drop q (take k xs)) ≡ take n (drop q xs)
cut_same k zero n xs low = take_less n k xs (omega arith)
cut_same zero (suc q) n xs low = absurd (omega arith)
cut_same (suc k) (suc q) n [] low = refl
cut_same (suc k) (suc q) n (x ∷ xs) low = cut_same k q n xs (omega arith)

pub starts_same : (text xs : List ℕ) (q : ℕ) → q + length text ≤ 65536 →
    starts_with nat_eq (drop q (take 65536 xs)) text ≡ starts_with nat_eq (drop q xs) text
starts_same text xs q low = ap (bytes_eq text) (cut_same 65536 q (length text) xs low)

pub occurs_is : (text xs : List ℕ) → length text ≤ 255 → hits xs text 0 ≡ occurs text (take 65536 xs)
occurs_is text xs few = same_truth (hits xs text 0) (occurs text (take 65536 xs))
    (λ e.
    let f = from_any (hit xs text) 0 (65536 - 0) e in
    let both = and_parts (stand_at xs text f.place) (nat_le (f.place + length text) 65536) f.holds in
    let low = leb-true (f.place + length text) 65536 both.1 in
    let stand = and_parts (nat_le f.place (length xs)) (starts_with nat_eq (drop f.place xs) text) both.0 in
    let within = leb-true f.place (length xs) stand.0 in
    to_occurs text (take 65536 xs) f.place (omega (arith, length-take 65536 xs)) (starts_same text xs f.place low ∙ stand.1))
    (λ e.
    let s = from_occurs text (take 65536 xs) e in
    let long = starts_long (drop s.place (take 65536 xs)) text s.starts in
    let within = s.within in
    let size = length-take 65536 xs in
    let rest = length-drop s.place (take 65536 xs) in
    let low : s.place + length text ≤ 65536 = omega arith in
    let there = sym (starts_same text xs s.place low) ∙ s.starts in
    ⊎_elim
    (λ before. to_any (hit xs text) 0 (65536 - 0) s.place (omega arith) (omega arith)
    (to_hit xs text s.place (and_from (nat_le s.place (length xs)) (starts_with nat_eq (drop s.place xs) text)
    (le-leb s.place (length xs) (omega arith)) there) low))
    (λ behind. to_any (hit xs text) 0 (65536 - 0) 0 (omega arith) (omega arith)
    (to_hit xs text 0 (and_from (nat_le 0 (length xs)) (starts_with nat_eq (drop 0 xs) text)
    (le-leb 0 (length xs) (omega arith)) (empty_starts text xs (omega arith))) (omega arith)))
    (cases_lt s.place 65536))
  where
    empty_starts : (text xs : List ℕ) → length text ≤ 0 → starts_with nat_eq xs text ≡ true
    empty_starts [] xs none = refl
    empty_starts (x ∷ text) xs none = absurd (omega arith)
