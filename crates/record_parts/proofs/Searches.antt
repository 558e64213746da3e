-- The least place at which bytes stand.
use Rattle.std.proofs.Common.{◌≡◌, ℕ, zero, suc, ◌+◌, ◌-◌, ◌<◌, ◌≤◌, Bool, true, false, List, length, get_or, take, drop}
use Rattle.std.proofs.Common.{◌++◌, min, Option, Some, None, refl, sym, ap, ◌∙◌, arith, length-append}
use Rattle.std.proofs.lemmas.Bool.{and_parts, and_from, leb-true, le-leb, false_from_ne_true}
use Rattle.std.proofs.lemmas.Bool.Decides.{Decides-eqb}
use Rattle.std.proofs.lemmas.List.{get_or-take, get_or-drop, length-take, length-drop}
use Rattle.std.proofs.lemmas.{List.Prefix.at_from_reads, List.Prefix.at_reads, Slice.Eq.starts_is}
use Rattle.memchr.specs.Find.{OccursAt, FindsNeedle}
use Rattle.machine_spec.specs.Places.{stand_at, least_place, find_answer}

-- ---- the least place

least_place-at : (test : ℕ → Bool) (place k count : ℕ) → k < count → test (place + k) ≡ true →
    ((j : ℕ) → j < k → test (place + j) ≡ false) → least_place test place count ≡ Some (place + k)
unfolding least_place
least_place-at test place k zero below holds fails = absurd (omega arith)
least_place-at test place zero (suc count) below holds fails =
    let same : place + 0 ≡ place = omega arith in
    let here = rw same at holds in
    rw (here, same)
least_place-at test place (suc k) (suc count) below holds fails =
    let same : place + 0 ≡ place = omega arith in
    let on = λ (j : ℕ). let e : place + suc j ≡ place + 1 + j = omega arith in e in
    let here = rw same at (fails 0 (omega arith)) in
    let there : test (place + 1 + k) ≡ true = rw (on k) at holds in
    rw (here, on k) (least_place-at test (place + 1) k count (omega arith) there
    (λ j below_k. rw (on j) at (fails (suc j) (omega arith))))

least_place-none : (test : ℕ → Bool) (place count : ℕ) → ((j : ℕ) → j < count → test (place + j) ≡ false) →
    least_place test place count ≡ None
unfolding least_place
least_place-none test place zero fails = refl
least_place-none test place (suc count) fails =
    let same : place + 0 ≡ place = omega arith in
    let on = λ (j : ℕ). let e : place + suc j ≡ place + 1 + j = omega arith in e in
    let here = rw same at (fails 0 (omega arith)) in
    rw here (least_place-none test (place + 1) count (λ j below. rw (on j) at (fails (suc j) (omega arith))))

-- ---- where bytes stand in the bytes that a search looks at

-- the bytes that a search from a place on looks at
pub record IsWindow (part bytes : List ℕ) (place : ℕ) (window : List ℕ) : Type 0 where
  pub start : place ≤ length part
  pub window_is : window ≡ take (length bytes + 4095) (drop place part)

reads_at : (part bytes : List ℕ) (place : ℕ) (window : List ℕ) → IsWindow part bytes place window → (i : ℕ) →
    i < length bytes + 4095 → get_or window i 0 ≡ get_or part (place + i) 0
reads_at part bytes place window is i below =
    rw (is.window_is, get_or-take (length bytes + 4095) (drop place part) i 0 below) (get_or-drop place part i 0)

size_of : (part bytes : List ℕ) (place : ℕ) (window : List ℕ) → IsWindow part bytes place window →
    length window ≡ min (length bytes + 4095) (length part - place)
size_of part bytes place window is =
    rw (is.window_is, length-take (length bytes + 4095) (drop place part), length-drop place part)

-- what stands in the window stands in the part
stands : (part bytes : List ℕ) (place : ℕ) (window : List ℕ) → IsWindow part bytes place window → (k : ℕ) →
    OccursAt window bytes k → (k < 4096) × (stand_at part bytes (place + k) ≡ true)
stands part bytes place window is k occurs =
    let size = size_of part bytes place window is in
    let start = is.start in
    let fits = occurs.fits in
    let on = λ (j : ℕ). let e : place + k + j ≡ place + (k + j) = omega arith in e in
    let from = at_from_reads 0 part bytes (place + k) (omega arith)
    (λ j below. rw (on j) (sym (reads_at part bytes place window is (k + j) (omega arith)) ∙ occurs.reads j below)) in
    let begins = (starts_is Decides-eqb (drop (place + k) part) bytes _ refl).1 _ from in
    (omega arith, and_from _ _ (le-leb (place + k) (length part) (omega arith)) begins)

-- what stands in the part at one of the places stands in the window
occurs_there : (part bytes : List ℕ) (place : ℕ) (window : List ℕ) → IsWindow part bytes place window → (k : ℕ) →
    k < 4096 → stand_at part bytes (place + k) ≡ true → OccursAt window bytes k
occurs_there part bytes place window is k below stands_there =
    let parts = and_parts _ _ stands_there in
    let within : place + k ≤ length part = leb-true _ _ parts.0 in
    let from = (starts_is Decides-eqb (drop (place + k) part) bytes _ refl).0 parts.1 in
    let rest = drop (length bytes) (drop (place + k) part) in
    let sizes : length part - (place + k) ≡ length bytes + length rest =
    sym (length-drop (place + k) part) ∙ ap length from ∙ length-append bytes rest in
    let size = size_of part bytes place window is in
    let start = is.start in
    let on = λ (j : ℕ). let e : place + k + j ≡ place + (k + j) = omega arith in e in
    record {
      fits = omega arith;
      reads = λ j small. reads_at part bytes place window is (k + j) (omega arith)
          ∙ (rw (on j) at (at_reads 0 part bytes (place + k) rest from j small));
    }

-- ---- what a search answers

pub found : (part bytes : List ℕ) (place : ℕ) (window : List ℕ) → IsWindow part bytes place window → (k : ℕ) →
    FindsNeedle window bytes 0 (Some k) → place + k + 1 ≡ find_answer part bytes place
found part bytes place window is k finds =
    let here = stands part bytes place window is k finds.1 in
    let first = finds.0 in
    let none = λ (j : ℕ) (before : j < k). false_from_ne_true _ (λ there. first.before j (omega arith) before
    (occurs_there part bytes place window is j (omega (arith, here.0)) there)) in
    rw (least_place-at (stand_at part bytes) place k 4096 here.0 here.1 none)

pub none_found : (part bytes : List ℕ) (place : ℕ) (window : List ℕ) → IsWindow part bytes place window →
    FindsNeedle window bytes 0 None → 0 ≡ find_answer part bytes place
none_found part bytes place window is finds =
    let none = λ (j : ℕ) (before : j < 4096). false_from_ne_true _ (λ there.
    let occurs = occurs_there part bytes place window is j before there in
    let fits = occurs.fits in
    finds j (omega arith) (omega arith) occurs) in
    rw (least_place-none (stand_at part bytes) place 4096 none)

-- beyond the end nothing stands
pub none_beyond : (part bytes : List ℕ) (place : ℕ) → length part < place → 0 ≡ find_answer part bytes place
none_beyond part bytes place beyond =
    let none = λ (j : ℕ) (before : j < 4096). false_from_ne_true _ (λ there.
    let within = leb-true (place + j) (length part) (and_parts _ _ there).0 in
    absurd (omega arith)) in
    rw (least_place-none (stand_at part bytes) place 4096 none)
