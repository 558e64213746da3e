-- Reading records one after the other, as a loop does.
use Rattle.std.proofs.Common.{◌≡◌, ℕ, suc, ◌-◌, ◌+◌, ◌<◌, List, [], ◌∷◌, ◌++◌, Result, Ok, Err, refl, sym, ap, ◌∙◌}
use Rattle.std.proofs.Common.{append_assoc, arith, pos}
use Rattle.std.proofs.lemmas.List.{append-nil}
use Rattle.wire_spec.specs.declared.{fault.BatchFault.BatchFault, record.Record.Record}
use Rattle.wire_spec.specs.declared.fault.BatchFault.TheVariants as faults
use Rattle.wire_spec.specs.{RecordReading.record_at, Memory.IsFault}
use Rattle.wire_spec.specs.BatchReading.{◌>>=◌, record_or, records_at}

-- what was read before, and what is still read
abbrev pub with_front : List Record → Result (List Record) BatchFault → Result (List Record) BatchFault
with_front front read = read >>= λ rs. Ok (front ++ rs)

regroup : (front : List Record) (r : Record) (read : Result (List Record) BatchFault) →
    with_front front (read >>= λ rs. Ok (r ∷ rs)) ≡ with_front (front ++ r ∷ []) read
regroup front r (Ok rs) = ap (λ (all : List Record). Ok all) (simp append_assoc)
regroup front r (Err f) = refl

pub goes_on : (front : List Record) (count i : ℕ) (bytes : List ℕ) (r : Record) (after : List ℕ)
    (total : Result (List Record) BatchFault) → i < count → record_or i (record_at (pos i) bytes) ≡ Ok (r, after) →
    with_front front (records_at (count - i) i bytes) ≡ total →
    with_front (front ++ r ∷ []) (records_at (count - (i + 1)) (i + 1) after) ≡ total
unfolding records_at
goes_on front count i bytes r after total lt h so_far =
    let n = count - (i + 1) in
    let k : count - i ≡ suc n = omega arith in
    let next : suc i ≡ i + 1 = omega arith in
    let one : with_front front (records_at (count - i) i bytes)
    ≡ with_front (front ++ r ∷ []) (records_at n (suc i) after) =
    rw (k, h) (regroup front r (records_at n (suc i) after)) in
    ap (λ (p : ℕ). with_front (front ++ r ∷ []) (records_at n p after)) (sym next) ∙ sym one ∙ so_far

ends_by : (f : BatchFault) (front : List Record) (count i : ℕ) (bytes : List ℕ)
    (total : Result (List Record) BatchFault) → i < count → record_or i (record_at (pos i) bytes) ≡ Err f →
    with_front front (records_at (count - i) i bytes) ≡ total → total ≡ Err f
unfolding records_at
ends_by f front count i bytes total lt h so_far =
    let k : count - i ≡ suc (count - (i + 1)) = omega arith in
    let one : with_front front (records_at (count - i) i bytes) ≡ Err f = rw (k, h) refl in
    sym so_far ∙ one

pub ends : (e : BatchFault) (front : List Record) (count i : ℕ) (bytes : List ℕ)
    (total : Result (List Record) BatchFault) → i < count →
    IsFault faults.Memory e (record_or i (record_at (pos i) bytes)) →
    with_front front (records_at (count - i) i bytes) ≡ total → IsFault faults.Memory e total
ends e front count i bytes total lt h so_far = λ reported. ends_by e front count i bytes total lt (h reported) so_far

-- no bytes are left
pub is_done : (front : List Record) (count i : ℕ) (bytes : List ℕ) (total : Result (List Record) BatchFault) →
    i ≡ count → bytes ≡ [] → with_front front (records_at (count - i) i bytes) ≡ total → total ≡ Ok front
unfolding records_at
is_done front count i bytes total e none so_far =
    let k : count - i ≡ 0 = omega arith in
    let one : with_front front (records_at (count - i) i bytes) ≡ Ok front =
    rw (k, none) (ap (λ (rs : List Record). Ok rs) (append-nil front)) in
    sym so_far ∙ one

-- a byte is left
pub is_over : (front : List Record) (count i byte : ℕ) (others bytes : List ℕ) (total : Result (List Record) BatchFault)
    → i ≡ count → bytes ≡ byte ∷ others → with_front front (records_at (count - i) i bytes) ≡ total →
    total ≡ Err (faults.Record count)
unfolding records_at
is_over front count i byte others bytes total e some so_far =
    let k : count - i ≡ 0 = omega arith in
    let one : with_front front (records_at (count - i) i bytes) ≡ Err (faults.Record count) = rw (k, some, e) refl in
    sym so_far ∙ one
