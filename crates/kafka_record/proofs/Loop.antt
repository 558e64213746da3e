-- Reading headers one after the other, as a loop does.
use Rattle.std.proofs.Common.{◌≡◌, ℕ, suc, ◌-◌, ◌+◌, ◌≤◌, ◌<◌, List, [], ◌∷◌, ◌++◌, refl, sym, ap, ◌∙◌, append_assoc}
use Rattle.std.proofs.Common.{arith, Option, Some, None, Result, Ok, Err, ok_or}
use Rattle.std.proofs.lemmas.List.{append-nil}
use Rattle.wire_spec.specs.{declared.record.Header.Header, Memory.IsFault}
use Rattle.wire_spec.specs.RecordReading.{◌>>=◌, header_at, headers_at}
use Rattle.kafka_record.specs.declared.fault.RecordFault.{RecordFault}
use Rattle.kafka_record.specs.declared.fault.RecordFault.TheVariants.{Bad, Memory}

-- what was read before, and what is still read
abbrev pub with_front : List Header → Option (List Header × List ℕ) → Option (List Header × List ℕ)
with_front front read = read >>= λ x. Some (front ++ x.0, x.1)

-- before the first
pub with_none : (read : Option (List Header × List ℕ)) → with_front [] read ≡ read
with_none (Some x) = refl
with_none None = refl

regroup : (front : List Header) (h : Header) (read : Option (List Header × List ℕ)) →
    with_front front (read >>= λ x. Some (h ∷ x.0, x.1)) ≡ with_front (front ++ h ∷ []) read
regroup front h (Some x) = ap (λ (hs : List Header). Some (hs, x.1)) (simp append_assoc)
regroup front h None = refl

pub goes_on : (front : List Header) (count i : ℕ) (bytes : List ℕ) (h : Header) (after : List ℕ)
    (total : Option (List Header × List ℕ)) → i < count → header_at bytes ≡ Some (h, after) →
    with_front front (headers_at (count - i) bytes) ≡ total →
    with_front (front ++ h ∷ []) (headers_at (count - (i + 1)) after) ≡ total
unfolding headers_at
goes_on front count i bytes h after total lt e so_far =
    let k : count - i ≡ suc (count - (i + 1)) = omega arith in
    let one : with_front front (headers_at (count - i) bytes)
    ≡ with_front (front ++ h ∷ []) (headers_at (count - (i + 1)) after) =
    rw (k, e) (regroup front h (headers_at (count - (i + 1)) after)) in
    sym one ∙ so_far

abbrev fails : RecordFault → Result (List Header × List ℕ) RecordFault
fails e = Err e

ends_by : (e : RecordFault) (read : Option (Header × List ℕ)) (front : List Header) (count i : ℕ) (bytes : List ℕ)
    (total : Option (List Header × List ℕ)) → i < count → header_at bytes ≡ read → ok_or read Bad ≡ Err e →
    with_front front (headers_at (count - i) bytes) ≡ total → ok_or total Bad ≡ Err e
unfolding headers_at
ends_by e None front count i bytes total lt none bad so_far =
    let k : count - i ≡ suc (count - (i + 1)) = omega arith in
    let one : with_front front (headers_at (count - i) bytes) ≡ None = rw (k, none) refl in
    let reported : ◌≡◌ {A = Result (Header × List ℕ) RecordFault} (Err Bad) (Err e) = bad in
    let same : Bad ≡ e = cc in
    rw (sym so_far ∙ one) (ap fails same)
ends_by e (Some x) front count i bytes total lt some bad so_far =
    let clash : ◌≡◌ {A = Result (Header × List ℕ) RecordFault} (Ok x) (Err e) = bad in
    absurd cc

pub ends : (e : RecordFault) (front : List Header) (count i : ℕ) (bytes : List ℕ)
    (total : Option (List Header × List ℕ)) → i < count → IsFault Memory e (ok_or (header_at bytes) Bad) →
    with_front front (headers_at (count - i) bytes) ≡ total → IsFault Memory e (ok_or total Bad)
ends e front count i bytes total lt h so_far =
    λ reported. ends_by e (header_at bytes) front count i bytes total lt refl (h reported) so_far

pub is_done : (front : List Header) (count i : ℕ) (bytes : List ℕ) (total : Option (List Header × List ℕ)) → count ≤ i →
    with_front front (headers_at (count - i) bytes) ≡ total → total ≡ Some (front, bytes)
unfolding headers_at
is_done front count i bytes total le so_far =
    let k : count - i ≡ 0 = omega arith in
    let one : with_front front (headers_at (count - i) bytes) ≡ Some (front, bytes) =
    rw k (ap (λ (hs : List Header). Some (hs, bytes)) (append-nil front)) in
    sym so_far ∙ one
