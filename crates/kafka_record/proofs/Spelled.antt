-- The parts of a record, as they were read, are where they are spelled.
use Rattle.std.proofs.Common.{◌≡◌, ℕ, ◌-◌, ◌≤◌, List, ◌++◌, length, take, drop, ap, subst, ◌∙◌, arith, ℤ, pos}
use Rattle.std.proofs.Common.{slice_range, Option, Some, option_map}
use Rattle.std.specs.List.{flat_map}
use Rattle.std.proofs.lemmas.List.{length-append, length-drop, take_at}
use Rattle.wire_spec.specs.{declared.record.Header.Header, Varint.varint}
use Rattle.wire_spec.specs.declared.limits.TheConstants.{MAX_KEY, MAX_VALUE}
use Rattle.wire_spec.specs.RecordSpelling.{nullable, header, record_parts}
use Rattle.wire_spec.specs.RecordReading.{varint_at, nullable_at, counted_at}
use Rattle.wire_spec.proofs.Varints.{IsBytes, IsBytes-drop}
use Rattle.wire_spec.proofs.RecordLaws.{Takes, Takes-then, varint_takes, nullable_takes, counted_take}
use Rattle.kafka_record.specs.{declared.spans.Extent.Extent, Extents.extent_bytes}

-- what was taken between two places
pub between : (bytes text : List ℕ) (start end : ℕ) → Takes (drop start bytes) text (drop end bytes) → start ≤ end →
    end ≤ length bytes → slice_range bytes start end ≡ text
between bytes text start end t low high =
    let len : length text ≡ end - start =
    omega (
      arith,
      ap length t.parts,
      length-append text (drop end bytes),
      length-drop start bytes,
      length-drop end bytes,
    ) in
    ap (take (end - start)) t.parts ∙ take_at text (drop end bytes) (end - start) len

pub parts_are : (bytes : List ℕ) (start a b c end : ℕ) (key value : Option (List ℕ)) (n : ℤ) (hs : List Header) →
    IsBytes bytes → nullable_at MAX_KEY (drop start bytes) ≡ Some (key, drop a bytes) →
    nullable_at MAX_VALUE (drop a bytes) ≡ Some (value, drop b bytes) →
    varint_at (drop b bytes) ≡ Some (n, drop c bytes) → counted_at n (drop c bytes) ≡ Some (hs, drop end bytes) →
    start ≤ end → end ≤ length bytes →
    slice_range bytes start end ≡ record_parts key value hs
parts_are bytes start a b c end key value n hs fits k v count counted low high =
    let after : ℕ → List ℕ = λ at. drop at bytes in
    let small : (at : ℕ) → IsBytes (after at) = λ at. IsBytes-drop at bytes fits in
    let first = nullable_takes MAX_KEY (after start) (key, after a) (small start) k in
    let second = nullable_takes MAX_VALUE (after a) (value, after b) (small a) v in
    let third = varint_takes (after b) (n, after c) (small b) count in
    let fourth = counted_take n (after c) (hs, after end) (small c) counted in
    let number : Takes (after b) (varint (pos (length hs))) (after c) =
    subst (λ (z : ℤ). Takes (after b) (varint z) (after c)) fourth.1 third.0 in
    let headers = Takes-then (after b) (varint (pos (length hs))) (after c) (flat_map header hs) (after end) number
    fourth.0 in
    let others = Takes-then (after a) (nullable value) (after b) (varint (pos (length hs)) ++ flat_map header hs)
    (after end) second.0 headers in
    between bytes _ start end (Takes-then (after start) (nullable key) (after a)
    (nullable value ++ (varint (pos (length hs)) ++ flat_map header hs)) (after end) first.0 others) low high

-- the same, where key and value are extents
pub parts_in : (bytes : List ℕ) (start a b c end : ℕ) (key value : Option Extent) (n m : ℤ) (hs : List Header) →
    m ≡ n → IsBytes bytes →
    nullable_at MAX_KEY (drop start bytes) ≡ Some (option_map (extent_bytes bytes) key, drop a bytes) →
    nullable_at MAX_VALUE (drop a bytes) ≡ Some (option_map (extent_bytes bytes) value, drop b bytes) →
    varint_at (drop b bytes) ≡ Some (n, drop c bytes) → counted_at m (drop c bytes) ≡ Some (hs, drop end bytes) →
    start ≤ end → end ≤ length bytes →
    slice_range bytes start end
    ≡ record_parts (option_map (extent_bytes bytes) key) (option_map (extent_bytes bytes) value) hs
parts_in bytes start a b c end key value n m hs number fits k v count counted low high =
    parts_are bytes start a b c end (option_map (extent_bytes bytes) key) (option_map (extent_bytes bytes) value) n hs
    fits k v count (subst (λ (z : ℤ). counted_at z (drop c bytes) ≡ Some (hs, drop end bytes)) number counted) low high
