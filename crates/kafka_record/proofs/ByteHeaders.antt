-- Keys and values of headers in bytes are bytes.
use Rattle.std.proofs.Common.{◌≡◌, ℕ, zero, suc, List, [], ◌∷◌, ◌++◌, All, unwrap_or}
use Rattle.std.proofs.Common.{length, drop, refl, arith, Option, Some, None, subst, pos}
use Rattle.std.proofs.lemmas.List.{drop_at, take_at}
use Rattle.wire_spec.specs.{declared.record.Header.Header, Varint.varint}
use Rattle.wire_spec.specs.RecordSpelling.{string, nullable, header}
use Rattle.wire_spec.specs.RecordReading.{header_at, headers_at}
use Rattle.wire_spec.proofs.Varints.{IsBytes, IsBytes-drop, IsBytes-take}
use Rattle.wire_spec.proofs.RecordLaws.{bind_some, some_is, header_takes}
use Rattle.kafka_record.specs.{HeaderBytes.HasBytes, SpelledHeaders.headers_in, SpelledHeaders.AreSpelled}

-- bytes behind others, and before others
last_bytes : (a b : List ℕ) → IsBytes (a ++ b) → IsBytes b
last_bytes a b fits = subst IsBytes (drop_at a b (length a) refl) (IsBytes-drop (length a) (a ++ b) fits)

first_bytes : (a b : List ℕ) → IsBytes (a ++ b) → IsBytes a
first_bytes a b fits = subst IsBytes (take_at a b (length a) refl) (IsBytes-take (length a) (a ++ b) fits)

value_bytes : (value : Option (List ℕ)) → IsBytes (nullable value) → IsBytes (unwrap_or value [])
value_bytes None fits = λ i. omega arith
value_bytes (Some v) fits = last_bytes (varint (pos (length v))) v fits

header_bytes : (h : Header) (rest : List ℕ) → IsBytes (header h ++ rest) → HasBytes h
header_bytes h rest fits =
    let all = first_bytes (header h) rest fits in
    record {
      key = λ i. last_bytes (varint (pos (length h.key))) h.key (first_bytes (string h.key) (nullable h.value) all) i;
      value = λ i. value_bytes h.value (last_bytes (string h.key) (nullable h.value) all) i;
    }

both : (h : Header) (hs : List Header) → HasBytes h → All HasBytes hs → All HasBytes (h ∷ hs)
both h hs one others zero d lt = one
both h hs one others (suc k) d lt = others k d (omega (arith, lt))

each : (n : ℕ) (bytes : List ℕ) (x : List Header × List ℕ) → IsBytes bytes → headers_at n bytes ≡ Some x →
    All HasBytes x.0
unfolding headers_at
each zero bytes x fits e =
    subst (λ (y : List Header × List ℕ). All HasBytes y.0) (some_is ([], bytes) x e) (λ k d lt. absurd (omega (arith, lt)))
each (suc n) bytes x fits e =
    let a = bind_some (header_at bytes) _ x e in
    let b = bind_some (headers_at n a.0.1) _ x a.2 in
    let first = header_takes bytes a.0 fits a.1 in
    subst (λ (y : List Header × List ℕ). All HasBytes y.0) (some_is _ x b.2)
    (both a.0.0 b.0.0 (header_bytes a.0.0 a.0.1 (subst IsBytes first.0.parts fits))
    (each n a.0.1 b.0 first.0.rest_fits b.1))

pub are_bytes : (bytes : List ℕ) (start end count : ℕ) → IsBytes bytes → AreSpelled bytes start end count →
    All HasBytes (headers_in count (drop start bytes))
are_bytes bytes start end count fits s =
    each count (drop start bytes) _ (IsBytes-drop start bytes fits) s.read
