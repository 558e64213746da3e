-- Records within their limits.
use Rattle.std.proofs.Common.{Bool, true, false, refl, sym, ℕ, ◌≡◌, ◌≤◌, suc, List, [], ◌∷◌, length, All, IsTrue, arith}
use Rattle.std.proofs.Common.{IfSome, FitsSigned, IsUtf8, ◌↔◌}
use Rattle.std.specs.{Str.is_utf8, Int.w64, List.AllByRecursion}
use Rattle.std.proofs.{lemmas.Str.is_utf8-from_IsUtf8, lemmas.Str.IsUtf8-from_is_utf8}
use Rattle.std.proofs.lemmas.List.Elements.{All-from_recursion}
use Rattle.wire_spec.specs.{declared.record.Record.Record, RecordSpelling.HeaderFits, RecordSpelling.RecordFits}
use Rattle.wire_spec.specs.declared.limits.TheConstants.{MAX_KEY, MAX_VALUE, MAX_HEADERS}

pub recursion_from_All : {X : Type 0} (P : X → Type 0) (xs : List X) → All P xs → AllByRecursion P xs
recursion_from_All P [] h = tt
recursion_from_All P (x ∷ xs) h = (h 0 x (omega arith), recursion_from_All P xs (λ k d lt. h (suc k) d (omega arith)))

pub fits_iff : (r : Record) (b : Bool) → FitsSigned w64 r.timestamp_delta → IfSome r.key (λ k. length k ≤ MAX_KEY) →
    IfSome r.value (λ v. length v ≤ MAX_VALUE) → length r.headers ≤ MAX_HEADERS →
    (IsTrue b ↔ All HeaderFits r.headers) → IsTrue b ↔ RecordFits r
fits_iff r b timestamp key value count headers = (
  λ t. record {
    timestamp = timestamp;
    key = key;
    value = value;
    count = count;
    headers = recursion_from_All HeaderFits r.headers (headers.0 t);
  },
  λ f. headers.1
      (All-from_recursion HeaderFits r.headers f.headers),
)

-- a test of text is the one of the definition
pub is_utf8_test : (bytes : List ℕ) (b : Bool) → (IsTrue b ↔ IsUtf8 bytes) → b ≡ is_utf8 bytes
is_utf8_test bytes true h = sym (is_utf8-from_IsUtf8 bytes (h.0 refl))
is_utf8_test bytes false h = no_text (is_utf8 bytes)
    (λ e. let t : false ≡ true = h.1 (IsUtf8-from_is_utf8 bytes e) in cc)
  where
    no_text : (t : Bool) → (t ≡ true → ⊥) → false ≡ t
    no_text true n = absurd (n refl)
    no_text false n = refl
