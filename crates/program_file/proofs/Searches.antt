-- The first byte of a kind.
use Rattle.std.proofs.Common.{◌≡◌, ℕ, Bool, true, false, not, ◌&&◌, ◌==◌, nat_lt, List, length}
use Rattle.std.proofs.Common.{Option, Some, None, refl, sym, arith, is_some}
use Rattle.std.specs.List.{list_all, position_or_len}
use Rattle.std.proofs.lemmas.Bool.{false_from_ne_true, not_from_true, not_from_false}
use Rattle.std.proofs.lemmas.List.{Recursion.and_from_places, Folds.list_all_at, Sums.position_or_len_is}
use Rattle.std.proofs.lemmas.Str.{is_utf8-from_IsUtf8}
use Rattle.std.specs.Str.{IsUtf8}
use Rattle.program_file.specs.Spelling.{is_place_text}
use Rattle.memchr.specs.Find.{IsFirstByte, is_byte}

pub not_twice : (b : Bool) → b ≡ not (not b)
not_twice true = refl
not_twice false = refl

-- a text has no byte of a kind exactly where a search finds none
pub none_found : (byte : ℕ) (text : List ℕ) (r : Option ℕ) → IsFirstByte (is_byte byte) text r →
    not (is_some r) ≡ list_all (λ b. not (b == byte)) text
none_found byte text None h =
    let p : ℕ → Bool = λ (b : ℕ). not (b == byte) in
    sym (and_from_places (list_all p) p refl (λ _ _. refl) text 0
    (λ i within. not_from_false _ (false_from_ne_true _ (h i (omega arith) within))))
none_found byte text (Some k) h =
    sym (list_all_at (λ b. not (b == byte)) text k 0 h.0.high (not_from_true _ h.1))

-- where a search finds one, it is the first
pub first_found : (byte : ℕ) (text : List ℕ) (k : ℕ) → IsFirstByte (is_byte byte) text (Some k) →
    position_or_len (λ b. b == byte) text ≡ k
first_found byte text k h =
    position_or_len_is (λ b. b == byte) text k 0 (omega (arith, h.0.high))
    (λ i before. false_from_ne_true _ (h.0.before i (omega arith) before)) (λ within. h.1)

-- where it finds none, there is none
pub no_first : (byte : ℕ) (text : List ℕ) → IsFirstByte (is_byte byte) text None →
    position_or_len (λ b. b == byte) text ≡ length text
no_first byte text h =
    position_or_len_is (λ b. b == byte) text (length text) 0 (omega arith)
    (λ i before. false_from_ne_true _ (h i (omega arith) before)) (λ within. absurd (omega arith))

-- what a UTF-8 text lacks to be a place's
pub place_text : (text : List ℕ) → IsUtf8 text →
    is_place_text text ≡ (nat_lt 0 (length text) && list_all (λ b. not (b == 10)) text)
place_text text utf8 = rw (is_utf8-from_IsUtf8 text utf8)
