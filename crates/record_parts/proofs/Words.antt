-- Bytes word for word.
use Rattle.std.proofs.Common.{◌≡◌, ℕ, zero, suc, ◌+◌, ◌*◌, ◌/◌, ◌<◌, ◌≤◌, List, [], ◌∷◌, length, drop, fold, refl, sym}
use Rattle.std.proofs.Common.{◌∙◌, ap, arith}
use Rattle.std.specs.{Simd.first_chunks, Int.Bits.bit_xor, Int.w32, Int.from_le_bytes}
use borrow.Rule.Slice.PartMut.{put_mid}
use Rattle.machine_spec.specs.Hashes.{word_of}
use Rattle.machine_spec.specs.Hashes.{after_word, after_bytes, multiplied}

-- the hash after words
pub after-words : (k hash : ℕ) (bytes : List ℕ) → k * 4 ≤ length bytes →
    after_bytes (fold (λ h word. after_word h (word_of word)) hash (first_chunks 4 k bytes)) (drop (k * 4) bytes)
    ≡ after_bytes hash bytes
unfolding after_bytes
after-words zero hash bytes within = refl
after-words (suc k) hash (a ∷ b ∷ c ∷ d ∷ bytes) within =
    let more : suc k * 4 ≡ suc (suc (suc (suc (k * 4)))) = omega arith in
    rw more (after-words k (after_word hash (word_of (a ∷ b ∷ c ∷ d ∷ []))) bytes (omega arith))
after-words (suc k) hash (a ∷ b ∷ c ∷ []) within = absurd (omega arith)
after-words (suc k) hash (a ∷ b ∷ []) within = absurd (omega arith)
after-words (suc k) hash (a ∷ []) within = absurd (omega arith)
after-words (suc k) hash [] within = absurd (omega arith)

-- the same of a list that is taken apart into words and what is left
pub after-parts : (hash after : ℕ) (bytes rest : List ℕ) (words : List (List ℕ)) →
    words ≡ first_chunks 4 (length bytes / 4) bytes → rest ≡ drop (length bytes / 4 * 4) bytes →
    after ≡ fold (λ h word. after_word h (word_of word)) hash words →
    after_bytes after rest ≡ after_bytes hash bytes
after-parts hash after bytes rest words front back is =
    rw (is, front, back) (after-words (length bytes / 4) hash bytes (omega arith))

-- the hash after the bytes that are left
pub after-none : (hash : ℕ) (rest : List ℕ) → length rest ≡ 0 → after_bytes hash rest ≡ hash
unfolding after_bytes
after-none hash [] none = refl
after-none hash (a ∷ rest) none = absurd (omega arith)

pub after-rest : (hash : ℕ) (rest : List ℕ) → 0 < length rest → length rest < 4 →
    after_bytes hash rest ≡ multiplied (bit_xor hash (word_of rest))
unfolding after_bytes
after-rest hash [] some few = absurd (omega arith)
after-rest hash (a ∷ []) some few = refl
after-rest hash (a ∷ b ∷ []) some few = refl
after-rest hash (a ∷ b ∷ c ∷ []) some few = refl
after-rest hash (a ∷ b ∷ c ∷ d ∷ rest) some few = absurd (omega arith)

-- ---- the number that less than four bytes are

-- four bytes, of which the first are these and the others 0
pub padded_word : (rest first : List ℕ) (number : ℕ) → first ≡ rest → length rest < 4 →
    number ≡ from_le_bytes w32 (put_mid 0 (length rest) (0 ∷ 0 ∷ 0 ∷ 0 ∷ []) first) → number ≡ word_of rest
padded_word [] first number same few is = rw same at is
padded_word (a ∷ []) first number same few is = omega (arith, rw same at is)
padded_word (a ∷ b ∷ []) first number same few is = omega (arith, rw same at is)
padded_word (a ∷ b ∷ c ∷ []) first number same few is = omega (arith, rw same at is)
padded_word (a ∷ b ∷ c ∷ d ∷ rest) first number same few is = absurd (omega arith)
