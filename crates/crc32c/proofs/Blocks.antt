-- Four bytes, and blocks of sixteen, at a time.
use Rattle.std.proofs.Common.{◌≡◌, ℕ, zero, suc, ◌+◌, ◌*◌, ◌/◌, ◌^◌, ◌<◌, ◌≤◌, List, [], ◌∷◌, ◌++◌, length, take}
use Rattle.std.proofs.Common.{get_or, drop, refl, sym, ◌∙◌, ap, arith, append-nil, length-append}
use Rattle.std.proofs.Common.{length-take-le, zero-mul}
use Rattle.std.specs.Int.Bits.{bit_and, bit_xor, xor_assoc, and_mask}
use Rattle.std.specs.{List.concat, Simd.first_chunks, Simd.Lanes.Each1, Simd.Lanes.chunk}
use Rattle.std.proofs.{Math.Seq.take-length, Math.Seq.take-add, lemmas.List.take_more, lemmas.List.take-append-drop}
use Rattle.std.proofs.{lemmas.List.Folds.concat-append, lemmas.Nat.shr-shr, lemmas.Simd.Each1-chunk}
use Rattle.std.proofs.lemmas.Simd.{length-chunk}
use Rattle.wire_spec.specs.Checksum.{remainder}
use Rattle.crc32c.specs.Register.{register_after, word_at}
use Rattle.crc32c.specs.Window.{IsBlock, AreBlocks}
use Rattle.crc32c.proofs.Linear.{remainder-xor, remainder-add, remainder-split, xor_sorted}
use Rattle.crc32c.proofs.Steps.{after-append, after-number}

-- ---- the looks at the tables for a word

split_at : (n m v : ℕ) → n ≡ 8 + m → remainder n v ≡ bit_xor (remainder n (bit_and v 255)) (remainder m (v / 2 ^ 8))
split_at n m v e = rw (e, and_mask v 8) (remainder-split m v)

pub from_entries : (k v : ℕ) → bit_xor (bit_xor (bit_xor
    (remainder (8 * (k + 3) + 8) (bit_and v 255))
    (remainder (8 * (k + 2) + 8) (bit_and (v / 2 ^ 8) 255)))
    (remainder (8 * (k + 1) + 8) (bit_and (v / 2 ^ 16) 255)))
    (remainder (8 * k + 8) (v / 2 ^ 24)) ≡ remainder (8 * k + 32) v
from_entries k v =
    let same : 8 * k + 32 ≡ 8 * (k + 3) + 8 = omega arith in
    let first = split_at (8 * (k + 3) + 8) (8 * (k + 2) + 8) v (omega arith) in
    let second = split_at (8 * (k + 2) + 8) (8 * (k + 1) + 8) (v / 2 ^ 8) (omega arith) in
    let third = split_at (8 * (k + 1) + 8) (8 * k + 8) (v / 2 ^ 16) (omega arith) in
    rw same (simp xor_assoc (cc (shr-shr v 8 8, shr-shr v 16 8)))

-- ---- a word of a list

-- the remainder after one more word of a list
after-word : (r i : ℕ) (xs : List ℕ) → i + 4 ≤ length xs → Each1 (λ b. b < 256) xs
    → register_after r (take (i + 4) xs) ≡ remainder 32 (bit_xor (register_after r (take i xs)) (word_at xs i))
after-word r i xs h fits =
    rw (
      take-add i 4 xs,
      after-append,
      after-number _ (chunk i 4 xs) (Each1-chunk (λ b. b < 256) i 4 xs fits),
      length-chunk i 4 xs h,
    )

-- ---- a block

-- four words, one after the other, are four products
four_words : (r w0 w1 w2 w3 r1 r2 r3 r4 : ℕ) → r1 ≡ remainder 32 (bit_xor r w0) → r2 ≡ remainder 32 (bit_xor r1 w1) →
    r3 ≡ remainder 32 (bit_xor r2 w2) → r4 ≡ remainder 32 (bit_xor r3 w3) →
    bit_xor (bit_xor (bit_xor (remainder 32 w3) (remainder 64 w2)) (remainder 96 w1)) (remainder 128 (bit_xor w0 r))
    ≡ r4
four_words r w0 w1 w2 w3 r1 r2 r3 r4 e1 e2 e3 e4 =
    rw (e4, e3, e2, e1)
    (simp (remainder-add 32 32, remainder-add 64 32, remainder-add 96 32, remainder-xor, xor_sorted))

pub after-block : (r : ℕ) (xs : List ℕ) → length xs ≡ 16 → Each1 (λ b. b < 256) xs →
    bit_xor (bit_xor (bit_xor (remainder 32 (word_at xs 12)) (remainder 64 (word_at xs 8)))
    (remainder 96 (word_at xs 4))) (remainder 128 (bit_xor (word_at xs 0) r)) ≡ register_after r xs
unfolding register_after
after-block r xs long fits =
    let all : take 16 xs ≡ xs = ap (λ n. take n xs) (sym long) ∙ take-length xs in
    let word = λ (i : ℕ) (within : i + 4 ≤ length xs). after-word r i xs within fits in
    rw all at (four_words r (word_at xs 0) (word_at xs 4) (word_at xs 8) (word_at xs 12) _ _ _ _
    (word 0 (omega arith)) (word 4 (omega arith)) (word 8 (omega arith)) (word 12 (omega arith)))

-- ---- the blocks of a list

-- the remainder after one more block
pub after-next_block : (r i : ℕ) (xss : List (List ℕ)) → i < length xss
    → register_after r (concat (take (i + 1) xss))
    ≡ register_after (register_after r (concat (take i xss))) (get_or xss i [])
after-next_block r i xss h = rw (take_more xss i [] h, concat-append, append-nil, after-append)

-- one more block of a list that grows
pub after-one_more : (r : ℕ) (xss : List (List ℕ)) (block : List ℕ)
    → register_after r (concat (xss ++ block ∷ [])) ≡ register_after (register_after r (concat xss)) block
after-one_more r xss block = rw (concat-append, append-nil, after-append)

Each1-append : (P : ℕ → Type 0) (xs ys : List ℕ) → Each1 P xs → Each1 P ys → Each1 P (xs ++ ys)
Each1-append P [] ys each-x each-y = each-y
Each1-append P (x ∷ xs) ys each-x each-y = (each-x.0, Each1-append P xs ys each-x.1 each-y)

pub blocks-more : (xss : List (List ℕ)) (block : List ℕ) → AreBlocks xss → IsBlock block
    → AreBlocks (xss ++ block ∷ [])
blocks-more xss block are is =
    let long = length-append (concat xss) block in
    let more = length-append xss (block ∷ []) in
    rw (concat-append, append-nil)
    (omega (arith, long, more, are.0, is.0), Each1-append (λ b. b < 256) (concat xss) block are.1 is.1)

concat-first_chunks : (n k : ℕ) (xs : List ℕ) → concat (first_chunks n k xs) ≡ take (k * n) xs
concat-first_chunks n zero xs = rw zero-mul
concat-first_chunks n (suc k) xs =
    let more : suc k * n ≡ n + k * n = omega arith in
    rw (more, take-add n (k * n) xs, concat-first_chunks n k (drop n xs))

length-first_chunks : (n k : ℕ) (xs : List ℕ) → length (first_chunks n k xs) ≡ k
length-first_chunks n zero xs = refl
length-first_chunks n (suc k) xs = ap suc (length-first_chunks n k (drop n xs))

-- the bytes of the blocks of a list
pub blocks-are : (k : ℕ) (xs : List ℕ) (blocks : List (List ℕ)) → blocks ≡ first_chunks 16 k xs → k * 16 ≤ length xs
    → Each1 (λ b. b < 256) xs → AreBlocks blocks
blocks-are k xs blocks e within fits =
    rw (e, concat-first_chunks 16 k xs, length-first_chunks 16 k xs, length-take-le (k * 16) xs within)
    (omega arith, Each1-chunk (λ b. b < 256) 0 (k * 16) xs fits)

-- the remainder after the blocks of a list and what is left
pub after-blocks : (r n k : ℕ) (xs left : List ℕ) (blocks : List (List ℕ)) → blocks ≡ first_chunks n k xs →
    left ≡ drop (k * n) xs → register_after (register_after r (concat blocks)) left ≡ register_after r xs
after-blocks r n k xs left blocks e f =
    rw (← after-append r (concat blocks) left, e, f, concat-first_chunks n k xs, take-append-drop (k * n) xs)
