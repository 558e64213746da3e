-- The remainder after more bytes.
use Rattle.std.proofs.Common.{◌≡◌, ℕ, suc, ◌+◌, ◌*◌, ◌/◌, ◌%◌, ◌^◌, ◌<◌, List, [], ◌∷◌, ◌++◌, length, get_or, take}
use Rattle.std.proofs.Common.{refl, sym, arith}
use Rattle.std.specs.Int.Bits.{bit_and, bit_xor, xor_zero_r, xor_shr, and_mask}
use Rattle.std.specs.{Int.w32, Int.from_le_bytes, Simd.Lanes.Each1, Simd.Lanes.number_l}
use Rattle.std.proofs.{lemmas.Nat.xor_comm, lemmas.List.take_more, lemmas.Simd.Each1-from_get_or}
use Rattle.wire_spec.specs.Checksum.{remainder, checksum}
use Rattle.crc32c.specs.Register.{register_after}
use Rattle.crc32c.proofs.Linear.{remainder-add, remainder-joined, remainder-split}

-- one look at the table for one byte
pub from_entry : (r b : ℕ) → b < 2 ^ 8
    → bit_xor (r / 2 ^ 8) (remainder 8 (bit_and (bit_xor r b) 255)) ≡ remainder 8 (bit_xor r b)
unfolding remainder
from_entry r b h =
    let p = bit_xor r b in
    let none : b / 2 ^ 8 ≡ 0 = omega arith in
    let low = remainder-split 0 p in
    let turned = xor_comm (r / 2 ^ 8) (remainder 8 (p % 2 ^ 8)) in
    cc (xor_shr r b 8, xor_zero_r (r / 2 ^ 8), and_mask p 8)

pub after-append : (r : ℕ) (xs ys : List ℕ) → register_after r (xs ++ ys) ≡ register_after (register_after r xs) ys
unfolding register_after
after-append r [] ys = refl
after-append r (x ∷ xs) ys = after-append (remainder 8 (bit_xor r x)) xs ys

-- the remainder after one more byte of a list
pub after-take_more : (r i : ℕ) (xs : List ℕ) → i < length xs
    → register_after r (take (i + 1) xs) ≡ remainder 8 (bit_xor (register_after r (take i xs)) (get_or xs i 0))
unfolding register_after
after-take_more r i xs h = rw (take_more xs i 0 h, after-append)

pub each_below : (xs : List ℕ) → ((i : ℕ) → get_or xs i 0 < 256) → Each1 (λ b. b < 256) xs
each_below xs below = Each1-from_get_or (λ b. b < 256) xs 0 (λ i _. below i)

-- a byte at a time or the whole number of the bytes at once
pub after-number : (r : ℕ) (xs : List ℕ) → Each1 (λ b. b < 256) xs
    → register_after r xs ≡ remainder (8 * length xs) (bit_xor r (number_l 256 xs))
unfolding register_after remainder
after-number r [] fits = sym (xor_zero_r r)
after-number r (x ∷ xs) fits =
    let n = 8 * length xs in
    let more : 8 * suc (length xs) ≡ 8 + n = omega arith in
    let place : x + 256 * number_l 256 xs ≡ number_l 256 xs * 2 ^ 8 + x = omega arith in
    rw (more, remainder-add 8 n, place, ← remainder-joined 8 r x (number_l 256 xs) fits.0)
    (after-number (remainder 8 (bit_xor r x)) xs fits.1)

-- four bytes as a word
four-is : (b0 b1 b2 b3 : ℕ) → from_le_bytes w32 (b0 ∷ b1 ∷ b2 ∷ b3 ∷ []) ≡ number_l 256 (b0 ∷ b1 ∷ b2 ∷ b3 ∷ [])
four-is b0 b1 b2 b3 = omega arith

pub after-four : (r : ℕ) (xs : List ℕ) → length xs ≡ 4 → Each1 (λ b. b < 256) xs
    → register_after r xs ≡ remainder 32 (bit_xor r (from_le_bytes w32 xs))
after-four r [] long fits = absurd (omega arith)
after-four r (b0 ∷ []) long fits = absurd (omega arith)
after-four r (b0 ∷ b1 ∷ []) long fits = absurd (omega arith)
after-four r (b0 ∷ b1 ∷ b2 ∷ []) long fits = absurd (omega arith)
after-four r (b0 ∷ b1 ∷ b2 ∷ b3 ∷ []) long fits =
    rw (four-is b0 b1 b2 b3) (after-number r (b0 ∷ b1 ∷ b2 ∷ b3 ∷ []) fits)
after-four r (b0 ∷ b1 ∷ b2 ∷ b3 ∷ b4 ∷ xs) long fits = absurd (omega arith)

-- the register that starts from all ones, inverted
pub checksum_is : (xs : List ℕ) → ((i : ℕ) → get_or xs i 0 < 256) →
    bit_xor (register_after 0xFFFF_FFFF xs) 0xFFFF_FFFF ≡ checksum xs
unfolding checksum
checksum_is xs below =
    rw (after-number 0xFFFF_FFFF xs (each_below xs below), xor_comm 0xFFFF_FFFF (number_l 256 xs))
