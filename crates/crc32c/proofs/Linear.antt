-- Division by the generator is linear over the field of two elements.
use Rattle.std.proofs.Common.{◌≡◌, ℕ, zero, suc, ◌+◌, ◌*◌, ◌/◌, ◌%◌, ◌^◌, ◌<◌, refl, ap, arith, zero-add, suc-add}
use Rattle.std.specs.Int.Bits.{bit_xor, xor_assoc, xor_zero_r, xor_shr, xor_mod, xor_shifted, shifted_half}
use Rattle.std.specs.Int.Bits.{shifted_even}
use Rattle.std.proofs.lemmas.Nat.{xor_comm, shr_split, mod_below, pow_pos}
use Rattle.wire_spec.specs.Checksum.{generator, without_highest, remainder}

pub xor_left : (a b c : ℕ) → bit_xor a (bit_xor b c) ≡ bit_xor b (bit_xor a c)
xor_left a b c = rw (← xor_assoc a b c, xor_comm a b, xor_assoc b a c)

-- summands in one order
pub ruleset xor_sorted = (xor_assoc, xor_comm, xor_left)

-- four summands in another order
pub xor_middle : (a b c d : ℕ) → bit_xor (bit_xor a b) (bit_xor c d) ≡ bit_xor (bit_xor a c) (bit_xor b d)
xor_middle a b c d = simp xor_sorted

-- a bit times the generator is linear in the bit
bit_times : (a b : ℕ) → a < 2 → b < 2 → bit_xor a b * generator ≡ bit_xor (a * generator) (b * generator)
bit_times zero zero ha hb = refl
bit_times zero (suc zero) ha hb = refl
bit_times (suc zero) zero ha hb = refl
bit_times (suc zero) (suc zero) ha hb = refl
bit_times _ _ ha hb = absurd (omega arith)

pub without_highest-xor : (a b : ℕ) → without_highest (bit_xor a b) ≡ bit_xor (without_highest a) (without_highest b)
without_highest-xor a b =
    rw (xor_shr a b 1, xor_mod a b 1, bit_times (a % 2) (b % 2) (omega arith) (omega arith), xor_middle)

pub remainder-xor : (n a b : ℕ) → remainder n (bit_xor a b) ≡ bit_xor (remainder n a) (remainder n b)
unfolding remainder
remainder-xor zero a b = refl
remainder-xor (suc n) a b = rw (without_highest-xor a b) (remainder-xor n (without_highest a) (without_highest b))

pub remainder-add : (m n p : ℕ) → remainder (m + n) p ≡ remainder n (remainder m p)
unfolding remainder
remainder-add zero n p = rw zero-add
remainder-add (suc m) n p = rw suc-add (remainder-add m n (without_highest p))

-- a polynomial whose low bits are zero only moves
pub remainder-shifted : (n a : ℕ) → remainder n (a * 2 ^ n) ≡ a
unfolding remainder
remainder-shifted zero a = omega arith
remainder-shifted (suc n) a =
    rw (shifted_half a n, shifted_even a n, xor_zero_r (a * 2 ^ n)) (remainder-shifted n a)

-- a number by its low bits and the rest
pub low_and_rest : (n p : ℕ) → p ≡ bit_xor (p / 2 ^ n * 2 ^ n) (p % 2 ^ n)
low_and_rest n p = cc (shr_split p n, xor_shifted (p / 2 ^ n) n (p % 2 ^ n) (mod_below p (2 ^ n) (pow_pos n)))

-- bits that are added above the n low ones are added to the remainder as they are
pub remainder-joined : (n r a b : ℕ) → a < 2 ^ n
    → bit_xor (remainder n (bit_xor r a)) b ≡ remainder n (bit_xor r (b * 2 ^ n + a))
remainder-joined n r a b h =
    rw (
      ← xor_shifted b n a h,
      xor_comm (b * 2 ^ n) a,
      ← xor_assoc r a (b * 2 ^ n),
      remainder-xor n (bit_xor r a) (b * 2 ^ n),
      remainder-shifted,
    )

-- the eight low bits apart from the rest
pub remainder-split : (m p : ℕ)
    → remainder (8 + m) p ≡ bit_xor (remainder (8 + m) (p % 2 ^ 8)) (remainder m (p / 2 ^ 8))
remainder-split m p =
    let high = p / 2 ^ 8 in
    rw (remainder-xor, remainder-add 8 m (high * 2 ^ 8), remainder-shifted, xor_comm (remainder m high))
    at (ap (remainder (8 + m)) (low_and_rest 8 p))
