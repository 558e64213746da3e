-- A sparse multiple of the generator: what a polynomial leaves n bytes before the end is the sum of what it leaves at
-- the places of the lower powers.
use Rattle.std.proofs.Common.{◌≡◌, ℕ, zero, suc, ◌+◌, ◌*◌, ◌/◌, ◌%◌, ◌-◌, ◌^◌, ◌<◌, ◌≤◌, refl, arith, lit≤, add_comm}
use Rattle.std.proofs.Common.{one-mul, zero-mul}
use Rattle.std.specs.Int.Bits.{bit_xor}
use Rattle.std.proofs.lemmas.Nat.{pow-add, pow_pos, mod_below, shr_below}
use Rattle.wire_spec.specs.Checksum.{remainder}
use Rattle.crc32c.specs.Window.{sum_of_five, before_end, spread, IsMultiple}
use Rattle.crc32c.proofs.Linear.{xor_sorted, remainder-xor, remainder-add, remainder-shifted, low_and_rest}

-- what is linear maps each of five summands
pub sum_of_five-of : (f : ℕ → ℕ) → ((a b : ℕ) → f (bit_xor a b) ≡ bit_xor (f a) (f b)) → (a b c d e : ℕ) →
    f (sum_of_five a b c d e) ≡ sum_of_five (f a) (f b) (f c) (f d) (f e)
sum_of_five-of f linear a b c d e = simp linear

-- two sums of five, added
pub sum_of_five-xor : (a b c d e a' b' c' d' e' : ℕ)
    → sum_of_five (bit_xor a a') (bit_xor b b') (bit_xor c c') (bit_xor d d') (bit_xor e e')
    ≡ bit_xor (sum_of_five a b c d e) (sum_of_five a' b' c' d' e')
sum_of_five-xor a b c d e a' b' c' d' e' = simp xor_sorted

-- ---- the two multiples

pub near_multiple : IsMultiple 14 39 54 144 209
unfolding remainder
near_multiple = record {
  divided = refl;
  word = lit≤ tt;
  second = lit≤ tt;
  third = lit≤ tt;
  fourth = lit≤ tt;
  block = lit≤ tt;
  two_blocks = lit≤ tt;
}

pub far_multiple : IsMultiple 127 366 945 961 977
unfolding remainder
far_multiple = record {
  divided = refl;
  word = lit≤ tt;
  second = lit≤ tt;
  third = lit≤ tt;
  fourth = lit≤ tt;
  block = lit≤ tt;
  two_blocks = lit≤ tt;
}

-- ---- the same for each polynomial below x^32

spread-xor : (a b c d p q : ℕ) → spread a b c d (bit_xor p q) ≡ bit_xor (spread a b c d p) (spread a b c d q)
spread-xor a b c d p q = simp remainder-xor (sum_of_five-xor p _ _ _ _ q _ _ _ _)

-- the order of two divisions is free
remainder-swap : (m n p : ℕ) → remainder m (remainder n p) ≡ remainder n (remainder m p)
remainder-swap m n p = rw (← remainder-add n m p, ← remainder-add m n p, add_comm n m)

spread-remainder : (a b c d n p : ℕ) → spread a b c d (remainder n p) ≡ remainder n (spread a b c d p)
spread-remainder a b c d n p =
    rw (
      sum_of_five-of (remainder n) (remainder-xor n),
      remainder-swap n (8 * a),
      remainder-swap n (8 * b),
      remainder-swap n (8 * c),
      remainder-swap n (8 * d),
    )

-- a polynomial of one power
of_power : {a b c d n : ℕ} → IsMultiple a b c d n → (k j : ℕ) → k + j ≡ 31
    → before_end n (2 ^ k) ≡ spread a b c d (2 ^ k)
of_power {a} {b} {c} {d} {n} is k j e =
    let whole : 0x8000_0000 ≡ 2 ^ k * 2 ^ j = rw e at (pow-add 2 k j) in
    let moved_down : remainder j 0x8000_0000 ≡ 2 ^ k = rw whole (remainder-shifted j (2 ^ k)) in
    rw (← moved_down, remainder-swap (8 * n) j, is.divided, spread-remainder a b c d j)

of_sum : (a b c d n p q : ℕ) → before_end n p ≡ spread a b c d p → before_end n q ≡ spread a b c d q →
    before_end n (bit_xor p q) ≡ spread a b c d (bit_xor p q)
of_sum a b c d n p q e f = rw (remainder-xor (8 * n) p q, e, f, spread-xor a b c d p q)

remainder-none : (n : ℕ) → remainder n 0 ≡ 0
remainder-none n = grind (arith, remainder-shifted n 0)

of_none : (a b c d n : ℕ) → before_end n 0 ≡ spread a b c d 0
of_none a b c d n = simp remainder-none

with_top : {a b c d n : ℕ} → IsMultiple a b c d n → (k top : ℕ) → suc k ≤ 32 → top < 2
    → before_end n (top * 2 ^ k) ≡ spread a b c d (top * 2 ^ k)
with_top {a} {b} {c} {d} {n} is k zero within below = rw zero-mul (of_none a b c d n)
with_top is k (suc zero) within below = rw one-mul (of_power is k (31 - k) (omega arith))
with_top is k (suc (suc top)) within below = absurd (omega arith)

of_bits : {a b c d n : ℕ} → IsMultiple a b c d n → (k p : ℕ) → k ≤ 32 → p < 2 ^ k
    → before_end n p ≡ spread a b c d p
of_bits {a} {b} {c} {d} {n} is zero p within below =
    let none : p ≡ 0 = omega arith in
    rw none (of_none a b c d n)
of_bits {a} {b} {c} {d} {n} is (suc k) p within below =
    let rest = of_bits is k (p % 2 ^ k) (omega arith) (mod_below p (2 ^ k) (pow_pos k)) in
    let top : p / 2 ^ k < 2 = shr_below p 1 k (let e : suc k ≡ 1 + k = omega arith in rw e at below) in
    rw (← low_and_rest k p) at (of_sum a b c d n _ _ (with_top is k (p / 2 ^ k) within top) rest)

pub sparse : {a b c d n : ℕ} → IsMultiple a b c d n → (p : ℕ) → p < 2 ^ 32 → before_end n p ≡ spread a b c d p
sparse is p below = of_bits is 32 p (lit≤ tt) below
