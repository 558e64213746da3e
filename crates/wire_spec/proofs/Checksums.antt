-- A checksum has 32 bits.
use Rattle.std.proofs.Common.{◌≡◌, ℕ, zero, suc, ◌+◌, ◌*◌, ◌/◌, ◌%◌, ◌^◌, ◌<◌, ◌≤◌, List, [], ◌∷◌, length, arith, lit<}
use Rattle.std.specs.Simd.Lanes.{Each1, number_l}
use Rattle.std.proofs.lemmas.Nat.{xor_lt, shr_below, pow-add}
use Rattle.std.proofs.{Math.Pow.pow_mono, Math.Nat.lt_of_lt_of_le}
use Rattle.wire_spec.specs.Checksum.{generator, without_highest, remainder, checksum}

without_highest-lt : (k p : ℕ) → 32 ≤ k → p < 2 ^ (k + 1) → without_highest p < 2 ^ k
without_highest-lt k p wide h =
    let more : 2 ^ 32 ≤ 2 ^ k = pow_mono wide in
    let room : p % 2 * generator < 2 ^ k = omega arith in
    xor_lt k (p / 2) (p % 2 * generator) (shr_below p k 1 h) room

pub remainder-lt : (n p : ℕ) → p < 2 ^ (n + 32) → remainder n p < 2 ^ 32
unfolding remainder
remainder-lt zero p h = h
remainder-lt (suc n) p h =
    let e : suc n + 32 ≡ n + 32 + 1 = omega arith in
    remainder-lt n (without_highest p) (without_highest-lt (n + 32) p (omega arith) (rw e at h))

number-lt : (xs : List ℕ) → Each1 (λ b. b < 256) xs → number_l 256 xs < 2 ^ (8 * length xs)
number-lt [] fits = omega arith
number-lt (x ∷ xs) fits =
    let e : 8 * suc (length xs) ≡ 8 + 8 * length xs = omega arith in
    let rest = number-lt xs fits.1 in
    let first : x < 256 = fits.0 in
    rw (e, pow-add 2 8 (8 * length xs)) (omega arith)

pub checksum-lt : (xs : List ℕ) → Each1 (λ b. b < 256) xs → checksum xs < 2 ^ 32
unfolding checksum
checksum-lt xs fits =
    let n = 8 * length xs in
    let number : number_l 256 xs < 2 ^ (n + 32) = lt_of_lt_of_le (number-lt xs fits) (pow_mono (omega arith)) in
    let ones : 0xFFFF_FFFF < 2 ^ (n + 32) = lt_of_lt_of_le {m = 2 ^ 32} (lit< tt) (pow_mono {i = 32} (omega arith)) in
    xor_lt 32 _ 0xFFFF_FFFF (remainder-lt n _ (xor_lt (n + 32) (number_l 256 xs) 0xFFFF_FFFF number ones)) (lit< tt)
