-- The greatest number of as many bits as a number has.
use Rattle.std.proofs.Common.{◌≡◌, ℕ, ◌-◌, ◌/◌, ◌^◌}
use Rattle.std.specs.{Int.w64, Int.leading_zeros, Int.Count.leading_of_zero}
use Rattle.std.proofs.{lemmas.Nat.leading_le, lemmas.Nat.Bits.ones_shr}
use Rattle.verifier_spec.specs.Intervals.{bit_length}

pub no_bits : (n : ℕ) → n ≡ 0 → 0 ≡ 2 ^ bit_length n - 1
no_bits n e = rw (e, leading_of_zero)

pub some_bits : (n : ℕ) → (2 ^ 64 - 1) / 2 ^ leading_zeros w64 n ≡ 2 ^ bit_length n - 1
some_bits n = ones_shr 64 (leading_zeros w64 n) (leading_le 64 n)
