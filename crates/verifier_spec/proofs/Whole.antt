-- Whole numbers: their order and its tests.
use Rattle.std.proofs.Common.{◌≡◌, ℕ, zero, suc, ◌-◌, ◌≤◌, ℤ, pos, negsuc, ◌+ℤ◌, neg_ℤ, ◌≤ℤ◌, true, int_le}
use Rattle.std.proofs.Common.{unsigned_abs, arith}
use Rattle.std.proofs.lemmas.Int.{ints}

pub le_z-true : (a b : ℤ) → int_le a b ≡ true → a ≤ℤ b
le_z-true a b h = grind (arith, ints)

pub le-le_z : (a b : ℤ) → a ≤ℤ b → int_le a b ≡ true
le-le_z a b h = grind (arith, ints)

pub add_le : (a b c d : ℤ) → a ≤ℤ b → c ≤ℤ d → (a +ℤ c) ≤ℤ (b +ℤ d)
add_le a b c d h k = omega (arith, ints)

pub shift_le : (a b by : ℤ) → a ≤ℤ b → (a +ℤ by) ≤ℤ (b +ℤ by)
shift_le a b by h = omega (arith, ints)

pub le_trans_z : (a b c : ℤ) → a ≤ℤ b → b ≤ℤ c → a ≤ℤ c
le_trans_z a b c h k = omega (arith, ints)

pub negative : (n : ℕ) → pos 0 ≤ℤ negsuc n → ⊥
negative n h = omega (arith, ints)

pub gap_is : (m n : ℕ) → m ≤ n → unsigned_abs (pos n +ℤ neg_ℤ (pos m)) ≡ n - m
gap_is zero n h = omega (arith, ints)
gap_is (suc m) n h = grind (arith, ints)
