-- Bytes that are not set, one by one, and bytes behind others.
use Rattle.std.proofs.Common.{◌≡◌, ℕ, zero, suc, ◌+◌, ◌-◌, ◌<◌, ◌||◌, [], ◌∷◌, ◌++◌, Option, unwrap_or}
use Rattle.std.proofs.Common.{add-one, refl, arith, is_none}
use Rattle.machine_spec.specs.{Machine.bytes_from, Traps.has_unset}

-- the first byte of some decides, or the others do
pub unset_open : (f : ℕ → Option ℕ) (place count k : ℕ) → k < count →
    has_unset f (place + k) (count - k) ≡ (is_none (f (place + k)) || has_unset f (place + (k + 1)) (count - (k + 1)))
unset_open f place count k below =
    let one_more : count - k ≡ suc (count - (k + 1)) = omega arith in
    let next : place + k + 1 ≡ place + (k + 1) = omega arith in
    rw (one_more, next) refl

-- one byte more behind others
pub one_more : (f : ℕ → Option ℕ) (place count : ℕ) →
    bytes_from f place (suc count) ≡ bytes_from f place count ++ unwrap_or (f (place + count)) 0 ∷ []
one_more f place zero = grind arith
one_more f place (suc count) = grind (arith, one_more f (place + 1) count)

pub next_byte : (f : ℕ → Option ℕ) (place count : ℕ) →
    bytes_from f place (count + 1) ≡ bytes_from f place count ++ unwrap_or (f (place + count)) 0 ∷ []
next_byte f place count = rw add-one (one_more f place count)
