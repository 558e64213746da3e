-- One step of reading a condition.
use Rattle.std.proofs.Common.{◌≡◌, ℕ, suc, ◌-◌, ◌≤◌, List, length, Some, None, Ok, Err, refl, ap, arith}
use Rattle.std.specs.Prelude.{codes}
use Rattle.rules.specs.declared.{level.Level.Level, fault.LineFault.LineFault}
use Rattle.rules.specs.declared.level.Level.TheVariants as level
use Rattle.rules.specs.declared.fault.LineFault.TheVariants as fault
use Rattle.rules.specs.Formulas.{Formula, Both, Either}
use Rattle.rules.specs.Scanning.{◌>>=◌, skipped, after_word, after_sign}
use Rattle.rules.specs.Reading.{joined, enclosed_at, single_at, negated_at, one_at, condition_at}

pub is_deep : (steps : ℕ) (what : Level) (text rest : List ℕ) → steps ≡ 0 → rest ≡ skipped text →
    condition_at steps what text ≡ Err (fault.Deep (length rest))
unfolding condition_at
is_deep steps what text rest none is = rw (none, is) refl

any_is : (steps : ℕ) (text : List ℕ) → 1 ≤ steps → condition_at steps level.Any text
    ≡ condition_at (steps - 1) level.All text >>= joined (codes "or") Either (condition_at (steps - 1) level.Any)
unfolding condition_at
any_is steps text some =
    let k : steps ≡ suc (steps - 1) = omega arith in ap (λ (n : ℕ). condition_at n level.Any text) k

all_is : (steps : ℕ) (text : List ℕ) → 1 ≤ steps → condition_at steps level.All text
    ≡ condition_at (steps - 1) level.One text >>= joined (codes "and") Both (condition_at (steps - 1) level.All)
unfolding condition_at
all_is steps text some =
    let k : steps ≡ suc (steps - 1) = omega arith in ap (λ (n : ℕ). condition_at n level.All text) k

one_is : (steps : ℕ) (text : List ℕ) → 1 ≤ steps → condition_at steps level.One text
    ≡ one_at (condition_at (steps - 1) level.One) (condition_at (steps - 1) level.Any) text
unfolding condition_at
one_is steps text some =
    let k : steps ≡ suc (steps - 1) = omega arith in ap (λ (n : ℕ). condition_at n level.One text) k

pub any_fails : (steps : ℕ) (text : List ℕ) (f : LineFault) → 1 ≤ steps →
    condition_at (steps - 1) level.All text ≡ Err f → condition_at steps level.Any text ≡ Err f
any_fails steps text f some is = rw (any_is steps text some, is) refl

pub any_goes_on : (steps : ℕ) (text rest : List ℕ) (first : Formula) → 1 ≤ steps →
    condition_at (steps - 1) level.All text ≡ Ok (first, rest) → condition_at steps level.Any text
    ≡ joined (codes "or") Either (condition_at (steps - 1) level.Any) (first, rest)
any_goes_on steps text rest first some is = rw (any_is steps text some, is) refl

pub all_fails : (steps : ℕ) (text : List ℕ) (f : LineFault) → 1 ≤ steps →
    condition_at (steps - 1) level.One text ≡ Err f → condition_at steps level.All text ≡ Err f
all_fails steps text f some is = rw (all_is steps text some, is) refl

pub all_goes_on : (steps : ℕ) (text rest : List ℕ) (first : Formula) → 1 ≤ steps →
    condition_at (steps - 1) level.One text ≡ Ok (first, rest) → condition_at steps level.All text
    ≡ joined (codes "and") Both (condition_at (steps - 1) level.All) (first, rest)
all_goes_on steps text rest first some is = rw (all_is steps text some, is) refl

pub one_negates : (steps : ℕ) (text rest : List ℕ) → 1 ≤ steps → Some rest ≡ after_word (codes "not") text →
    condition_at steps level.One text ≡ negated_at (condition_at (steps - 1) level.One) rest
one_negates steps text rest some is = rw (one_is steps text some, ← is) refl

pub one_encloses : (steps : ℕ) (text rest : List ℕ) → 1 ≤ steps → None ≡ after_word (codes "not") text →
    Some rest ≡ after_sign (codes "(") text →
    condition_at steps level.One text ≡ enclosed_at (condition_at (steps - 1) level.Any) rest
one_encloses steps text rest some other is = rw (one_is steps text some, ← other, ← is) refl

pub one_tests : (steps : ℕ) (text : List ℕ) → 1 ≤ steps → None ≡ after_word (codes "not") text →
    None ≡ after_sign (codes "(") text → condition_at steps level.One text ≡ single_at text
one_tests steps text some other sign = rw (one_is steps text some, ← other, ← sign) refl
