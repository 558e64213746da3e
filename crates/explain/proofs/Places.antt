-- The least number below one that passes a test.
use Rattle.std.proofs.Common.{◌≡◌, ℕ, zero, suc, ◌+◌, ◌<◌, Bool, true, false, if◌then◌else◌, Option, Some, None, refl}
use Rattle.std.proofs.Common.{ap, ◌∙◌, subst, add-one, arith, inl, inr}
use Rattle.std.proofs.lemmas.Bool.{cases_lt}
use Rattle.std.specs.Option.{option_or}
use Rattle.explain.specs.Reasons.{first_below}

pub none_first : (test : ℕ → Bool) → first_below 0 test ≡ None
unfolding first_below
none_first test = refl

-- the last one, where none below it passes
pub last_one : (test : ℕ → Bool) (k : ℕ) (b : Bool) → first_below k test ≡ None → test k ≡ b →
    first_below (suc k) test ≡ (if b then Some k else None)
unfolding first_below
last_one test k b before e = ap (λ (o : Option ℕ). option_or o (if test k then Some k else None)) before
    ∙ ap (λ (t : Bool). if t then Some k else None) e

pub none_more : (test : ℕ → Bool) (k : ℕ) → first_below k test ≡ None → test k ≡ false → first_below (k + 1) test ≡ None
none_more test k before fails = rw add-one (last_one test k false before fails)

kept : (test : ℕ → Bool) (n k : ℕ) → first_below n test ≡ Some k → first_below (suc n) test ≡ Some k
unfolding first_below
kept test n k e = ap (λ (o : Option ℕ). option_or o (if test n then Some n else None)) e

found_from : (test : ℕ → Bool) (n k : ℕ) → k < n → first_below (suc k) test ≡ Some k → first_below n test ≡ Some k
found_from test zero k below at = absurd (omega arith)
found_from test (suc n) k below at = elim (cases_lt k n) [
  | inl before ↦ kept test n k (found_from test n k before at)
  | inr past ↦
      let same : k ≡ n = omega arith in
      subst (λ (m : ℕ). first_below (suc m) test ≡ Some k) same at
]

pub found_first : (test : ℕ → Bool) (n k : ℕ) → first_below k test ≡ None → test k ≡ true → k < n →
    first_below n test ≡ Some k
found_first test n k before passes below = found_from test n k below (last_one test k true before passes)
