-- Reading a list of claims by its index.
use Rattle.std.proofs.Common.{◌≡◌, ℕ, zero, suc, ◌≤◌, [], ◌∷◌, length, refl, get_or, arith, None}
use Rattle.verifier_spec.specs.Annotation.{Claims, claim_at}

-- the claim of an instruction is the element there, or none past the end
pub claim_at_listed : (claims : Claims) (k : ℕ) → claim_at claims k ≡ get_or claims k None
claim_at_listed [] k = refl
claim_at_listed (first ∷ claims) zero = refl
claim_at_listed (first ∷ claims) (suc k) = claim_at_listed claims k

pub claim_at_past : (claims : Claims) (k : ℕ) → length claims ≤ k → claim_at claims k ≡ None
claim_at_past [] k h = refl
claim_at_past (first ∷ claims) zero h = absurd (omega arith)
claim_at_past (first ∷ claims) (suc k) h = claim_at_past claims k (omega arith)
