-- How many of the first instructions are never reached, one instruction further.
use Rattle.std.proofs.Common.{◌≡◌, ℕ, suc, ◌+◌, if◌then◌else◌, refl, ap, arith, is_none}
use Rattle.verifier_spec.specs.Annotation.{Claims, claim_at}
use Rattle.explain.specs.Endings.{unreached_count}

-- one more where the instruction is not reached
pub one_further : (claims : Claims) (k : ℕ) →
    unreached_count claims (k + 1)
    ≡ (if is_none (claim_at claims k) then unreached_count claims k + 1 else unreached_count claims k)
unfolding unreached_count
one_further claims k = let next : k + 1 ≡ suc k = omega arith in ap (unreached_count claims) next

pub none_first : (claims : Claims) → unreached_count claims 0 ≡ 0
unfolding unreached_count
none_first claims = refl
