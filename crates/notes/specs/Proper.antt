-- Lists of states that are in their ranges.
use Rattle.std.specs.Prelude.{◌≡◌, ℕ, ◌<◌, true, Some}
use Rattle.verifier_spec.specs.{declared.state.Abstract.Abstract, States.is_proper, Annotation.Claims}
use Rattle.verifier_spec.specs.Annotation.{claim_at}

-- the state of instruction number k, if it has one, is in its ranges
abbrev pub IsProperAt : Claims → ℕ → Type 0
IsProperAt claims k = (s : Abstract) → claim_at claims k ≡ Some s → is_proper s ≡ true

-- the states of the first n instructions are in their ranges
abbrev pub AreProperBelow : Claims → ℕ → Type 0
AreProperBelow claims n = (k : ℕ) → k < n → IsProperAt claims k

-- all states of the list are in their ranges
abbrev pub AreProper : Claims → Type 0
AreProper claims = (k : ℕ) → IsProperAt claims k
