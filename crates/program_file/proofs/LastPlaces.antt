-- The last of some answers that there are.
use Rattle.std.proofs.Common.{◌≡◌, Option, Some, None, refl}
use Rattle.std.specs.Option.{option_or}

pub or_none : {X : Type 0} (first : Option X) → option_or first None ≡ first
or_none (Some x) = refl
or_none None = refl

pub or_or : {X : Type 0} (first second third : Option X) →
    option_or (option_or first second) third ≡ option_or first (option_or second third)
or_or (Some x) second third = refl
or_or None second third = refl
