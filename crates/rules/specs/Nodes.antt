-- What is read of a condition, as nodes behind others.
use Rattle.std.specs.Prelude.{◌≡◌, ℕ, List, ◌∷◌, ◌++◌, Result, Ok, Err}
use Rattle.wire_spec.specs.Memory.{IsFault}
use Rattle.rules.specs.declared.{condition.Node.Node, fault.LineFault.LineFault}
use Rattle.rules.specs.declared.fault.LineFault.TheVariants as fault
use Rattle.rules.specs.Formulas.{Formula, formulas_of}
use Rattle.rules.specs.Scanning.{Read}

-- new nodes are old ones and, behind them, those of a condition
pub record AreBehind (old new : List Node) (c : Formula) : Type 0 where
  pub part : List Node
  pub is : new ≡ old ++ part
  pub whole : (more : List Node) → formulas_of (part ++ more) ≡ c ∷ formulas_of more

-- a condition that was put behind nodes, and what is left of the text, are what the definition gives, unless memory ran
-- out
abbrev pub PutsAs : {X : Type 0} → (old new : List Node) → (X → List ℕ) → Result X LineFault → Read Formula → Type 0
PutsAs old new left (Ok x) said = (c : Formula) × (said ≡ Ok (c, left x)) × AreBehind old new c
PutsAs old new left (Err f) said = IsFault fault.Memory f said
