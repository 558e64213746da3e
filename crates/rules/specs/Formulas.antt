-- Conditions without where their parts lie in memory, and the nodes that lie there for one.
use Rattle.std.specs.Prelude.{◌≤◌, List, [], ◌∷◌, length, drop}
use Rattle.rules.specs.declared.{rule.Test.Test, condition.Node.Node}
use Rattle.rules.specs.declared.rule.Part.TheVariants as part
use Rattle.rules.specs.declared.rule.Test.TheVariants as test
use Rattle.rules.specs.declared.condition.Node.TheVariants as node

-- a condition: one test, or a condition that does not hold, or two that both hold or of which one does
pub data Formula : Type 0 where
  Single : Test → Formula
  Negated : Formula → Formula
  Both : (one other : Formula) → Formula
  Either : (one other : Formula) → Formula

-- a node before the conditions that those behind it are; none where it lacks what it is of
abbrev pub before : Node → List Formula → List Formula
before (node.Test t) conditions = Single t.value ∷ conditions
before node.Not (inner ∷ conditions) = Negated inner ∷ conditions
before node.And (one ∷ other ∷ conditions) = Both one other ∷ conditions
before node.Or (one ∷ other ∷ conditions) = Either one other ∷ conditions
before what conditions = []

-- the conditions that nodes are, one behind another
abbrev pub formulas_of : List Node → List Formula
formulas_of [] = []
formulas_of (what ∷ nodes) = before what (formulas_of nodes)

-- the first of some conditions; any one where there is none
abbrev pub first_of : List Formula → Formula
first_of [] = Single (test.Null part.Value)
first_of (c ∷ conditions) = c

-- nodes begin with all those of a condition
abbrev pub BeginWhole : List Node → Type 0
BeginWhole nodes = 1 ≤ length (formulas_of nodes)

-- the condition that nodes begin with
abbrev pub first_in : List Node → Formula
first_in nodes = first_of (formulas_of nodes)

-- the conditions behind it
abbrev pub behind_first : List Node → List Formula
behind_first nodes = drop 1 (formulas_of nodes)
