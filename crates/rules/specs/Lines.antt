-- Rules without where their parts lie in memory.
use Rattle.std.specs.Prelude.{List, map, Option, option_map}
use Rattle.rules.specs.declared.{condition.Condition.Condition, rule.Action.Action, rule.Rule.Rule}
use Rattle.rules.specs.Formulas.{Formula, first_in}

-- a rule: what becomes of a record, and when, if not always
pub record Line : Type 0 where
  pub action : Action
  pub condition : Option Formula

-- a condition that lies in memory
abbrev pub formula_of : Condition → Formula
formula_of condition = first_in condition.nodes.items

-- a rule that lies in memory
abbrev pub line_of : Rule → Line
line_of rule = record { action = rule.action; condition = option_map formula_of rule.condition }

-- rules that lie in memory
abbrev pub lines_of : List Rule → List Line
lines_of rules = map line_of rules
