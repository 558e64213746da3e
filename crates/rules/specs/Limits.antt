-- Which rules a text can have: those within the limits.
use Rattle.std.specs.Prelude.{ℕ, ◌+◌, ◌-◌, ◌^◌, ◌<◌, ◌≤◌, max, List, length, Option, Some, None, ⊤}
use Rattle.std.specs.List.{AllByRecursion}
use Rattle.rules.specs.declared.{rule.Part.Part, rule.Term.Term, rule.Test.Test, rule.Cut.Cut, rule.Output.Output}
use Rattle.rules.specs.declared.{rule.AddedHeader.AddedHeader, rule.Action.Action, level.Level.Level}
use Rattle.rules.specs.declared.limits.TheConstants.{MAX_RULES, MAX_STEPS, MAX_PLACE, MAX_DIGITS, MAX_OUTPUT, MAX_HASHED}
use Rattle.rules.specs.declared.rule.Part.TheVariants as part
use Rattle.rules.specs.declared.rule.Term.TheVariants as term
use Rattle.rules.specs.declared.rule.Test.TheVariants as test
use Rattle.rules.specs.declared.rule.Output.TheVariants as output
use Rattle.rules.specs.declared.rule.Action.TheVariants as action
use Rattle.rules.specs.declared.level.Level.TheVariants as level
use Rattle.rules.specs.Formulas.{Formula, Single, Negated, Both, Either}
use Rattle.rules.specs.Lines.{Line}

-- a text has at most 255 bytes
abbrev pub FitsText : List ℕ → Type 0
FitsText text = length text ≤ 255

-- the same of a text whose bytes are some, as those of each value in memory
pub record IsText (text : List ℕ) : Type 0 where
  pub few : length text ≤ 255
  pub bytes : AllByRecursion (λ byte. byte < 256) text

-- ---- what is within the limits, where its texts are of a kind

abbrev pub FitsPart : (List ℕ → Type 0) → Part → Type 0
FitsPart T part.Value = ⊤
FitsPart T part.Key = ⊤
FitsPart T (part.Header name) = T name

-- a number lies from `low` to `high`
pub record IsFrom (low high n : ℕ) : Type 0 where
  pub low_is : low ≤ n
  pub high_is : n ≤ high

abbrev pub FitsTerm : (List ℕ → Type 0) → Term → Type 0
FitsTerm T (term.Length p) = FitsPart T p
FitsTerm T (term.Number layout p at) = FitsPart T p × IsFrom 0 MAX_PLACE at
FitsTerm T (term.Decimal p at count) = FitsPart T p × (IsFrom 0 MAX_PLACE at × IsFrom 1 MAX_DIGITS count)
FitsTerm T term.Offset = ⊤
FitsTerm T term.Timestamp = ⊤
FitsTerm T term.Partition = ⊤
FitsTerm T term.Headers = ⊤

abbrev pub FitsTest : (List ℕ → Type 0) → Test → Type 0
FitsTest T (test.Null p) = FitsPart T p
FitsTest T (test.Absent p) = FitsPart T p
FitsTest T (test.Equal p text) = FitsPart T p × T text
FitsTest T (test.Begins p text) = FitsPart T p × T text
FitsTest T (test.Has p text) = FitsPart T p × T text
FitsTest T (test.Compare t how n) = FitsTerm T t × IsFrom 0 (2 ^ 64 - 1) n

-- each test of a condition is within its limits
abbrev pub HasFitting : (List ℕ → Type 0) → Formula → Type 0
HasFitting T (Single t) = FitsTest T t
HasFitting T (Negated inner) = HasFitting T inner
HasFitting T (Both one other) = HasFitting T one × HasFitting T other
HasFitting T (Either one other) = HasFitting T one × HasFitting T other

-- the steps down to a test or to `not`
abbrev pub steps_down : Level → ℕ
steps_down level.Any = 3
steps_down level.All = 2
steps_down level.One = 1

-- the steps down to conditions with `and` between them, through parentheses where they stand in some
abbrev pub steps_to_and : Level → ℕ
steps_to_and level.Any = 1
steps_to_and level.All = 0
steps_to_and level.One = 2

-- the same of `or`
abbrev pub steps_to_or : Level → ℕ
steps_to_or level.Any = 0
steps_to_or level.All = 2
steps_to_or level.One = 1

-- how many steps a condition takes, as it is printed
abbrev pub steps : Level → Formula → ℕ
steps what (Single t) = steps_down what
steps what (Negated inner) = steps_down what + steps level.One inner
steps what (Both one other) = steps_to_and what + (1 + max (steps level.One one) (steps level.All other))
steps what (Either one other) = steps_to_or what + (1 + max (steps level.All one) (steps level.Any other))

-- a condition that is read in so many steps at most
pub record FitsSteps (T : List ℕ → Type 0) (what : Level) (most : ℕ) (c : Formula) : Type 0 where
  pub tests : HasFitting T c
  pub few : steps what c ≤ most

-- a condition of a rule, if it has one
abbrev pub FitsWhen : (List ℕ → Type 0) → Option Formula → Type 0
FitsWhen T (Some c) = FitsSteps T level.Any MAX_STEPS c
FitsWhen T None = ⊤

-- the end of a cut, if it has one
abbrev pub FitsEnd : ℕ → Option ℕ → Type 0
FitsEnd from (Some to) = IsFrom from MAX_PLACE to
FitsEnd from None = ⊤

pub record FitsCut (cut : Cut) : Type 0 where
  pub from : IsFrom 0 MAX_PLACE cut.from
  pub to : FitsEnd cut.from cut.to

abbrev pub FitsOutput : (List ℕ → Type 0) → Output → Type 0
FitsOutput T (output.Record n) = IsFrom 0 MAX_OUTPUT n
FitsOutput T (output.Hashed p n) = FitsPart T p × IsFrom 1 MAX_HASHED n
FitsOutput T (output.Cut n p cut) = IsFrom 0 MAX_OUTPUT n × (FitsPart T p × FitsCut cut)
FitsOutput T (output.Changed n from to text) =
    IsFrom 0 MAX_OUTPUT n × (IsFrom 0 MAX_PLACE from × (IsFrom from MAX_PLACE to × T text))

-- a header that is added, if one is
abbrev pub FitsAdded : (List ℕ → Type 0) → Option AddedHeader → Type 0
FitsAdded T (Some h) = T h.key × T h.value
FitsAdded T None = ⊤

abbrev pub FitsAction : (List ℕ → Type 0) → Action → Type 0
FitsAction T (action.Drop code) = IsFrom 1 (2 ^ 64 - 1) code
FitsAction T (action.Tombstone n) = IsFrom 0 MAX_OUTPUT n
FitsAction T (action.Output o added) = FitsOutput T o × FitsAdded T added

pub record FitsLine (T : List ℕ → Type 0) (line : Line) : Type 0 where
  pub action : FitsAction T line.action
  pub condition : FitsWhen T line.condition

-- the rules of a text
pub record AreRules (T : List ℕ → Type 0) (lines : List Line) : Type 0 where
  pub few : length lines ≤ MAX_RULES
  pub each : AllByRecursion (FitsLine T) lines
