-- What a line does after others, whatever the lines after it are.
use Rattle.std.specs.Prelude.{◌≡◌, ℕ, List, length, Option, Result, Err}
use Rattle.rules.specs.declared.{fault.LineFault.LineFault, fault.RuleFault.RuleFault}
use Rattle.rules.specs.{Lines.Line, Reading.before_rules, Reading.with_line}

-- the rules were old before the line with this number and are new after it
pub record IsAdded (number : ℕ) (line : List ℕ) (reading : Result (Option Line) LineFault)
    (old new : List Line) : Type 0 where
  pub whatever : (later : ℕ → Result (List Line) RuleFault) →
      before_rules old (with_line number line (length old) reading later) ≡ before_rules new (later (length new))

-- the line with this number is refused with this fault, after lines with the rules old
pub record IsRefused (number : ℕ) (line : List ℕ) (reading : Result (Option Line) LineFault) (old : List Line)
    (fault : RuleFault) : Type 0 where
  pub whatever : (later : ℕ → Result (List Line) RuleFault) → with_line number line (length old) reading later ≡ Err fault
