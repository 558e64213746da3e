-- Where a text is faulty.
use Rattle.std.specs.Prelude.{ℕ, ◌+◌, ◌-◌, Option, Some, None}
use Rattle.rules.specs.declared.{fault.Spot.Spot, fault.RuleFault.RuleFault, fault.LineFault.LineFault}
use Rattle.rules.specs.declared.fault.RuleFault.TheVariants as rule_fault
use Rattle.rules.specs.declared.fault.LineFault.TheVariants as fault

-- the place of a fault; none where memory ran out
abbrev pub spot_of : RuleFault → Option Spot
spot_of (rule_fault.Word spot) = Some spot
spot_of (rule_fault.Number spot) = Some spot
spot_of (rule_fault.Text spot) = Some spot
spot_of (rule_fault.Long spot) = Some spot
spot_of (rule_fault.Deep spot) = Some spot
spot_of (rule_fault.Many spot) = Some spot
spot_of (rule_fault.End spot) = Some spot
spot_of rule_fault.Memory = None

-- the place in a line of this length at which so many bytes are left
abbrev pub spot_at : (line size left : ℕ) → Spot
spot_at line size left = record { line = line; column = size - left + 1 }

-- the fault of a line with this number and this length
abbrev pub at_line : (line size : ℕ) → LineFault → RuleFault
at_line line size (fault.Word left) = rule_fault.Word (spot_at line size left)
at_line line size (fault.Number left) = rule_fault.Number (spot_at line size left)
at_line line size (fault.Text left) = rule_fault.Text (spot_at line size left)
at_line line size (fault.Long left) = rule_fault.Long (spot_at line size left)
at_line line size (fault.Deep left) = rule_fault.Deep (spot_at line size left)
at_line line size (fault.End left) = rule_fault.End (spot_at line size left)
at_line line size fault.Memory = rule_fault.Memory
