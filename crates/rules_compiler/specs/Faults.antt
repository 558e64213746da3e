-- Why rules are not compiled.
use Rattle.std.specs.Prelude.{◌≡◌, ℕ, ◌+◌, ◌-◌, ◌<◌, ◌≤◌, List, length, take, drop, ⊤}
use Rattle.machine_spec.specs.declared.{instruction.Instruction.Instruction, limits.TheConstants.MAX_SLOTS}
use Rattle.rules.specs.Lines.{Line}
use Rattle.rules_compiler.specs.{Code.instructions, Rules.lines_code, Rules.code_of}
use Rattle.rules_compiler.specs.declared.{fault.CompileFault.CompileFault, fault.Refusal.Refusal}
use Rattle.rules_compiler.specs.declared.fault.CompileFault.TheVariants as fault
use Rattle.rules_compiler.specs.declared.fault.Refusal.TheVariants as refusal

-- the fault of the rule with a number, of which a piece is not made
abbrev pub at_rule : ℕ → Refusal → CompileFault
at_rule number refusal.Far = fault.Slots number
at_rule number refusal.Memory = fault.Memory

-- why code is not made: it has more instructions than an image may have
abbrev pub IsTooLong : List Instruction → Refusal → Type 0
IsTooLong list refusal.Far = MAX_SLOTS < length list
IsTooLong list refusal.Memory = ⊤

-- the rule with a number is refused, with which there are so many instructions before the last two
abbrev pub IsRefusedAt : (count number : ℕ) → CompileFault → Type 0
IsRefusedAt count number (fault.Slots k) = (k ≡ number) × (MAX_SLOTS < count + 2)
IsRefusedAt count number fault.Memory = ⊤

-- the first of some rules with which the code is too long, where so many instructions stand before them
pub record IsFirstAfter (before : ℕ) (lines : List Line) (number : ℕ) : Type 0 where
  pub long : MAX_SLOTS < before + length (instructions (lines_code (take number lines))) + 2
  pub short : before + length (instructions (lines_code (take (number - 1) lines))) + 2 ≤ MAX_SLOTS

-- why the rules behind the first one are refused, which are named by their numbers among all
abbrev pub AreRefusedBehind : (before : ℕ) → List Line → CompileFault → Type 0
AreRefusedBehind before lines (fault.Slots number) = (2 ≤ number) × IsFirstAfter before (drop 1 lines) (number - 1)
AreRefusedBehind before lines fault.Memory = ⊤

-- A rule is named by its number, from 1: with it the code of the rules has more instructions than an image may have,
-- and with those before it alone it has not.
pub record IsFirstTooLong (lines : List Line) (number : ℕ) : Type 0 where
  pub long : MAX_SLOTS < length (instructions (code_of (take number lines)))
  pub short : length (instructions (code_of (take (number - 1) lines))) ≤ MAX_SLOTS

-- why rules are refused; nothing is said where memory ran out
abbrev pub AreRefused : List Line → CompileFault → Type 0
AreRefused lines (fault.Slots number) = IsFirstTooLong lines number
AreRefused lines fault.Memory = ⊤
