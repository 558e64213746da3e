-- Whether the code that a jump back leads to comes to the jump again.
use Rattle.std.specs.Prelude.{ℕ, zero, suc, ◌+◌, ℤ, pos, Bool, false, ◌==◌, ◌&&◌, ◌||◌, not, int_lt, if◌then◌else◌}
use Rattle.std.specs.Prelude.{List, length, slice_get, slice_index_or, unsigned_abs, Option, Some, None}
use Rattle.machine_spec.specs.declared.{instruction.Placed.Placed, summary.Summary.Summary}
use Rattle.machine_spec.specs.{Summaries.summary_of, Image.number_at}
use Rattle.verifier_spec.specs.Checks.{never_falls}
use Rattle.explain.specs.{declared.hint.Hint.Hint, Reasons.landing_slot}

-- ---- one step

-- the number of the instruction that begins at a slot; none where none begins there, as at a slot below 0
abbrev pub number_on : List Placed → ℤ → Option ℕ
number_on code slot = if int_lt slot (pos 0) then None else number_at code (unsigned_abs slot)

-- the number of the instruction that a jump leads to, forward or back; none where no instruction begins there
abbrev pub target : List Placed → ℕ → ℤ → Option ℕ
target code slot offset = number_on code (landing_slot slot offset)

-- There is a number, and it passes a test.
abbrev pub is_there : (ℕ → Bool) → Option ℕ → Bool
is_there test (Some k) = test k
is_there test None = false

-- There is a jump from a slot, and it leads to an instruction that passes a test.
abbrev pub jumps_to_marked : List Placed → (ℕ → Bool) → ℕ → Option ℤ → Bool
jumps_to_marked code test slot (Some offset) = is_there test (target code slot offset)
jumps_to_marked code test slot None = false

-- The next instruction may follow on instruction number k, and it passes a test.
abbrev pub falls_to_marked : (ℕ → Bool) → ℕ → Summary → Bool
falls_to_marked test k m = not (never_falls m) && test (k + 1)

-- an instruction leads in one step to one that passes a test: the next, or that of its jump
abbrev pub leads_to_marked : List Placed → (ℕ → Bool) → ℕ → Option Placed → Bool
leads_to_marked code test k (Some placed) =
    falls_to_marked test k (summary_of placed.instruction) || jumps_to_marked code test placed.slot
    (summary_of placed.instruction).jump
leads_to_marked code test k None = false

-- it passes the test itself, or leads to one that does
abbrev pub is_marked_next : List Placed → (ℕ → Bool) → ℕ → Bool
is_marked_next code test k = test k || leads_to_marked code test k (slice_get code k)

-- ---- many steps

-- The code from one instruction on comes to another in at most so many steps. From code of n instructions n steps are
-- as good as any number.
unfoldable pub comes_to : List Placed → ℕ → ℕ → ℕ → Bool
comes_to code to zero from = from == to
comes_to code to (suc steps) from = is_marked_next code (comes_to code to steps) from

-- ---- marks in a list

-- An instruction is marked in a list of marks by instruction number; past its end none is.
abbrev pub is_marked : List Bool → ℕ → Bool
is_marked marks k = slice_index_or marks k false

-- ---- the hint

-- the hint for a jump back: a loop, if the code that it leads to comes to the jump again, else the order of the code
abbrev pub loop_or_order : Bool → ℤ → ℕ → Hint
loop_or_order comes landing_slot slot = if comes then Hint.Loop landing_slot slot else Hint.Order landing_slot slot

-- the same of a jump of instruction number k that leads to an instruction; none where it leads to none
abbrev pub loop_from : List Placed → ℕ → ℕ → ℤ → Option ℕ → Option Hint
loop_from code k slot landing_slot (Some from) =
    Some (loop_or_order (comes_to code k (length code) from) landing_slot slot)
loop_from code k slot landing_slot None = None

-- where a jump of instruction number k leads to an instruction
abbrev pub loop_hint : List Placed → ℕ → ℕ → ℤ → Option Hint
loop_hint code k slot offset = loop_from code k slot (landing_slot slot offset) (target code slot offset)

-- the same of a jump back; none where the jump leads forward, or there is none
abbrev pub jump_hint : List Placed → ℕ → ℕ → Option ℤ → Option Hint
jump_hint code k slot (Some offset) = if int_lt offset (pos 0) then loop_hint code k slot offset else None
jump_hint code k slot None = None

-- of instruction number k, where it jumps back
abbrev pub back_hint : List Placed → ℕ → Option Placed → Option Hint
back_hint code k (Some placed) = jump_hint code k placed.slot (summary_of placed.instruction).jump
back_hint code k None = None
