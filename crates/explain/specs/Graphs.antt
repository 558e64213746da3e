-- Which instructions' jumps lead to each instruction of a program.
use Rattle.std.specs.Prelude.{◌≡◌, ℕ, zero, suc, ℤ, Bool, ◌==◌, if◌then◌else◌, List, [], ◌∷◌, ◌++◌, length, slice_get}
use Rattle.std.specs.Prelude.{Option, Some, None, Vec}
use Rattle.std.specs.declared.alloc.Global.{Global}
use Rattle.machine_spec.specs.{declared.instruction.Placed.Placed, Summaries.summary_of}
use Rattle.explain.specs.Loops.{target, is_there}

-- the number of the instruction that a jump from a slot leads to, forward or back; none where there is no jump
abbrev pub jump_number : List Placed → ℕ → Option ℤ → Option ℕ
jump_number code slot (Some offset) = target code slot offset
jump_number code slot None = None

-- the same of an instruction's jump
abbrev pub jump_from : List Placed → Option Placed → Option ℕ
jump_from code (Some placed) = jump_number code placed.slot (summary_of placed.instruction).jump
jump_from code None = None

-- The jump of instruction number k leads to instruction number j.
abbrev pub jumps_to : List Placed → ℕ → ℕ → Bool
jumps_to code j k = is_there (λ t. t == j) (jump_from code (slice_get code k))

-- the numbers below one that pass a test, in order
unfoldable pub numbers_below : ℕ → (ℕ → Bool) → List ℕ
numbers_below zero test = []
numbers_below (suc n) test = numbers_below n test ++ (if test n then n ∷ [] else [])

-- the instructions whose jumps lead to instruction number j, in order
abbrev pub sources_of : List Placed → ℕ → List ℕ
sources_of code j = numbers_below (length code) (jumps_to code j)

-- list number j of some; an empty one past their end
abbrev pub list_at : List (Vec ℕ Global) → ℕ → List ℕ
list_at [] j = []
list_at (first ∷ lists) zero = first.items
list_at (first ∷ lists) (suc j) = list_at lists j

-- A list for each instruction has those of the first n instructions whose jumps lead to it, in order.
pub record AreSources (code : List Placed) (n : ℕ) (lists : List (Vec ℕ Global)) : Type 0 where
  pub long : length lists ≡ length code
  pub are : (j : ℕ) → list_at lists j ≡ numbers_below n (jumps_to code j)
