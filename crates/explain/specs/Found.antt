-- Instructions that were found to come to one: their marks, and a list of them.
use Rattle.std.specs.Prelude.{◌≡◌, ◌⊎◌, ℕ, ◌+◌, ◌<◌, ◌≤◌, Bool, true, false, not, if◌then◌else◌, List, [], ◌∷◌, ◌++◌}
use Rattle.std.specs.Prelude.{length, slice_get, slice_set, Option, Some, None}
use Rattle.machine_spec.specs.{declared.instruction.Placed.Placed, Summaries.summary_of}
use Rattle.verifier_spec.specs.Checks.{never_falls}
use Rattle.explain.specs.{Loops.comes_to, Loops.is_marked, Graphs.jumps_to, Graphs.sources_of}

-- The next instruction may follow on an instruction.
abbrev pub follows : Option Placed → Bool
follows (Some placed) = not (never_falls (summary_of placed.instruction))
follows None = false

-- Instruction number k leads to number j in one step: j follows on it, or its jump leads there.
abbrev pub Leads : List Placed → ℕ → ℕ → Type 0
Leads code j k = ((follows (slice_get code k) ≡ true) × (j ≡ k + 1)) ⊎ (jumps_to code j k ≡ true)

-- how many instructions have no mark
abbrev pub unmarked : List Bool → ℕ
unmarked [] = 0
unmarked (true ∷ marks) = unmarked marks
unmarked (false ∷ marks) = unmarked marks + 1

-- the marks with that of one instruction more
abbrev pub marked_too : List Bool → ℕ → List Bool
marked_too marks k = if is_marked marks k then marks else slice_set marks k true

-- the list of the marked ones with it, where it has no mark yet
abbrev pub listed_too : List Bool → List ℕ → ℕ → List ℕ
listed_too marks found k = if is_marked marks k then found else found ++ k ∷ []

-- Each marked instruction is listed and comes to one, and all that leads in one step to one of the first of the list is
-- marked.
pub record AreFound (code : List Placed) (to done : ℕ) (marks : List Bool) (found : List ℕ) : Type 0 where
  pub long : length marks ≡ length code
  pub count : unmarked marks + length found ≡ length code
  pub within : done ≤ length found
  pub start : is_marked marks to ≡ true
  -- the instruction at a position of the list comes to that one in as many steps
  pub sound : (p k : ℕ) → slice_get found p ≡ Some k → comes_to code to p k ≡ true
  pub known : (p k : ℕ) → slice_get found p ≡ Some k → is_marked marks k ≡ true
  pub listed : (k : ℕ) → is_marked marks k ≡ true → (p : ℕ) × (slice_get found p ≡ Some k)
  -- what leads to one of the first of them is marked
  pub before : (p j k : ℕ) → p < done → slice_get found p ≡ Some j → Leads code j k → is_marked marks k ≡ true

-- The same after the first of the jumps to instruction number j, the next of the list: where they begin is marked.
pub record AreJumpsFound (code : List Placed) (to at j count : ℕ) (marks : List Bool) (found : List ℕ) : Type 0 where
  pub are : AreFound code to at marks found
  pub next : slice_get found at ≡ Some j
  pub within : j < length code
  pub from : (p k : ℕ) → p < count → slice_get (sources_of code j) p ≡ Some k → is_marked marks k ≡ true
