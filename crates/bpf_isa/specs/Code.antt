-- Code as a list of placed instructions.
use Rattle.std.specs.Prelude.{◌≡◌, ℕ, ◌<◌, List, [], ◌∷◌, slice_index, slice_get, Option, option_and_then, map, Some}
use Rattle.std.specs.Prelude.{None, ◌==◌, if◌then◌else◌}
use Rattle.machine_spec.specs.{declared.instruction.Instruction.Instruction, declared.instruction.Placed.Placed}
use Rattle.machine_spec.specs.{declared.limits.TheConstants.MAX_SLOTS, Image.IsCodeOf, Image.number_at}

-- each instruction with its slot, of two lists of one length
abbrev pub placed_of : List ℕ → List Instruction → List Placed
placed_of (slot ∷ slots) (instruction ∷ instructions) = record { slot = slot; instruction = instruction }
    ∷ placed_of slots instructions
placed_of (slot ∷ slots) [] = []
placed_of [] instructions = []

-- each number is below 256
abbrev pub AreBytes : List ℕ → Type 0
AreBytes image = (i : ℕ) → slice_index image i < 256

-- The instructions are the code of some image.
pub record HasImage (code : List Placed) : Type 0 where
  pub image : List ℕ
  pub bytes : AreBytes image
  pub is_code : IsCodeOf image code

-- the instruction number that an entry of a slot's table has; MAX_SLOTS is none
abbrev pub entry_number : ℕ → Option ℕ
entry_number n = if n == MAX_SLOTS then None else Some n

-- the same of each entry, in order
abbrev pub entry_numbers : List ℕ → List (Option ℕ)
entry_numbers numbers = map entry_number numbers

-- A table from each slot to the number of the instruction that begins there.
pub record IsTable (code : List Placed) (numbers : List (Option ℕ)) : Type 0 where
  pub entries : (slot : ℕ) → option_and_then (λ number. number) (slice_get numbers slot) ≡ number_at code slot

-- What code keeps: that it has an image, and the table of its slots.
pub record IsKept (code : List Placed) (numbers : List (Option ℕ)) : Type 0 where
  pub image : HasImage code
  pub table : IsTable code numbers
