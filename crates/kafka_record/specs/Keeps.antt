-- Bytes that were written at the end.
use Rattle.std.specs.Prelude.{◌≡◌, ℕ, List, length, take}

-- The new bytes begin with the old ones.
pub record Keeps (old new : List ℕ) : Type 0 where
  pub front : take (length old) new ≡ old
