use Rattle.std.proofs.Common.{[], ◌∷◌, get_or}
use Rattle.core_tests.proofs.schedules.interleavings.is_right.Given as goal

-- the names of the cells that were just made
abbrev pub ghosts-played : goal.ghosts-played
ghosts-played g a = record {
  cells = λ input. get_or (a.cells.0 ∷ a.cells.1 ∷ []) input [];
  inputs = 2;
  outputs = 2;
}
