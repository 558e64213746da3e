use Rattle.std.proofs.Common.{[], ◌∷◌, get_or}
use Rattle.bench_broker.proofs.locks.measure.Given as goal

-- the names of the cells that were just made
abbrev pub ghosts-turn : goal.ghosts-turn
ghosts-turn g a = record {
  cells = λ input. get_or (a.cells.first ∷ a.cells.second ∷ a.cells.third ∷ a.cells.fourth ∷ []) input [];
  inputs = 4;
  outputs = 1;
}
