use Rattle.std.proofs.Common.{[], get_or, length}
use Rattle.embedding.proofs.run.Given as goal

-- the names of the cells that were just made
abbrev pub ghosts-transform : goal.ghosts-transform
ghosts-transform g a = record {
  cells = λ input. get_or a.parts.cells input [];
  inputs = length a.parts.cells;
  outputs = a.parts.outputs;
}
