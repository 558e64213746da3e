use Rattle.std.proofs.Common.{[], get_or, length}
use Rattle.soak.proofs.soaked.Given as goal

-- the names of the cells that were just made
abbrev pub ghosts-soak : goal.ghosts-soak
ghosts-soak g a = record {
  cells = λ input. get_or a.parts.cells input [];
  inputs = length a.parts.cells;
  outputs = a.parts.outputs;
}
