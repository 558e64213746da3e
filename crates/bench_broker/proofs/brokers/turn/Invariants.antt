use Rattle.std.proofs.Common.{[], get_or, length}
use Rattle.bench_broker.proofs.brokers.turn.Given as goal

-- the names of the cells that were just made
abbrev pub ghosts-make : goal.ghosts-make
ghosts-make g a = record {
  cells = λ input. get_or a.parts.cells input [];
  inputs = length a.parts.cells;
  outputs = a.parts.outputs;
}
