use Rattle.std.proofs.Common.{[], get_or, length}
use Rattle.commands.proofs.run.run_lines.Given as goal

-- the names of the cells that were just made
abbrev pub ghosts-run_rest : goal.ghosts-run_rest
ghosts-run_rest g a = record {
  cells = λ input. get_or a.parts.cells input [];
  inputs = length a.parts.cells;
  outputs = a.parts.outputs;
}
