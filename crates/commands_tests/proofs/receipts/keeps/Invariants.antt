use Rattle.std.proofs.Common.{[], get_or, length}
use Rattle.commands_tests.proofs.receipts.keeps.Given as goal

-- the names of the cells that were just made
abbrev pub ghosts-goes_on_anew : goal.ghosts-goes_on_anew
ghosts-goes_on_anew g a = record {
  cells = λ input. get_or a.parts.cells input [];
  inputs = length a.parts.cells;
  outputs = a.parts.outputs;
}
