use Rattle.std.proofs.Common.{[], get_or, length}
use Rattle.broker_tests.proofs.play.act_once.Given as goal

-- the names of the cells that were just made
abbrev pub ghosts-act_anew : goal.ghosts-act_anew
ghosts-act_anew g a = record {
  cells = λ input. get_or a.parts.cells input [];
  inputs = length a.parts.cells;
  outputs = a.parts.outputs;
}
