use Rattle.std.proofs.Common.{[], ◌∷◌, get_or}
use Rattle.broker_tests.proofs.heads.a_clash_comes_before_closed_before_full.Given as goal

-- the names of the cells that were just made
abbrev pub ghosts-refuse_all : goal.ghosts-refuse_all
ghosts-refuse_all g a = record { cells = λ input. get_or (a.first ∷ a.second ∷ []) input []; inputs = 2; outputs = 0 }
