use Rattle.broker_tests.proofs.log_stage.act_once.Given as goal

-- the names of the cells that were just made
abbrev pub ghosts-act_anew : goal.ghosts-act_anew
ghosts-act_anew g a = record { cells = λ input. a.cells; inputs = 1; outputs = 2 }
