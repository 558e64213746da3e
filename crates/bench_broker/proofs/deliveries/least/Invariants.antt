use Rattle.bench_broker.proofs.deliveries.least.Given as goal

-- the names of the cells that were just made
abbrev pub ghosts-after : goal.ghosts-after
ghosts-after g a = record { cells = λ input. a.cells; inputs = 1; outputs = 1 }
