use Rattle.row_elimination.proofs.solver.Solver.feed.Given as goal

abbrev pub ghosts-take_uncounted-L-Ledger : goal.ghosts-take_uncounted-L-Ledger
ghosts-take_uncounted-L-Ledger g a = record { name = a.no_draws.name; parts = a.no_draws.parts }

abbrev pub ghosts-take_uncounted-M-Ledger : goal.ghosts-take_uncounted-M-Ledger
ghosts-take_uncounted-M-Ledger g a = record { name = a.no_sums.name; parts = a.no_sums.parts }
