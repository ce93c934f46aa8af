use Rattle.frag_encoder.proofs.encoder.Encoder.fragment.Given as goal

abbrev pub ghosts-fragment_over-L-Ledger : goal.ghosts-fragment_over-L-Ledger
ghosts-fragment_over-L-Ledger a = record { name = a.no_draws.name; parts = a.no_draws.parts }

abbrev pub ghosts-fragment_over-M-Ledger : goal.ghosts-fragment_over-M-Ledger
ghosts-fragment_over-M-Ledger a = record { name = a.no_sums.name; parts = a.no_sums.parts }
