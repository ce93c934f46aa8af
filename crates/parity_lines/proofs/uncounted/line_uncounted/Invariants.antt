use Rattle.parity_lines.proofs.uncounted.line_uncounted.Given as goal

abbrev pub ghosts-line_over : goal.ghosts-line_over
ghosts-line_over a = record { name = a.blank.name; parts = a.blank.parts }
