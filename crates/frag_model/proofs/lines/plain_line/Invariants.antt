use Rattle.std.proofs.Common.{◌-◌, ◌≤◌}
use Rattle.frag_model.proofs.Drawing.{Drawing}
use Rattle.frag_model.proofs.lines.plain_line.Given as goal

abbrev pub invariant-loop-turn : goal.invariant-loop-turn
invariant-loop-turn l = record { drawing : Drawing l.n l.cols (l.turn-end - l.turn) l.x l.found l.draws l.out; few : l.draws ≤ l.turn }
