use Rattle.std.proofs.Common.{◌≡◌, ◌+◌, ◌-◌, ◌*◌, ◌%◌, ◌^◌, ◌≤◌}
use Rattle.parity_lines.proofs.Ahead.{AreAhead}
use Rattle.parity_lines.proofs.Drawn.{InWords}
use Rattle.parity_lines.proofs.lines.line.Given as goal

abbrev pub invariant-loop-drawn : goal.invariant-loop-drawn
invariant-loop-drawn g l = record {
  drawing : InWords l.n l.cols (25 * l.half - l.drawn) l.x l.found l.drawn l.out;
  counted : l.steps ≡ l.initial.steps + l.drawn;
  few : l.found ≤ l.half;
  most : l.drawn ≤ 25 * l.half;
}

abbrev pub decreases-loop-drawn : goal.decreases-loop-drawn
decreases-loop-drawn g l = 25 * l.half - l.drawn

abbrev pub invariant-loop-turn : goal.invariant-loop-turn
invariant-loop-turn g l = record {
  drawing : InWords l.n l.cols (25 * l.half - l.turn) (l.states % 2 ^ 23) l.found l.turn l.out;
  ahead : AreAhead l.states (l.drawn + 18 - l.turn);
  counted : l.steps + l.drawn ≡ l.initial.steps + l.turn;
  few : l.found + (l.turn-end - l.turn) ≤ l.half;
}
