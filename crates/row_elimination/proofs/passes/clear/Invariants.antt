use Rattle.std.proofs.Common.{◌+◌, ◌≤◌}
use Rattle.row_arena.specs.Rows.{line_in}
use Rattle.row_elimination.proofs.Storing.{Clearing}
use Rattle.row_elimination.proofs.passes.clear.Given as goal

abbrev pub invariant-loop-s : goal.invariant-loop-s
invariant-loop-s g l = record {
  clearing : Clearing l.p (line_in l.line) l.part l.initial.arena l.arena l.s;
  counted : l.sums ≤ l.initial.sums + l.s;
}
