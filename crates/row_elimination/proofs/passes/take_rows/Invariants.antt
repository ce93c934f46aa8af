use Rattle.std.proofs.Common.{◌≡◌, ◌+◌, ◌≤◌, length, take}
use Rattle.row_arena.specs.Rows.{line_in}
use Rattle.row_elimination.proofs.Storing.{RowsTaken}
use Rattle.row_elimination.proofs.passes.take_rows.Given as goal

abbrev pub invariant-loop-n : goal.invariant-loop-n
invariant-loop-n g l = record {
  taken : RowsTaken (length l.initial.rest) l.arena l.columns (line_in l.initial.line) l.initial.rest (take l.n l.picks) (line_in l.line) l.rest;
  line_sized : length l.line ≡ length l.initial.line;
  rest_sized : length l.rest ≡ length l.initial.rest;
  counted : l.sums ≤ l.initial.sums + l.n;
}
