use Rattle.std.proofs.Common.{◌≡◌, length}
use Rattle.row_elimination.proofs.Placing.{Putting}
use Rattle.row_elimination.proofs.entries.put_parts.Given as goal

abbrev pub invariant-loop-c : goal.invariant-loop-c
invariant-loop-c g l = record {
  putting : Putting l.arena.cell l.columns l.initial.area l.area l.arena l.c;
  sized : length l.area ≡ length l.initial.area;
}
