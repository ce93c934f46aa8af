use Rattle.std.proofs.Common.{◌+◌, refl, arith}
use Rattle.row_arena.specs.Rows.{line_in}
use Rattle.row_elimination.proofs.Storing.{clearing_begins, clearing_turn, clearing_ends}
use Rattle.row_elimination.proofs.passes.clear.Goals as goal

pub loop-s-init : goal.loop-s-init
loop-s-init g c = record {
  clearing = clearing_begins c.args.p (line_in c.args.line.now) c.args.part.now c.args.arena.now;
  counted = omega arith;
}

pub loop-s-preserved : goal.loop-s-preserved
loop-s-preserved g c = record {
  clearing = clearing_turn c.args.p (line_in c.args.line.now) c.args.part.now c.args.arena.now c.loop-s.arena c.clear_row.new.arena c.loop-s.s (c.loop-s.s + 1) refl
      c.clear_row.ensures.cleared c.loop-s.invariant.clearing;
  counted = omega (arith, c.clear_row.ensures.few, c.loop-s.invariant.counted);
}

pub returns-clause-cleared : goal.returns-clause-cleared
returns-clause-cleared g c =
    clearing_ends c.args.p (line_in c.args.line.now) c.args.part.now c.args.arena.now c.loop-s.arena c.loop-s.s (omega arith) c.loop-s.invariant.clearing

pub returns-clause-few : goal.returns-clause-few
returns-clause-few g c = omega (arith, c.loop-s.invariant.counted, c.loop-s-test.false)
