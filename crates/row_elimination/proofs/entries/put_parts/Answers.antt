use Rattle.std.proofs.Common.{◌≡◌, ◌∙◌, length, refl, sym, subst, arith}
use Rattle.row_elimination.specs.declared.columns.Column.{Column}
use Rattle.row_arena.specs.Stretch.{stretch}
use Rattle.row_elimination.specs.HeldStorage.{part_in}
use Rattle.row_arena.proofs.Stretched.{before}
use Rattle.row_elimination.proofs.Packing.{read_there}
use Rattle.row_elimination.proofs.Placing.{putting_turn, putting_ends}
use Rattle.row_elimination.proofs.entries.put_parts.Goals as goal

pub loop-c-init : goal.loop-c-init
loop-c-init g c = record { putting = record { done = λ d lt. absurd (omega arith); left = λ d le. refl }; sized = refl }

pub loop-c-preserved : goal.loop-c-preserved
loop-c-preserved g c = record {
  putting = putting_turn c.args.arena.now.cell c.args.columns.now c.args.area.now c.loop-c.area c.put_part.new.area c.args.arena.now c.loop-c.c
      (subst (λ (o : Column). stretch c.loop-c.c c.args.arena.now.cell c.put_part.new.area ≡ part_in c.args.arena.now.cell c.loop-c.area c.args.arena.now c.loop-c.c o) (c.column.ensures.same ∙ read_there c.args.columns.now c.loop-c.c c.index-columns-c.result (omega (arith, c.loop-c-test.true)) c.index-columns-c.is) c.put_part.ensures.here) c.put_part.ensures.others c.loop-c.invariant.putting;
  sized = c.put_part.auto.area ∙ c.loop-c.invariant.sized;
}

pub returns : goal.returns
returns g c = putting_ends c.args.arena.now.cell c.args.columns.now c.args.area.now c.loop-c.area c.args.arena.now c.loop-c.c c.loop-c-test.false c.loop-c.invariant.putting

pub put_part-requires : goal.put_part-requires
put_part-requires g c =
    let there = c.column.ensures.same ∙ read_there c.args.columns.now c.loop-c.c c.index-columns-c.result (omega (arith, c.loop-c-test.true)) c.index-columns-c.is in (
      omega arith,
      (
        omega (arith, before c.loop-c.c (length c.args.columns.now) c.args.arena.now.cell (omega (arith, c.loop-c-test.true)), c.requires.room, c.loop-c.invariant.sized),
        λ slot e. c.requires.rows c.loop-c.c slot (sym there ∙ e),
      ),
    )
