use Rattle.std.proofs.Common.{◌∙◌, refl, sym, arith, eqb-true}
use Rattle.row_arena.specs.Rows.{line_in}
use Rattle.row_elimination.specs.HeldPlaces.{rows_held}
use Rattle.row_elimination.proofs.Answering.{no_rows_is}
use Rattle.row_elimination.proofs.taking.take_new.Goals as goal

pub returns-then-is_full-clause-fed : goal.returns-then-is_full-clause-fed
returns-then-is_full-clause-fed g c = record {
  fed =
      no_rows_is c.args.table.now c.args.n c.args.p (line_in c.args.line.now) c.args.part.now c.args.rest.now c.requires.ready (omega arith) (omega arith)
      c.requires.has (eqb-true (rows_held c.args.table.now.places) c.args.table.now.shape.rows (sym c.is_full.ensures ∙ c.if-is_full.true));
  room = record { shape = refl; room = refl };
  held = c.requires.ready.held;
}
