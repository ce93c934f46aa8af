use Rattle.std.proofs.Common.{refl}
use Rattle.std.specs.Cmp.{unsigned_Decides}
use Rattle.std.proofs.lemmas.Bool.Decides.{not_from_Decides}
use Rattle.std.proofs.lemmas.Slice.Eq.{slice_eq-Decides}
use Rattle.row_elimination.proofs.Repeating.{again_is, other_is}
use Rattle.row_elimination.proofs.taking.take_again.Goals as goal

pub returns-then-eq : goal.returns-then-eq
returns-then-eq g c = record {
  fed =
      again_is c.args.table.now c.args.n c.args.part.now c.args.piece.now c.requires.ready c.requires.uncoded c.requires.held
      ((slice_eq-Decides unsigned_Decides c.args.piece.now c.args.part.now c.eq.result c.eq.ensures).0 c.if-eq.true);
  room = record { shape = refl; room = refl };
  held = c.requires.ready.held;
}

pub returns-else-eq : goal.returns-else-eq
returns-else-eq g c = record {
  fed =
      other_is c.args.table.now c.args.n c.args.part.now c.args.piece.now c.requires.ready c.requires.held
      (not_from_Decides c.eq.result (slice_eq-Decides unsigned_Decides c.args.piece.now c.args.part.now c.eq.result c.eq.ensures) c.if-eq.false);
  room = record { shape = refl; room = refl };
  held = c.requires.ready.held;
}
