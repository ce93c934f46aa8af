use Rattle.std.proofs.Common.{◌-◌, refl, subst, arith}
use Rattle.row_arena.specs.Rows.{line_in}
use Rattle.row_elimination.specs.HeldTaking.{IsReady}
use Rattle.row_elimination.proofs.Answering.{conflict_is, sum_is, known_piece_is, knows_sum}
use Rattle.row_elimination.proofs.taking.take_old.Goals as goal

pub returns-then-not-is_zero : goal.returns-then-not-is_zero
returns-then-not-is_zero g c =
    let some = c.is_zero.ensures.no c.if-not-is_zero.true in
    record {
      fed = conflict_is c.args.table.now c.args.n some.0 c.args.part.now c.args.rest.now (line_in c.args.line.now) c.requires.none c.requires.ready some.1;
      room = record { shape = refl; room = refl };
      held = c.requires.ready.held;
    }

pub settle-requires : goal.settle-requires
settle-requires g c = (
  omega arith,
  knows_sum c.args.table.now c.args.n (c.args.n - 1) c.args.part.now c.args.rest.now
      (subst (λ x. IsReady c.args.table.now c.args.n c.args.part.now x c.args.rest.now) c.requires.none c.requires.ready)
      (c.is_zero.ensures.yes c.if-not-is_zero.false) (omega (arith, c.requires.ready.first)) (omega arith),
)

pub returns-then-n-nb_frag : goal.returns-then-n-nb_frag
returns-then-n-nb_frag g c =
    let known =
    known_piece_is c.args.table.now c.settle.new.self c.args.n c.args.part.now c.args.rest.now (line_in c.args.line.now) c.requires.none c.requires.ready
    (c.is_zero.ensures.yes c.if-not-is_zero.false) (omega arith) c.settle.ensures.room c.settle.ensures.places in
    record { fed = known.0; room = c.settle.ensures.room; held = known.1 }

pub returns-else-n-nb_frag : goal.returns-else-n-nb_frag
returns-else-n-nb_frag g c = record {
  fed =
      sum_is c.args.table.now c.args.n c.args.part.now c.args.rest.now (line_in c.args.line.now) c.requires.none c.requires.ready
      (c.is_zero.ensures.yes c.if-not-is_zero.false) (omega arith);
  room = record { shape = refl; room = refl };
  held = c.requires.ready.held;
}
