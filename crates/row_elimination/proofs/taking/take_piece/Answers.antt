use Rattle.std.proofs.Common.{◌≡◌, ◌-◌, ◌<◌, ℕ, suc, set, arith}
use Rattle.row_arena.specs.Rows.{line_in}
use Rattle.row_elimination.specs.HeldPlaces.{piece, grown}
use Rattle.row_elimination.proofs.Saying.{is_new_row}
use Rattle.row_elimination.proofs.Settling.{settled_reduced}
use Rattle.row_elimination.proofs.Answering.{knows_grown, is_fresh, takes_new_piece, reduced_in, decided, decided_room, decided_held}
use Rattle.row_elimination.proofs.taking.take_piece.Goals as goal

pub learn-requires : goal.learn-requires
learn-requires g c =
    let t = c.args.table.now in
    let l : ℕ = line_in c.args.line.now in
    let is : c.args.n ≡ suc (c.args.n - 1) = omega (arith, c.requires.new.ready.first) in (
      omega arith,
      record {
        words = c.requires.new.words;
        sized = c.requires.new.ready.left.piece.sized;
        new = is_new_row t.shape.nb_frag t.shape.frag_size t.places _ c.args.part.now c.args.p l c.args.rest.now c.requires.new.ready.held c.requires.new.ready.left c.requires.new.inside c.requires.new.has;
        known = knows_grown t c.args.n (c.args.n - 1) c.args.p l c.args.part.now c.args.rest.now c.requires.new.ready is c.requires.uncoded c.requires.new.inside c.requires.new.has;
        fresh = is_fresh t c.args.n (c.args.n - 1) c.args.p l c.args.part.now c.args.rest.now c.requires.new.ready is c.requires.uncoded c.requires.new.has;
      },
    )

pub decide-requires : goal.decide-requires
decide-requires g c =
    let t = c.args.table.now in
    let l : ℕ = line_in c.args.line.now in
    let known = knows_grown t c.args.n (c.args.n - 1) c.args.p l c.args.part.now c.args.rest.now c.requires.new.ready (omega (arith, c.requires.new.ready.first)) c.requires.uncoded c.requires.new.inside c.requires.new.has in (
      omega arith,
      reduced_in t c.learn.new.self (set (grown c.args.p l c.args.rest.now t.places) (c.args.n - 1) (piece c.args.part.now)) c.learn.ensures.room c.learn.ensures.places
          (settled_reduced t.shape (grown c.args.p l c.args.rest.now t.places) (c.args.n - 1) c.args.part.now known),
    )

pub returns-clause-fed : goal.returns-clause-fed
returns-clause-fed g c =
    let t = c.args.table.now in
    let now = c.learn.new.self in
    let l : ℕ = line_in c.args.line.now in
    let q = c.args.rest.now in
    let part = c.args.part.now in
    let inside : c.args.p < t.shape.nb_frag = omega arith in
    let own = c.requires.new.has in
    let k : ℕ = c.args.n - 1 in
    let is : c.args.n ≡ suc k = omega (arith, c.requires.new.ready.first) in
    let known = knows_grown t c.args.n k c.args.p l part q c.requires.new.ready is c.requires.uncoded inside own in
    let held = reduced_in t now (set (grown c.args.p l q t.places) k (piece part)) c.learn.ensures.room c.learn.ensures.places (settled_reduced t.shape (grown c.args.p l q t.places) k part known) in
    record {
      fed = decided c.decide.result t now c.decide.new.table c.args.n part c.requires.new.ready.piece.sized c.requires.new.ready.held c.requires.new.ready.some
          (takes_new_piece t now c.args.n k c.args.p l part q c.requires.new.ready is c.requires.uncoded inside own c.learn.ensures.room c.learn.ensures.places)
          held c.learn.ensures.room c.decide.ensures;
      room = decided_room c.decide.result t now c.decide.new.table c.learn.ensures.room c.decide.ensures;
      held = decided_held c.decide.result now c.decide.new.table held c.decide.ensures;
    }
