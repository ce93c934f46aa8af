use Rattle.std.proofs.Common.{◌<◌, ℕ, ap, arith}
use Rattle.row_arena.specs.Rows.{line_in}
use Rattle.row_elimination.specs.HeldPlaces.{grown}
use Rattle.row_elimination.specs.HeldTable.{Grid}
use Rattle.row_elimination.proofs.Growing.{grown_reduced}
use Rattle.row_elimination.proofs.Saying.{is_new_row}
use Rattle.row_elimination.proofs.Answering.{takes_coded_row, reduced_in, room_grown, decided, decided_room, decided_held}
use Rattle.row_elimination.proofs.taking.take_row.Goals as goal

pub push-requires : goal.push-requires
push-requires g c =
    let t = c.args.table.now in (
      omega arith,
      record {
        words = c.requires.new.words;
        sized = c.requires.new.ready.left.piece.sized;
        new = is_new_row t.shape.nb_frag t.shape.frag_size t.places _ c.args.part.now c.args.p (line_in c.args.line.now) c.args.rest.now c.requires.new.ready.held c.requires.new.ready.left c.requires.new.inside c.requires.new.has;
        room = c.requires.spare;
      },
    )

pub decide-requires : goal.decide-requires
decide-requires g c =
    let t = c.args.table.now in
    let l : ℕ = line_in c.args.line.now in
    let q = c.args.rest.now in
    let new = is_new_row t.shape.nb_frag t.shape.frag_size t.places _ c.args.part.now c.args.p l q c.requires.new.ready.held c.requires.new.ready.left c.requires.new.inside c.requires.new.has in (
      omega arith,
      reduced_in t c.push.new.self (grown c.args.p l q t.places) (room_grown t c.push.new.self (grown c.args.p l q t.places) c.push.ensures.grown) (ap (λ (x : Grid). x.places) c.push.ensures.grown)
          (grown_reduced t.shape.nb_frag t.shape.frag_size t.places c.args.p l q new),
    )

pub returns-clause-fed : goal.returns-clause-fed
returns-clause-fed g c =
    let t = c.args.table.now in
    let now = c.push.new.self in
    let l : ℕ = line_in c.args.line.now in
    let q = c.args.rest.now in
    let inside : c.args.p < t.shape.nb_frag = omega arith in
    let own = c.requires.new.has in
    let new = is_new_row t.shape.nb_frag t.shape.frag_size t.places _ c.args.part.now c.args.p l q c.requires.new.ready.held c.requires.new.ready.left inside own in
    let room = room_grown t now (grown c.args.p l q t.places) c.push.ensures.grown in
    let held = reduced_in t now (grown c.args.p l q t.places) room (ap (λ (x : Grid). x.places) c.push.ensures.grown) (grown_reduced t.shape.nb_frag t.shape.frag_size t.places c.args.p l q new) in
    record {
      fed = decided c.decide.result t now c.decide.new.table c.args.n c.args.part.now c.requires.new.ready.piece.sized c.requires.new.ready.held c.requires.new.ready.some
          (takes_coded_row t now c.args.n c.args.p l c.args.part.now q c.requires.new.ready c.requires.coded inside own c.requires.spare c.push.ensures.grown)
          held room c.decide.ensures;
      room = decided_room c.decide.result t now c.decide.new.table room c.decide.ensures;
      held = decided_held c.decide.result now c.decide.new.table held c.decide.ensures;
    }
