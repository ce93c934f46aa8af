use Rattle.std.proofs.Common.{arith}
use Rattle.row_elimination.proofs.Answering.{decided_room, decided_held}
use Rattle.row_elimination.proofs.Repeating.{first_held, first_is}
use Rattle.row_elimination.proofs.taking.take_first.Goals as goal

pub decide-requires : goal.decide-requires
decide-requires g c = (
  omega arith,
  first_held c.args.table.now c.put.new.self c.args.n c.args.part.now c.requires.ready c.requires.uncoded c.requires.fresh c.requires.none c.put.ensures.room c.put.ensures.places,
)

pub returns : goal.returns
returns g c = record {
  fed =
      first_is c.decide.result c.args.table.now c.put.new.self c.decide.new.table c.args.n c.args.part.now c.requires.ready c.requires.uncoded c.requires.none c.put.ensures.room c.put.ensures.places
      (first_held c.args.table.now c.put.new.self c.args.n c.args.part.now c.requires.ready c.requires.uncoded c.requires.fresh c.requires.none c.put.ensures.room c.put.ensures.places)
      c.decide.ensures;
  room = decided_room c.decide.result c.args.table.now c.put.new.self c.decide.new.table c.put.ensures.room c.decide.ensures;
  held =
      decided_held c.decide.result c.put.new.self c.decide.new.table
      (first_held c.args.table.now c.put.new.self c.args.n c.args.part.now c.requires.ready c.requires.uncoded c.requires.fresh c.requires.none c.put.ensures.room c.put.ensures.places)
      c.decide.ensures;
}
