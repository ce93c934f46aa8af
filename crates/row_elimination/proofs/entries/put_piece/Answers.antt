use Rattle.std.proofs.Common.{length}
use Rattle.row_elimination.proofs.Placing.{piece_put}
use Rattle.row_elimination.proofs.entries.put_piece.Goals as goal

pub returns-clause-places : goal.returns-clause-places
returns-clause-places c = λ arena.
    rw c.new.ensures (piece_put (length c.args.part.now) c.args.area.now c.put_at.new.into arena c.args.columns.now c.args.k c.args.part.now c.requires.inside
    c.put_at.ensures.there c.put_at.ensures.others)
