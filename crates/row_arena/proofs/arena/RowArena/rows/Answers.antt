use Rattle.std.proofs.Common.{sym}
use Rattle.row_arena.proofs.Arenas.{rows_counted}
use Rattle.row_arena.proofs.arena.RowArena.rows.Goals as goal

pub returns : goal.returns
returns g c =
    let s = c.self.inside in
    sym (rows_counted c.args.self.now s.rows s.cols s.cell s.words.items s.bytes.items c.self.view_is)
