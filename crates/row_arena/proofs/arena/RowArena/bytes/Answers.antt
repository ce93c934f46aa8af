use Rattle.std.proofs.Common.{◌<◌, ◌+◌, ◌*◌, ◌≤◌, ap, sym, ◌∙◌, arith, length}
use Rattle.row_arena.specs.Stretch.{stretch}
use Rattle.row_arena.specs.ArenaInside.{row_in}
use Rattle.row_arena.proofs.Arenas.{row_seen, rows_counted, in_room}
use Rattle.row_arena.proofs.arena.RowArena.bytes.Goals as goal

pub bytes_at-requires : goal.bytes_at-requires
bytes_at-requires g c =
    let s = c.self.inside in
    let lt : c.args.r < s.rows = omega (arith, rows_counted c.args.self.now s.rows s.cols s.cell s.words.items s.bytes.items c.self.view_is) in
    let room : c.args.r * s.cell + s.cell ≤ length s.bytes.items = in_room s.rows c.args.r s.cell s.bytes.items c.self.invariant.bytes_sized lt in
    rw c.deref.ensures.0 room

pub returns-clause-part : goal.returns-clause-part
unfolding row_in
returns-clause-part g c =
    let s = c.self.inside in
    let lt : c.args.r < s.rows = omega (arith, rows_counted c.args.self.now s.rows s.cols s.cell s.words.items s.bytes.items c.self.view_is) in
    c.bytes_at.ensures.value ∙ ap (λ l. stretch c.args.r s.cell l) c.deref.ensures.0
    ∙ sym (ap (λ row. row.part) (row_seen c.args.self.now s.rows s.cols s.cell s.words.items s.bytes.items c.args.r c.self.view_is lt))
