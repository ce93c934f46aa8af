use Rattle.std.proofs.Common.{◌<◌, ◌+◌, ◌*◌, ◌≤◌, ap, ap₂, sym, ◌∙◌, arith, length}
use Rattle.row_arena.specs.Rows.{words_for, line_in}
use Rattle.row_arena.specs.Stretch.{stretch}
use Rattle.row_arena.specs.ArenaInside.{row_in}
use Rattle.row_arena.proofs.Arenas.{row_seen, rows_counted, in_room}
use Rattle.row_arena.proofs.arena.RowArena.words.Goals as goal

pub words_at-requires : goal.words_at-requires
words_at-requires g c =
    let s = c.self.inside in
    let lt : c.args.r < s.rows = omega (arith, rows_counted c.args.self.now s.rows s.cols s.cell s.words.items s.bytes.items c.self.view_is) in
    let room : c.args.r * words_for s.cols + words_for s.cols ≤ length s.words.items = in_room s.rows c.args.r (words_for s.cols) s.words.items c.self.invariant.words_sized lt in
    rw (c.words_for-width.ensures.value, c.deref.ensures.0) room

pub returns-clause-line : goal.returns-clause-line
unfolding row_in
returns-clause-line g c =
    let s = c.self.inside in
    let lt : c.args.r < s.rows = omega (arith, rows_counted c.args.self.now s.rows s.cols s.cell s.words.items s.bytes.items c.self.view_is) in
    ap line_in (c.words_at.ensures.value ∙ ap₂ (λ w l. stretch c.args.r w l) c.words_for-width.ensures.value c.deref.ensures.0)
    ∙ sym (ap (λ row. row.line) (row_seen c.args.self.now s.rows s.cols s.cell s.words.items s.bytes.items c.args.r c.self.view_is lt))

pub returns-clause-len : goal.returns-clause-len
returns-clause-len g c = c.words_at.ensures.len ∙ c.words_for-width.ensures.value ∙ ap (λ a. words_for a.cols) c.self.view_is

pub returns-clause-within : goal.returns-clause-within
returns-clause-within g c =
    let s = c.self.inside in
    let lt : c.args.r < s.rows = omega (arith, rows_counted c.args.self.now s.rows s.cols s.cell s.words.items s.bytes.items c.self.view_is) in
    rw (c.words_at.ensures.value, c.words_for-width.ensures.value, c.deref.ensures.0, ← c.self.view_is) (c.self.invariant.within c.args.r lt)
