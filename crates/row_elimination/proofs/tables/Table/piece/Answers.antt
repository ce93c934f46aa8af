use Rattle.std.proofs.Common.{◌≡◌, ◌<◌, take, get_or, length, sym, ap, subst, ◌∙◌, arith}
use Rattle.row_elimination.specs.declared.columns.Column.TheVariants.{Free, Piece, Row}
use Rattle.row_elimination.specs.HeldPlaces.{piece, is_piece}
use Rattle.row_arena.specs.Stretch.{stretch}
use Rattle.row_elimination.specs.HeldStorage.{place_in}
use Rattle.row_elimination.specs.HeldTable.{Grid}
use Rattle.row_elimination.proofs.Gridding.{column_read, piece_room, place_read}
use Rattle.row_elimination.proofs.tables.Table.piece.Goals as goal

pub returns-in-Free-clause-value : goal.returns-in-Free-clause-value
unfolding place_in is_piece
returns-in-Free-clause-value g c = ap is_piece (
    place_read c.self.inside.nb_frag c.self.inside.frag_size c.self.inside.rows c.self.inside.count c.self.inside.gained (record { area = c.self.inside.room; pieces = c.self.inside.most }) c.args.k c.self.inside.columns.items c.self.inside.spare.items
    c.self.inside.known.items c.self.inside.area.items c.self.inside.arena.value c.args.self.now c.index.result.now Free c.self.invariant.grid c.self.view_is c.requires.inside c.index.ensures (sym c.in-Free.ensures.same))

pub returns-in-Piece-clause-value : goal.returns-in-Piece-clause-value
unfolding place_in
returns-in-Piece-clause-value g c =
    place_read c.self.inside.nb_frag c.self.inside.frag_size c.self.inside.rows c.self.inside.count c.self.inside.gained (record { area = c.self.inside.room; pieces = c.self.inside.most }) c.args.k c.self.inside.columns.items c.self.inside.spare.items
    c.self.inside.known.items c.self.inside.area.items c.self.inside.arena.value c.args.self.now c.index.result.now Piece c.self.invariant.grid c.self.view_is c.requires.inside c.index.ensures (sym c.in-Piece.ensures.same)
    ∙ sym (ap piece (c.stretch.ensures.value ∙ ap (stretch c.args.k c.self.inside.frag_size) c.deref.ensures.value))

pub returns-in-Row-clause-value : goal.returns-in-Row-clause-value
unfolding place_in is_piece
returns-in-Row-clause-value g c = ap is_piece (
    place_read c.self.inside.nb_frag c.self.inside.frag_size c.self.inside.rows c.self.inside.count c.self.inside.gained (record { area = c.self.inside.room; pieces = c.self.inside.most }) c.args.k c.self.inside.columns.items c.self.inside.spare.items
    c.self.inside.known.items c.self.inside.area.items c.self.inside.arena.value c.args.self.now c.index.result.now (Row c.in-Row.field-0) c.self.invariant.grid c.self.view_is c.requires.inside c.index.ensures (sym c.in-Row.ensures.same))

pub stretch-requires : goal.stretch-requires
stretch-requires g c =
    let s = c.self.inside in
    let i = c.self.invariant.grid in
    let inside : c.args.k < s.nb_frag = subst (λ (x : Grid). c.args.k < x.shape.nb_frag) (sym c.self.view_is) c.requires.inside in
    let is : get_or (take s.nb_frag s.columns.items) c.args.k Free ≡ Piece =
    column_read s.columns.items s.nb_frag c.args.k c.index.result.now inside (omega (arith, i.most, i.columns_sized)) c.index.ensures ∙ sym c.in-Piece.ensures.same in
    omega (
      arith,
      ap length c.deref.ensures.value,
      piece_room s.nb_frag s.frag_size s.rows s.count s.gained c.args.k s.columns.items s.spare.items s.known.items s.area.items s.arena.value i is,
    )
