use Rattle.std.proofs.Common.{◌≡◌, ◌<◌, ◌^◌, ℕ, List, length, get_or, take, set, bit_xor, sym, ap, subst, ◌∙◌, arith}
use Rattle.frag_model.specs.Fragments.{IsPiece}
use Rattle.row_arena.specs.Rows.{line_in, words_for}
use Rattle.row_elimination.specs.declared.columns.Column.{Column}
use Rattle.row_elimination.specs.declared.columns.Column.TheVariants.{Piece}
use Rattle.row_elimination.specs.HeldPlaces.{Place, free, piece, rows_held}
use Rattle.row_elimination.specs.HeldStorage.{places_in}
use Rattle.row_elimination.specs.HeldTable.{Grid}
use Rattle.row_elimination.proofs.Gridding.{table_of, gained_few, written, put_in}
use Rattle.row_elimination.proofs.tables.Table.put_reached.Goals as goal

pub mark-requires-clause-words : goal.mark-requires-clause-words
mark-requires-clause-words g c =
    omega (arith, ap length c.deref_mut-3.ensures.value, c.self.invariant.grid.known_sized)

pub overflow_add-self : goal.overflow_add-self
overflow_add-self g c =
    omega (arith, gained_few _ _ _ _ _ _ _ _ _ _ c.self.invariant.grid, c.self.invariant.grid.most)

pub invariant_of-self : goal.invariant_of-self
invariant_of-self g c =
    let nb : ℕ = c.self.inside.nb_frag in
    let size : ℕ = c.self.inside.frag_size in
    let columns : List Column = c.self.inside.columns.items in
    let known : List ℕ = c.self.inside.known.items in
    let area : List ℕ = c.self.inside.area.items in
    let arena = c.self.inside.arena.value in
    let os : List Column = take nb columns in
    let ps : List Place = places_in size area arena os in
    let part = c.args.piece.now in
    let lt : c.args.k < nb = subst (λ (g : Grid). c.args.k < g.shape.nb_frag) (sym c.self.view_is) c.requires.inside in
    let sized : IsPiece size part = subst (λ (g : Grid). IsPiece g.shape.frag_size part) (sym c.self.view_is) c.requires.piece in
    let fresh : get_or ps c.args.k free ≡ free = subst (λ (g : Grid). get_or g.places c.args.k free ≡ free) (sym c.self.view_is) c.requires.fresh in
    let none : rows_held ps ≡ 0 = subst (λ (g : Grid). rows_held g.places ≡ 0) (sym c.self.view_is) c.requires.none in
    let cols : take nb c.add_piece.new.columns ≡ set os c.args.k Piece =
    subst (λ (l : List Column). take nb c.add_piece.new.columns ≡ set (take nb l) c.args.k Piece) c.deref_mut.ensures.value c.add_piece.ensures.columns in
    let told : places_in (length part) c.add_piece.new.area arena (take nb c.add_piece.new.columns) ≡ set (places_in (length part) area arena os) c.args.k (piece part) =
    rw (← c.deref_mut.ensures.value, ← c.deref_mut-2.ensures.value) (c.add_piece.ensures.places arena) in
    let told_here : places_in size c.add_piece.new.area arena (take nb c.add_piece.new.columns) ≡ set ps c.args.k (piece part) =
    subst (λ n. places_in n c.add_piece.new.area arena (take nb c.add_piece.new.columns) ≡ set (places_in n area arena os) c.args.k (piece part)) sized.sized told in
    let marked : line_in (take (words_for nb) c.mark.new.known) ≡ bit_xor (line_in (take (words_for nb) known)) (2 ^ c.args.k) =
    subst (λ (l : List ℕ). line_in (take (words_for nb) c.mark.new.known) ≡ bit_xor (line_in (take (words_for nb) l)) (2 ^ c.args.k)) c.deref_mut-3.ensures.value c.mark.ensures in
    rw (
      written c.self.inside.columns.len c.add_piece.new.columns columns (c.add_piece.auto.columns ∙ c.deref_mut.ensures.len),
      written c.self.inside.area.len c.add_piece.new.area area (c.add_piece.auto.area ∙ c.deref_mut-2.ensures.len),
      written c.self.inside.known.len c.mark.new.known known (c.mark.auto.known ∙ c.deref_mut-3.ensures.len),
    )
    (table_of c.self.invariant (c.add_piece.auto.area ∙ ap length c.deref_mut-2.ensures.value)
    (put_in nb size c.self.inside.rows c.self.inside.count c.self.inside.gained c.args.k columns c.add_piece.new.columns c.self.inside.spare.items known c.mark.new.known
    area c.add_piece.new.area arena part c.self.invariant.grid lt sized fresh none
    (c.add_piece.auto.columns ∙ ap length c.deref_mut.ensures.value) (c.mark.auto.known ∙ ap length c.deref_mut-3.ensures.value)
    cols told_here marked))
