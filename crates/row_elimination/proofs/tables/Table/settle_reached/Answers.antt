use Rattle.std.proofs.Common.{◌≡◌, ◌-◌, ◌≤◌, ◌^◌, ℕ, List, bit_xor, length, get_or, take, set, refl, sym, ap, subst, ◌∙◌, arith}
use Rattle.frag_model.specs.Fragments.{Shape}
use Rattle.row_arena.specs.Rows.{line_in, words_for}
use Rattle.row_elimination.specs.declared.columns.Column.{Column}
use Rattle.row_elimination.specs.declared.columns.Column.TheVariants.{Free, Piece, Row}
use Rattle.row_elimination.specs.HeldPlaces.{Place, piece}
use Rattle.row_elimination.specs.HeldStorage.{places_in}
use Rattle.row_elimination.specs.HeldSteps.{Knows}
use Rattle.row_elimination.specs.HeldTable.{Grid}
use Rattle.row_elimination.proofs.Gridding.{table_of, written, column_read, leads_row, settled_count, settled, settled_already}
use Rattle.row_elimination.proofs.tables.Table.settle_reached.Goals as goal

pub overflow_sub-self : goal.overflow_sub-self
overflow_sub-self g c =
    leads_row _ _ _ _ _ c.args.k c.in-Row.slot _ _ _ _ _ c.args.piece.now _ c.self.invariant.grid
    (subst (λ (g : Grid). Knows g.shape g.places c.args.k c.args.piece.now) (sym c.self.view_is) c.requires.known) c.index.ensures c.in-Row.ensures.same

pub invariant_of-self : goal.invariant_of-self
invariant_of-self g c =
    let nb : ℕ = c.self.inside.nb_frag in
    let size : ℕ = c.self.inside.frag_size in
    let rows : ℕ = c.self.inside.rows in
    let count : ℕ = c.self.inside.count in
    let columns : List Column = c.self.inside.columns.items in
    let spare : List ℕ = c.self.inside.spare.items in
    let area : List ℕ = c.self.inside.area.items in
    let arena = c.self.inside.arena.value in
    let marks : List ℕ = c.self.inside.known.items in
    let os : List Column = take nb columns in
    let ps : List Place = places_in size area arena os in
    let shape : Shape = record { nb_frag = nb; frag_size = size; rows = rows } in
    let part = c.args.piece.now in
    let known : Knows shape ps c.args.k part = subst (λ (g : Grid). Knows g.shape g.places c.args.k part) (sym c.self.view_is) c.requires.known in
    let at : get_or os c.args.k Free ≡ c.index.result.now =
    column_read columns nb c.args.k c.index.result.now known.inside (omega (arith, c.self.invariant.grid.most, c.self.invariant.grid.columns_sized)) c.index.ensures in
    let is : get_or os c.args.k Free ≡ Row c.in-Row.slot = at ∙ sym c.in-Row.ensures.same in
    let some : 1 ≤ count = omega (arith, c.self.invariant.grid.counted, settled_count shape area arena os c.args.k c.in-Row.slot part known is) in
    let cols : take nb c.add_piece.new.columns ≡ set os c.args.k Piece =
    subst (λ (l : List Column). take nb c.add_piece.new.columns ≡ set (take nb l) c.args.k Piece) c.deref_mut.ensures.value c.add_piece.ensures.columns in
    let told : places_in (length part) c.add_piece.new.area arena (take nb c.add_piece.new.columns) ≡ set (places_in (length part) area arena os) c.args.k (piece part) =
    rw (← c.deref_mut.ensures.value, ← c.deref_mut-in-Row.ensures.value) (c.add_piece.ensures.places arena) in
    let told_here : places_in size c.add_piece.new.area arena (take nb c.add_piece.new.columns) ≡ set ps c.args.k (piece part) =
    subst (λ n. places_in n c.add_piece.new.area arena (take nb c.add_piece.new.columns) ≡ set (places_in n area arena os) c.args.k (piece part)) known.piece.sized told in
    let marked : line_in (take (words_for nb) c.mark.new.known) ≡ bit_xor (line_in (take (words_for nb) marks)) (2 ^ c.args.k) =
    subst (λ (l : List ℕ). line_in (take (words_for nb) c.mark.new.known) ≡ bit_xor (line_in (take (words_for nb) l)) (2 ^ c.args.k)) c.deref_mut-in-Row-2.ensures.value c.mark.ensures in
    rw (
      written c.self.inside.columns.len c.add_piece.new.columns columns (c.add_piece.auto.columns ∙ c.deref_mut.ensures.len),
      written c.self.inside.area.len c.add_piece.new.area area (c.add_piece.auto.area ∙ c.deref_mut-in-Row.ensures.len),
      written c.self.inside.known.len c.mark.new.known marks (c.mark.auto.known ∙ c.deref_mut-in-Row-2.ensures.len),
    )
    (table_of c.self.invariant (c.add_piece.auto.area ∙ ap length c.deref_mut-in-Row.ensures.value)
    (settled nb size rows count (count - 1) c.self.inside.gained c.args.k c.in-Row.slot columns c.add_piece.new.columns spare marks c.mark.new.known area c.add_piece.new.area arena part
    c.self.invariant.grid known is (omega arith)
    (c.add_piece.auto.columns ∙ ap length c.deref_mut.ensures.value) (c.mark.auto.known ∙ ap length c.deref_mut-in-Row-2.ensures.value)
    cols told_here marked))

pub mark-requires-clause-words : goal.mark-requires-clause-words
mark-requires-clause-words g c =
    omega (arith, ap length c.deref_mut-in-Row-2.ensures.value, c.self.invariant.grid.known_sized)

pub returns-in_default : goal.returns-in_default
returns-in_default g c =
    let nb : ℕ = c.self.inside.nb_frag in
    let shape : Shape = record { nb_frag = nb; frag_size = c.self.inside.frag_size; rows = c.self.inside.rows } in
    let columns : List Column = c.self.inside.columns.items in
    let os : List Column = take nb columns in
    let ps : List Place = places_in c.self.inside.frag_size c.self.inside.area.items c.self.inside.arena.value os in
    let known : Knows shape ps c.args.k c.args.piece.now = subst (λ (g : Grid). Knows g.shape g.places c.args.k c.args.piece.now) (sym c.self.view_is) c.requires.known in
    let at : get_or os c.args.k Free ≡ c.index.result.now =
    column_read columns nb c.args.k c.index.result.now known.inside (omega (arith, c.self.invariant.grid.most, c.self.invariant.grid.columns_sized)) c.index.ensures in
    record {
      places = subst (λ (g : Grid). g.places ≡ set g.places c.args.k (piece c.args.piece.now)) c.self.view_is
          (settled_already shape c.self.inside.area.items c.self.inside.arena.value os c.args.k c.args.piece.now known (λ slot e. c.in_default.not-Row slot (c.column.ensures.same ∙ sym at ∙ e)));
      room = record { shape = refl; room = refl };
    }

pub index_mut-requires : goal.index_mut-requires
index_mut-requires g c =
    let some = leads_row _ _ _ _ _ c.args.k c.in-Row.slot _ _ _ _ _ c.args.piece.now _ c.self.invariant.grid
    (subst (λ (g : Grid). Knows g.shape g.places c.args.k c.args.piece.now) (sym c.self.view_is) c.requires.known) c.index.ensures c.in-Row.ensures.same in
    omega (arith, some, c.self.invariant.grid.counted, c.self.invariant.grid.slots.few, c.self.invariant.grid.spare_sized)
