use Rattle.std.proofs.Common.{◌≡◌, ◌+◌, ◌*◌, ◌≤◌, ◌^◌, ℕ, List, false, bit_xor, length, get_or, take, set, sym, ap, subst, ◌∙◌, arith}
use Rattle.frag_model.specs.Fragments.{Shape}
use Rattle.row_arena.specs.Rows.{Arena, line_in, words_for}
use Rattle.row_elimination.specs.declared.columns.Column.{Column}
use Rattle.row_elimination.specs.HeldPlaces.{Place, free, piece, is_piece, grown}
use Rattle.row_elimination.specs.HeldStorage.{places_in, Slots, SameShape}
use Rattle.row_elimination.specs.HeldSteps.{IsNew, Knows}
use Rattle.row_elimination.specs.HeldTable.{Grid}
use Rattle.row_elimination.proofs.Gridding.{table_of, gained_few, stored_at, file_row, written, lead_free, learned_kind, learned}
use Rattle.row_elimination.proofs.tables.Table.learn_reached.Goals as goal

pub add_piece_and_row-requires : goal.add_piece_and_row-requires
add_piece_and_row-requires g c =
    let s = c.self.inside in
    let i = c.self.invariant.grid in
    let line = c.args.line.now in
    let part = c.args.part.now in
    let l : ℕ = line_in line in
    let shape : Shape = record { nb_frag = s.nb_frag; frag_size = s.frag_size; rows = s.rows } in
    let os : List Column = take s.nb_frag s.columns.items in
    let ps : List Place = places_in s.frag_size s.area.items s.arena.value os in
    let ln = c.requires.new.words ∙ ap (λ (x : Grid). words_for x.shape.nb_frag) (sym c.self.view_is) in
    let sz : length part ≡ s.frag_size = c.requires.new.sized ∙ ap (λ (x : Grid). x.shape.frag_size) (sym c.self.view_is) in
    let new : IsNew s.nb_frag s.frag_size ps c.args.p l part = subst (λ (x : Grid). IsNew x.shape.nb_frag x.shape.frag_size x.places c.args.p l part) (sym c.self.view_is) c.requires.new.new in
    let known_is : Knows shape (grown c.args.p l part ps) c.args.k c.args.piece.now =
    subst (λ (x : Grid). Knows x.shape (grown c.args.p l part x.places) c.args.k c.args.piece.now) (sym c.self.view_is) c.requires.new.known in
    let fresh : is_piece (get_or ps c.args.k free) ≡ false = subst (λ (x : Grid). is_piece (get_or x.places c.args.k free) ≡ false) (sym c.self.view_is) c.requires.new.fresh in
    let cols = ap (λ (a : Arena). a.cols) c.deref_mut-3.ensures.value in (
      omega (arith, c.self.invariant.words_few, c.self.invariant.bytes_few),
      record {
        columns = omega (arith, i.arena_cols, cols, ap length c.deref_mut.ensures.value, i.most, i.columns_sized);
        inside = omega (arith, new.inside, i.arena_cols, cols);
        piece_inside = omega (arith, known_is.inside, i.arena_cols, cols);
        sized = known_is.piece.sized ∙ sym sz;
        room = rw (sz, c.deref_mut-2.ensures.value)
            (subst (λ (x : Grid). c.args.k * x.shape.frag_size + x.shape.frag_size ≤ length x.area) (sym c.self.view_is) c.requires.reached);
        stored = rw (c.deref_mut.ensures.value, c.deref_mut-3.ensures.value)
            (stored_at s.nb_frag s.frag_size s.arena.value.cols (length part) s.rows s.count s.gained s.columns.items s.spare.items s.known.items s.area.items s.arena.value i i.arena_cols sz);
        new = rw (c.deref_mut-3.ensures.value)
            (file_row s.nb_frag s.frag_size s.rows s.count s.gained s.columns.items s.spare.items s.known.items s.area.items s.arena.value line part i ln new.within sz);
        kind = rw (c.deref_mut.ensures.value, c.deref_mut-3.ensures.value, i.arena_cols)
            (learned_kind shape s.area.items s.arena.value os c.args.k c.args.p l part c.args.piece.now new known_is fresh);
        lead = rw (c.deref_mut.ensures.value, c.deref_mut-3.ensures.value, i.arena_cols) (lead_free s.nb_frag s.frag_size s.area.items s.arena.value os c.args.p l part new);
      },
    )

pub mark-requires-clause-words : goal.mark-requires-clause-words
mark-requires-clause-words g c =
    omega (arith, ap length c.deref_mut-4.ensures.value, c.self.invariant.grid.known_sized)

pub overflow_add-self : goal.overflow_add-self
overflow_add-self g c =
    omega (arith, gained_few _ _ _ _ _ _ _ _ _ _ c.self.invariant.grid, c.self.invariant.grid.most)

pub invariant_of-self : goal.invariant_of-self
invariant_of-self g c =
    let s = c.self.inside in
    let i = c.self.invariant.grid in
    let nb : ℕ = s.nb_frag in
    let size : ℕ = s.frag_size in
    let columns : List Column = s.columns.items in
    let area : List ℕ = s.area.items in
    let arena : Arena = s.arena.value in
    let ps : List Place = places_in size area arena (take nb columns) in
    let shape : Shape = record { nb_frag = nb; frag_size = size; rows = s.rows } in
    let part = c.args.part.now in
    let l : ℕ = line_in c.args.line.now in
    let now = c.add_piece_and_row.new in
    let cols : ℕ = c.deref_mut-3.result.now.cols in
    let cn : cols ≡ nb = ap (λ (a : Arena). a.cols) c.deref_mut-3.ensures.value ∙ i.arena_cols in
    let sz : length part ≡ size = c.requires.new.sized ∙ ap (λ (x : Grid). x.shape.frag_size) (sym c.self.view_is) in
    let new : IsNew nb size ps c.args.p l part = subst (λ (x : Grid). IsNew x.shape.nb_frag x.shape.frag_size x.places c.args.p l part) (sym c.self.view_is) c.requires.new.new in
    let known_is : Knows shape (grown c.args.p l part ps) c.args.k c.args.piece.now =
    subst (λ (x : Grid). Knows x.shape (grown c.args.p l part x.places) c.args.k c.args.piece.now) (sym c.self.view_is) c.requires.new.known in
    let fresh : is_piece (get_or ps c.args.k free) ≡ false = subst (λ (x : Grid). is_piece (get_or x.places c.args.k free) ≡ false) (sym c.self.view_is) c.requires.new.fresh in
    let slots : Slots (take cols columns) s.spare.items s.rows s.count → Slots (take cols now.columns) s.spare.items s.rows s.count =
    subst (λ (os : List Column). Slots (take cols os) s.spare.items s.rows s.count → Slots (take cols now.columns) s.spare.items s.rows s.count) c.deref_mut.ensures.value
    (c.add_piece_and_row.ensures.slots s.spare.items s.rows s.count) in
    let P : List ℕ → Arena → List Column → Type 0 = λ r a os. places_in (length part) now.area now.arena (take cols now.columns)
    ≡ set (grown c.args.p l part (places_in (length part) r a (take cols os))) c.args.k (piece c.args.piece.now) in
    let told : P area arena columns =
    subst (λ (os : List Column). P area arena os) c.deref_mut.ensures.value
    (subst (λ (a : Arena). P area a c.deref_mut.result.now) c.deref_mut-3.ensures.value
    (subst (λ (r : List ℕ). P r c.deref_mut-3.result.now c.deref_mut.result.now) c.deref_mut-2.ensures.value c.add_piece_and_row.ensures.places)) in
    let same : SameShape arena now.arena = subst (λ (a : Arena). SameShape a now.arena) c.deref_mut-3.ensures.value c.add_piece_and_row.ensures.shape in
    let marked : line_in (take (words_for nb) c.mark.new.known) ≡ bit_xor (line_in (take (words_for nb) s.known.items)) (2 ^ c.args.k) =
    subst (λ (x : List ℕ). line_in (take (words_for nb) c.mark.new.known) ≡ bit_xor (line_in (take (words_for nb) x)) (2 ^ c.args.k)) c.deref_mut-4.ensures.value c.mark.ensures in
    rw (
      written s.columns.len now.columns columns (c.add_piece_and_row.auto.columns ∙ c.deref_mut.ensures.len),
      written s.area.len now.area area (c.add_piece_and_row.auto.area ∙ c.deref_mut-2.ensures.len),
      written s.known.len c.mark.new.known s.known.items (c.mark.auto.known ∙ c.deref_mut-4.ensures.len),
    )
    (table_of c.self.invariant (c.add_piece_and_row.auto.area ∙ ap length c.deref_mut-2.ensures.value)
    (learned nb size s.rows s.count s.gained cols (length part) c.args.k c.args.p columns now.columns s.spare.items s.known.items c.mark.new.known area now.area arena now.arena l part c.args.piece.now
    i cn sz new known_is fresh (c.add_piece_and_row.auto.columns ∙ ap length c.deref_mut.ensures.value) (c.mark.auto.known ∙ ap length c.deref_mut-4.ensures.value)
    same slots told marked))
