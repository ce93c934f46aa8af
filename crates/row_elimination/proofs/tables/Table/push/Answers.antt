use Rattle.std.proofs.Common.{◌≡◌, ◌<◌, ℕ, List, length, get_or, take, set, refl, sym, ap, subst, ◌∙◌, arith}
use Rattle.std.proofs.lemmas.Grind.{get_or_default_zero}
use Rattle.row_arena.specs.Rows.{Arena, line_in, words_for}
use Rattle.row_elimination.specs.declared.columns.Column.{Column}
use Rattle.row_elimination.specs.declared.columns.Column.TheVariants.{Row}
use Rattle.row_elimination.specs.HeldPlaces.{Place, rows_held, grown}
use Rattle.row_elimination.specs.HeldStorage.{places_in, SameShape}
use Rattle.row_elimination.specs.HeldSteps.{IsNew}
use Rattle.row_elimination.specs.HeldTable.{Grid}
use Rattle.row_elimination.proofs.Gridding.{table_of, gained_few, stored_at, file_row, written, pushed}
use Rattle.row_elimination.proofs.tables.Table.push.Goals as goal

pub index-slot-requires : goal.index-slot-requires
index-slot-requires g c =
    let i = c.self.invariant.grid in
    omega (arith, i.counted, i.spare_sized, subst (λ (g : Grid). rows_held g.places < g.shape.rows) (sym c.self.view_is) c.requires.room)

pub add_row-requires : goal.add_row-requires
add_row-requires g c =
    let s = c.self.inside in
    let i = c.self.invariant.grid in
    let line = c.args.line.now in
    let part = c.args.part.now in
    let ln = c.requires.words ∙ ap (λ (g : Grid). words_for g.shape.nb_frag) (sym c.self.view_is) in
    let sz : length part ≡ s.frag_size = c.requires.sized ∙ ap (λ (g : Grid). g.shape.frag_size) (sym c.self.view_is) in
    let room = subst (λ (g : Grid). rows_held g.places < g.shape.rows) (sym c.self.view_is) c.requires.room in
    let more : s.count < s.rows = omega (arith, i.counted, room) in
    let new = subst (λ (g : Grid). IsNew g.shape.nb_frag g.shape.frag_size g.places c.args.p (line_in line) part) (sym c.self.view_is) c.requires.new in
    let slot : c.index-slot.result.now ≡ get_or s.spare.items s.count 0 =
    c.index-slot.ensures ∙ get_or_default_zero s.spare.items s.count c.index-slot.result.now (omega (arith, more, i.spare_sized)) in
    let cols = ap (λ (a : Arena). a.cols) c.deref_mut-2.ensures.value in (
      omega (arith, c.self.invariant.words_few, c.self.invariant.bytes_few),
      record {
        columns = omega (arith, i.arena_cols, cols, ap length c.deref_mut.ensures.value, i.most, i.columns_sized);
        inside = omega (arith, new.inside, i.arena_cols, cols);
        stored = rw (c.deref_mut.ensures.value, c.deref_mut-2.ensures.value)
            (stored_at s.nb_frag s.frag_size s.arena.value.cols (length part) s.rows s.count s.gained s.columns.items s.spare.items s.known.items s.area.items s.arena.value i i.arena_cols sz);
        new = rw (c.deref_mut-2.ensures.value)
            (file_row s.nb_frag s.frag_size s.rows s.count s.gained s.columns.items s.spare.items s.known.items s.area.items s.arena.value line part i ln new.within sz);
        slot = rw (c.deref_mut-2.ensures.value, i.arena_rows, slot) (i.slots.spare_within s.count (omega arith) more);
        fits = omega (arith, slot, i.slots.spare_within s.count (omega arith) more, i.few, i.most);
        alone = rw (c.deref_mut.ensures.value, c.deref_mut-2.ensures.value, i.arena_cols, slot) (λ d e. i.slots.spare_free s.count d (omega arith) more e);
      },
    )

pub overflow_add-self : goal.overflow_add-self
overflow_add-self g c =
    let i = c.self.invariant.grid in
    omega (arith, i.counted, i.few, i.most, subst (λ (g : Grid). rows_held g.places < g.shape.rows) (sym c.self.view_is) c.requires.room)

pub overflow_add-self-2 : goal.overflow_add-self-2
overflow_add-self-2 g c =
    omega (arith, gained_few _ _ _ _ _ _ _ _ _ _ c.self.invariant.grid, c.self.invariant.grid.most)

pub invariant_of-self : goal.invariant_of-self
invariant_of-self g c =
    let s = c.self.inside in
    let i = c.self.invariant.grid in
    let nb : ℕ = s.nb_frag in
    let size : ℕ = s.frag_size in
    let columns : List Column = s.columns.items in
    let area : List ℕ = s.area.items in
    let arena : Arena = s.arena.value in
    let ps : List Place = places_in size area arena (take nb columns) in
    let part = c.args.part.now in
    let l : ℕ = line_in c.args.line.now in
    let cols : ℕ = c.deref_mut-2.result.now.cols in
    let cn : cols ≡ nb = ap (λ (a : Arena). a.cols) c.deref_mut-2.ensures.value ∙ i.arena_cols in
    let sz : length part ≡ size = c.requires.sized ∙ ap (λ (g : Grid). g.shape.frag_size) (sym c.self.view_is) in
    let room : rows_held ps < s.rows = subst (λ (g : Grid). rows_held g.places < g.shape.rows) (sym c.self.view_is) c.requires.room in
    let more : s.count < s.rows = omega (arith, i.counted, room) in
    let slot : c.index-slot.result.now ≡ get_or s.spare.items s.count 0 =
    c.index-slot.ensures ∙ get_or_default_zero s.spare.items s.count c.index-slot.result.now (omega (arith, more, i.spare_sized)) in
    let new : IsNew nb size ps c.args.p l part = subst (λ (g : Grid). IsNew g.shape.nb_frag g.shape.frag_size g.places c.args.p l part) (sym c.self.view_is) c.requires.new in
    let os : take cols c.add_row.new.columns ≡ set (take cols columns) c.args.p (Row c.index-slot.result.now) =
    subst (λ (l : List Column). take cols c.add_row.new.columns ≡ set (take cols l) c.args.p (Row c.index-slot.result.now)) c.deref_mut.ensures.value c.add_row.ensures.columns in
    let told : places_in (length part) area c.add_row.new.arena (take cols c.add_row.new.columns) ≡ grown c.args.p l part (places_in (length part) area arena (take cols columns)) =
    subst (λ (a : Arena). places_in (length part) area c.add_row.new.arena (take cols c.add_row.new.columns) ≡ grown c.args.p l part (places_in (length part) area a (take cols columns)))
    c.deref_mut-2.ensures.value
    (subst (λ (l' : List Column). places_in (length part) area c.add_row.new.arena (take cols c.add_row.new.columns) ≡ grown c.args.p l part (places_in (length part) area c.deref_mut-2.result.now (take cols l')))
    c.deref_mut.ensures.value (c.add_row.ensures.places area)) in
    let shape : SameShape arena c.add_row.new.arena = subst (λ (a : Arena). SameShape a c.add_row.new.arena) c.deref_mut-2.ensures.value c.add_row.ensures.shape in
    rw (written s.columns.len c.add_row.new.columns columns (c.add_row.auto.columns ∙ c.deref_mut.ensures.len))
    (table_of c.self.invariant refl
    (pushed nb size s.rows s.count s.gained cols (length part) c.index-slot.result.now c.args.p columns c.add_row.new.columns s.spare.items s.known.items area arena c.add_row.new.arena l part
    i cn sz slot new more (c.add_row.auto.columns ∙ ap length c.deref_mut.ensures.value) shape os told))
