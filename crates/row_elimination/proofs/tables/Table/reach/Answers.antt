use Rattle.std.proofs.Common.{◌-◌, ◌*◌, ◌≤◌, ℕ, List, length, take, replicate, sym, ap, subst, ◌∙◌, arith, length-append}
use Rattle.std.proofs.lemmas.List.{length-replicate}
use Rattle.row_elimination.specs.HeldStorage.{places_in}
use Rattle.row_elimination.specs.HeldTable.{Grid}
use Rattle.row_elimination.proofs.Gridding.{longer, longer_places}
use Rattle.row_elimination.proofs.tables.Table.reach.Goals as goal

pub widen-requires : goal.widen-requires
widen-requires g c =
    let s = c.self.inside in
    let few : c.args.n ≤ s.nb_frag * s.frag_size = subst (λ (x : Grid). c.args.n ≤ x.shape.nb_frag * x.shape.frag_size) (sym c.self.view_is) c.requires.inside in
    omega (arith, few, c.self.invariant.pieces_fit, c.self.invariant.memory.area_held)

pub invariant_of-self : goal.invariant_of-self
invariant_of-self g c =
    let s = c.self.inside in
    let m = c.self.invariant.memory in
    let more : List ℕ = replicate (c.args.n - length s.area.items) 0 in
    let few : c.args.n ≤ s.nb_frag * s.frag_size = subst (λ (x : Grid). c.args.n ≤ x.shape.nb_frag * x.shape.frag_size) (sym c.self.view_is) c.requires.inside in
    rw c.widen.ensures.value
    (record {
      words_few = c.self.invariant.words_few;
      bytes_few = c.self.invariant.bytes_few;
      memory = record {
        few = m.few;
        columns_held = m.columns_held;
        spare_held = m.spare_held;
        known_held = m.known_held;
        area_held = omega (arith, c.widen.ensures.capacity, m.area_held);
      };
      within = c.self.invariant.within;
      area_fits = omega (arith, length-append s.area.items more, length-replicate {A = ℕ} (c.args.n - length s.area.items) 0, c.self.invariant.area_fits, few, c.self.invariant.pieces_fit);
      pieces_fit = c.self.invariant.pieces_fit;
      grid = longer s.nb_frag s.frag_size s.rows s.count s.gained s.columns.items s.spare.items s.known.items s.area.items more s.arena.value c.self.invariant.grid;
    })

pub returns-clause-places : goal.returns-clause-places
returns-clause-places g c =
    let s = c.self.inside in
    let more : List ℕ = replicate (c.args.n - length s.area.items) 0 in
    ap (λ l. places_in s.frag_size l s.arena.value (take s.nb_frag s.columns.items)) c.widen.ensures.value
    ∙ longer_places s.nb_frag s.frag_size s.area.items more s.arena.value (take s.nb_frag s.columns.items) c.self.invariant.grid.reduced
    ∙ ap (λ (x : Grid). x.places) c.self.view_is
