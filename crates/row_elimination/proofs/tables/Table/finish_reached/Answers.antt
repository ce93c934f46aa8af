use Rattle.std.proofs.Common.{◌≡◌, ℕ, length, take, ap, subst, ◌∙◌, arith}
use Rattle.frag_model.specs.Fragments.{Equation}
use Rattle.row_arena.specs.Rows.{Arena}
use Rattle.row_arena.specs.Stretch.{stretch}
use Rattle.row_elimination.specs.HeldSteps.{Tells}
use Rattle.row_elimination.specs.HeldTable.{Grid}
use Rattle.row_elimination.proofs.Gridding.{written, wrote_parts, finished, finished_places, finished_parts}
use Rattle.row_elimination.proofs.tables.Table.finish_reached.Goals as goal

pub invariant_of-self : goal.invariant_of-self
invariant_of-self g c =
    let s = c.self.inside in
    rw (written s.area.len c.put_parts.new.area s.area.items (c.put_parts.auto.area ∙ c.deref_mut.ensures.len))
    (record {
      words_few = c.self.invariant.words_few;
      bytes_few = c.self.invariant.bytes_few;
      memory = c.self.invariant.memory;
      within = c.self.invariant.within;
      area_fits = omega (arith, c.put_parts.auto.area, ap length c.deref_mut.ensures.value, c.self.invariant.area_fits);
      pieces_fit = c.self.invariant.pieces_fit;
      grid = finished s.nb_frag s.frag_size s.rows s.count s.gained s.columns.items s.spare.items s.known.items s.area.items
          c.put_parts.new.area s.arena.value c.self.invariant.grid
          (wrote_parts s.nb_frag s.frag_size c.deref-2.result.now.cell s.columns.items c.deref.result.now s.area.items c.deref_mut.result.now c.put_parts.new.area s.arena.value c.deref-2.result.now
          c.deref.ensures.value c.deref_mut.ensures.value c.deref-2.ensures (ap (λ (a : Arena). a.cell) c.deref-2.ensures ∙ c.self.invariant.grid.arena_cell) c.put_parts.ensures);
    })

pub returns-clause-places : goal.returns-clause-places
returns-clause-places g c =
    let s = c.self.inside in
    rw (written s.area.len c.put_parts.new.area s.area.items (c.put_parts.auto.area ∙ c.deref_mut.ensures.len))
    (finished_places s.frag_size s.area.items c.put_parts.new.area s.arena.value (take s.nb_frag s.columns.items)
    (wrote_parts s.nb_frag s.frag_size c.deref-2.result.now.cell s.columns.items c.deref.result.now s.area.items c.deref_mut.result.now c.put_parts.new.area s.arena.value c.deref-2.result.now
    c.deref.ensures.value c.deref_mut.ensures.value c.deref-2.ensures (ap (λ (a : Arena). a.cell) c.deref-2.ensures ∙ c.self.invariant.grid.arena_cell) c.put_parts.ensures)
    ∙ ap (λ (g : Grid). g.places) c.self.view_is)

pub returns-clause-parts : goal.returns-clause-parts
returns-clause-parts g c =
    let s = c.self.inside in
    rw (written s.area.len c.put_parts.new.area s.area.items (c.put_parts.auto.area ∙ c.deref_mut.ensures.len))
    (subst (λ (g : Grid). (d : ℕ) (e : Equation) → Tells g.places d e → stretch d g.shape.frag_size c.put_parts.new.area ≡ e.part) c.self.view_is
    (finished_parts s.frag_size s.area.items c.put_parts.new.area s.arena.value (take s.nb_frag s.columns.items)
    (wrote_parts s.nb_frag s.frag_size c.deref-2.result.now.cell s.columns.items c.deref.result.now s.area.items c.deref_mut.result.now c.put_parts.new.area s.arena.value c.deref-2.result.now
    c.deref.ensures.value c.deref_mut.ensures.value c.deref-2.ensures (ap (λ (a : Arena). a.cell) c.deref-2.ensures ∙ c.self.invariant.grid.arena_cell) c.put_parts.ensures)))
