use Rattle.std.proofs.Common.{◌*◌, ◌≤◌, sym, subst, ◌∙◌, arith}
use Rattle.row_elimination.specs.HeldTable.{Grid}
use Rattle.row_elimination.proofs.Gridding.{begun, begun_places, ok_holds, more_words}
use Rattle.row_elimination.proofs.tables.Table.begin.Goals as goal

pub free_all-requires : goal.free_all-requires
free_all-requires g c =
    let most : c.args.nb_frag ≤ c.self.inside.most = subst (λ (x : Grid). c.args.nb_frag ≤ x.room.pieces) (sym c.self.view_is) c.requires.most in
    omega (arith, most, c.self.invariant.memory.columns_held)

pub spare_all-requires : goal.spare_all-requires
spare_all-requires g c =
    let most : c.args.nb_frag ≤ c.self.inside.most = subst (λ (x : Grid). c.args.nb_frag ≤ x.room.pieces) (sym c.self.view_is) c.requires.most in
    omega (arith, most, c.requires.few, c.self.invariant.memory.spare_held)

pub forget-requires : goal.forget-requires
forget-requires g c =
    let most : c.args.nb_frag ≤ c.self.inside.most = subst (λ (x : Grid). c.args.nb_frag ≤ x.room.pieces) (sym c.self.view_is) c.requires.most in
    omega (arith, c.words_for.ensures.value, more_words c.args.nb_frag c.self.inside.most most, c.self.invariant.memory.known_held)

pub invariant_of-self : goal.invariant_of-self
invariant_of-self g c =
    let s = c.self.inside in
    let m = c.self.invariant.memory in
    let area : c.args.nb_frag * c.args.frag_size ≤ s.room = subst (λ (x : Grid). c.args.nb_frag * c.args.frag_size ≤ x.room.area) (sym c.self.view_is) c.requires.area in
    let most : c.args.nb_frag ≤ s.most = subst (λ (x : Grid). c.args.nb_frag ≤ x.room.pieces) (sym c.self.view_is) c.requires.most in
    record {
      words_few = c.self.invariant.words_few;
      bytes_few = c.self.invariant.bytes_few;
      memory = record {
        few = m.few;
        columns_held = omega (arith, c.free_all.ensures.capacity, m.columns_held);
        spare_held = omega (arith, c.spare_all.ensures.capacity, m.spare_held);
        known_held = omega (arith, c.forget.ensures.capacity, m.known_held);
        area_held = m.area_held;
      };
      within = most;
      area_fits = c.self.invariant.area_fits;
      pieces_fit = area;
      grid = begun c.args.nb_frag c.args.frag_size c.args.rows c.free_all.new.columns.items c.spare_all.new.spare.items c.forget.new.known.items
          s.area.items c.shape.new.self (omega (arith, most, m.few)) c.requires.few c.free_all.ensures.free
          c.spare_all.ensures.enough (omega (arith, c.words_for.ensures.value, c.forget.ensures.enough))
          (ok_holds c.shape.result (c.shape.ensures.room ∙ c.requires.room) c.shape.ensures.shaped)
          c.spare_all.ensures.each c.forget.ensures.none;
    }

pub returns-clause-places : goal.returns-clause-places
returns-clause-places g c = begun_places c.args.nb_frag c.args.frag_size c.free_all.new.columns.items c.self.inside.area.items c.shape.new.self c.free_all.ensures.free
