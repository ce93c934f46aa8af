use Rattle.std.proofs.Common.{◌≡◌, ◌<◌, ◌≤◌, replicate, refl, sym, ap, ◌∙◌, arith}
use Rattle.row_arena.specs.Rows.{words_for}
use Rattle.row_elimination.specs.Room.{Extent}
use Rattle.row_elimination.specs.HeldPlaces.{gained_held, free}
use Rattle.frag_model.specs.Fragments.{Shape}
use Rattle.row_elimination.specs.HeldSolver.{Held}
use Rattle.row_elimination.specs.declared.solver.Kept.{Kept}
use Rattle.row_elimination.specs.declared.stages.Stage.TheVariants as stage
use Rattle.row_elimination.proofs.Solving.{kept_still, held_still, line_fits, roomy, two_at_first, more_at_first}
use Rattle.row_elimination.proofs.solver.Solver.begin.Goals as goal

pub begin-requires : goal.begin-requires
begin-requires g c =
    let k : Kept g.row.W g.row.B = c.deref_mut-kept.result.now in
    let view = held_still k c.self.inside.kept.value c.args.self.now c.deref_mut-kept.ensures.value c.self.view_is in
    let r = roomy g.row.W g.row.B c.args.self.now.extent c.args.nb_frag c.args.frag_size c.args.rows (sym c.fits.ensures ∙ c.if-not-fits.false) in
    let extent : k.table.room ≡ c.args.self.now.extent = ap (λ (h : Held). h.extent) view in
    let area : k.table.room.area ≡ c.args.self.now.extent.area = ap (λ (e : Extent). e.area) extent in
    let pieces : k.table.room.pieces ≡ c.args.self.now.extent.pieces = ap (λ (e : Extent). e.pieces) extent in (
      omega arith,
      (
        omega (arith, r.few, pieces),
        (
          c.requires.few,
          (omega (arith, r.pieces, area), r.arena),
        ),
      ),
    )

pub widen-requires : goal.widen-requires
widen-requires g c =
    let k : Kept g.row.W g.row.B = c.deref_mut-kept.result.now in
    let words = line_fits k c.self.inside.kept.value c.args.self.now c.args.nb_frag c.args.frag_size c.args.rows c.deref_mut-kept.ensures.value c.self.view_is (sym c.fits.ensures ∙ c.if-not-fits.false) in
    omega (arith, c.words_for.ensures.value, words, (kept_still k c.self.inside.kept.value c.deref_mut-kept.ensures.value c.self.invariant).line_held)

pub widen-requires-2 : goal.widen-requires-2
widen-requires-2 g c =
    let k : Kept g.row.W g.row.B = c.deref_mut-kept.result.now in
    let words = line_fits k c.self.inside.kept.value c.args.self.now c.args.nb_frag c.args.frag_size c.args.rows c.deref_mut-kept.ensures.value c.self.view_is (sym c.fits.ensures ∙ c.if-not-fits.false) in
    omega (arith, c.words_for-2.ensures.value, words, (kept_still k c.self.inside.kept.value c.deref_mut-kept.ensures.value c.self.invariant).picks_held)

pub invariant_of-self : goal.invariant_of-self
invariant_of-self g c =
    let k : Kept g.row.W g.row.B = c.deref_mut-kept.result.now in
    let inv = kept_still k c.self.inside.kept.value c.deref_mut-kept.ensures.value c.self.invariant in
    let more : gained_held c.begin.new.self.places < c.begin.new.self.shape.nb_frag =
    rw (c.begin.ensures.places, c.begin.ensures.shape) (more_at_first c.args.nb_frag c.requires.some) in
    let small : c.begin.new.self.shape.frag_size ≡ c.args.frag_size = ap (λ (s : Shape). s.frag_size) c.begin.ensures.shape in
    let nb : c.begin.new.self.shape.nb_frag ≡ c.args.nb_frag = ap (λ (s : Shape). s.nb_frag) c.begin.ensures.shape in
    record {
      line_held = omega (arith, ap (λ (e : Extent). words_for e.pieces) c.begin.ensures.room, c.widen.ensures.capacity, inv.line_held);
      picks_held = omega (arith, ap (λ (e : Extent). words_for e.pieces) c.begin.ensures.room, c.widen-2.ensures.capacity, inv.picks_held);
      line_sized = omega (arith, ap words_for nb, c.words_for.ensures.value, c.widen.ensures.enough);
      picks_sized = omega (arith, ap words_for nb, c.words_for-2.ensures.value, c.widen-2.ensures.enough);
      part_sized = inv.part_sized;
      most = omega (arith, nb, c.requires.most);
      small = omega (arith, small, c.requires.small);
      some = λ e. omega (arith, small, c.requires.short);
      more = λ e. more;
    }

pub returns-clause-begins : goal.returns-clause-begins
returns-clause-begins g c =
    let k : Kept g.row.W g.row.B = c.deref_mut-kept.result.now in
    let view = held_still k c.self.inside.kept.value c.args.self.now c.deref_mut-kept.ensures.value c.self.view_is in
    let size : c.begin.new.self.shape.frag_size ≡ c.args.frag_size = ap (λ (s : Shape). s.frag_size) c.begin.ensures.shape in
    let nb : c.begin.new.self.shape.nb_frag ≡ c.args.nb_frag = ap (λ (s : Shape). s.nb_frag) c.begin.ensures.shape in
    let some : 1 ≤ c.begin.new.self.shape.nb_frag = omega (arith, nb, c.requires.some) in
    let sized : 1 ≤ c.begin.new.self.shape.frag_size = omega (arith, size, c.requires.short) in
    let places : c.begin.new.self.places ≡ replicate c.begin.new.self.shape.nb_frag free = c.begin.ensures.places ∙ ap (λ m. replicate m free) (sym nb) in
    record {
      begun = record { some = some; sized = sized; stage = refl; places = places };
      shape = c.begin.ensures.shape;
      two = two_at_first c.begin.new.self stage.Receiving some sized places;
      refused = tt;
      extent = c.begin.ensures.room ∙ ap (λ (h : Held). h.extent) view;
    }
