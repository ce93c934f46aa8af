use Rattle.std.proofs.Common.{◌≡◌, ◌<◌, ◌≤◌, ◌^◌, ℕ, List, length, take, refl, sym, ap, subst, ◌∙◌, arith, length-take-le}
use Rattle.row_arena.specs.Rows.{line_in, words_for}
use Rattle.row_elimination.specs.HeldPlaces.{Place}
use Rattle.row_elimination.specs.HeldStorage.{places_in}
use Rattle.row_elimination.specs.HeldSteps.{Reduced}
use Rattle.row_elimination.specs.HeldTable.{Grid}
use Rattle.row_elimination.proofs.Gridding.{stored, width_few}
use Rattle.row_elimination.proofs.tables.Table.reduce.Goals as goal

pub slice_bounds-known-end : goal.slice_bounds-known-end
slice_bounds-known-end g c =
    let i = c.self.invariant.grid in
    let ln : length c.args.line.now ≡ words_for c.self.inside.nb_frag = c.requires.words ∙ ap (λ (x : Grid). words_for x.shape.nb_frag) (sym c.self.view_is) in
    let all : words_for c.self.inside.nb_frag ≤ length c.deref-2.result.now = omega (arith, ap length c.deref-2.ensures.value, i.known_sized) in
    omega (arith, ln, all, length-take-le (length c.args.line.now) c.deref-2.result.now (omega (arith, ln, all)))

pub reduce-requires : goal.reduce-requires
reduce-requires g c =
    let s = c.self.inside in
    let i = c.self.invariant.grid in
    let ln : length c.args.line.now ≡ words_for s.nb_frag = c.requires.words ∙ ap (λ (x : Grid). words_for x.shape.nb_frag) (sym c.self.view_is) in
    let sz : length c.args.part.now ≡ s.frag_size = c.requires.piece.sized ∙ ap (λ (x : Grid). x.shape.frag_size) (sym c.self.view_is) in
    let long : length (take s.nb_frag s.columns.items) ≡ s.nb_frag = length-take-le s.nb_frag s.columns.items (omega (arith, i.most, i.columns_sized)) in
    let within : line_in c.args.line.now < 2 ^ s.nb_frag = subst (λ (x : Grid). line_in c.args.line.now < 2 ^ x.shape.nb_frag) (sym c.self.view_is) c.requires.within in
    let few = width_few s.nb_frag i.most in (
      omega (arith, c.self.invariant.words_few, c.self.invariant.bytes_few),
      record {
        stored = rw (c.deref.ensures.value, c.deref-4.ensures, sz) (stored s.nb_frag s.frag_size s.rows s.count s.gained s.columns.items s.spare.items s.known.items s.area.items s.arena.value i);
        marks = rw (c.deref.ensures.value, c.deref-2.ensures.value, c.deref-3.ensures.value, c.deref-4.ensures, sz, ln) i.marks;
        reduced = rw (c.deref.ensures.value, c.deref-3.ensures.value, c.deref-4.ensures, sz, long) i.reduced;
        piece = record { sized = refl; bytes = c.requires.piece.bytes };
        words = rw (c.deref.ensures.value, long) ln;
        same = rw (c.deref-2.ensures.value) (sym (length-take-le (length c.args.line.now) s.known.items (omega (arith, ln, i.known_sized))));
        few = omega (arith, ln, few);
        within = rw (c.deref.ensures.value, long) within;
        picks = c.requires.picks;
        sized = c.requires.sized;
      },
    )

pub returns-clause-left : goal.returns-clause-left
returns-clause-left g c =
    let s = c.self.inside in
    let i = c.self.invariant.grid in
    let l : ℕ = line_in c.args.line.now in
    let part = c.args.part.now in
    let l' : ℕ = line_in c.reduce.new.line in
    let q' = c.reduce.new.rest in
    let sz : length part ≡ s.frag_size = c.requires.piece.sized ∙ ap (λ (x : Grid). x.shape.frag_size) (sym c.self.view_is) in
    let long : length (take s.nb_frag c.deref.result.now) ≡ s.nb_frag = length-take-le s.nb_frag c.deref.result.now (omega (arith, i.most, i.columns_sized, ap length c.deref.ensures.value)) in
    let ps : List Place = places_in s.frag_size s.area.items s.arena.value (take s.nb_frag s.columns.items) in
    let same : places_in (length part) c.deref-3.result.now c.deref-4.result.now (take s.nb_frag c.deref.result.now) ≡ ps =
    rw (c.deref.ensures.value, c.deref-3.ensures.value, c.deref-4.ensures, sz) refl in
    let all : Reduced s.nb_frag s.frag_size ps l part l' q' =
    subst (λ (n : ℕ). Reduced n s.frag_size ps l part l' q') long
    (subst (λ (n : ℕ). Reduced (length (take s.nb_frag c.deref.result.now)) n ps l part l' q') sz
    (subst (λ (x : List Place). Reduced (length (take s.nb_frag c.deref.result.now)) (length part) x l part l' q') same c.reduce.ensures.left)) in
    subst (λ (x : Grid). Reduced x.shape.nb_frag x.shape.frag_size x.places l part l' q') c.self.view_is all
