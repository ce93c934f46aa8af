use Rattle.std.proofs.Common.{◌≡◌, ◌≢◌, ◌<◌, ℕ, get_or, List, length, take, set, refl, sym, ap, ◌∙◌, subst, arith, length-take-le}
use Rattle.row_arena.specs.Rows.{line_in}
use Rattle.row_elimination.specs.declared.columns.Column.{Column}
use Rattle.row_elimination.specs.declared.columns.Column.TheVariants.{Free, Piece, Row}
use Rattle.row_elimination.specs.HeldPlaces.{piece}
use Rattle.row_elimination.specs.HeldStorage.{places_in, Slots, IsStored}
use Rattle.row_elimination.proofs.Storing.{cleared_places, shape_then, row_then}
use Rattle.row_elimination.proofs.Packing.{any_default}
use Rattle.row_elimination.proofs.Slotting.{no_longer_stored}
use Rattle.row_elimination.proofs.Adding.{swapped_slots, swapped_places, over_at, written_first}
use Rattle.row_elimination.proofs.additions.add_piece_and_row.Goals as goal

pub take_over-requires : goal.take_over-requires
take_over-requires g c =
    let n : ℕ = c.cols.result in
    let size : ℕ = length c.args.part.now in
    let os : List Column = take n c.args.columns.now in
    let same = c.clear.ensures.cleared.shape in
    let long : length os ≡ n = length-take-le n c.args.columns.now (omega (arith, c.cols.ensures, c.requires.columns)) in
    let inside : c.args.k < length os = omega (arith, long, c.cols.ensures, c.requires.piece_inside) in
    let kept : c.column-kept.result ≡ get_or os c.args.k Free = c.column-kept.ensures.same ∙ any_default os c.args.k c.index-columns-k.result Free inside in
    let stored : IsStored size c.args.arena.now os = subst (λ (m : ℕ). IsStored size c.args.arena.now (take m c.args.columns.now)) (sym c.cols.ensures) c.requires.stored in (
      search,
      (
        omega (arith, c.put_piece.auto.columns, long, c.cols.ensures, c.requires.inside),
        (
          λ slot is. subst (λ (m : ℕ). slot < m) (sym same.rows) (stored.rows c.args.k slot (sym kept ∙ is)),
          (
            search,
            (
              row_then c.args.arena.now c.clear.new.arena c.args.line.now c.args.part.now same c.requires.new,
              λ column slot is other. subst (λ (l : List Column). get_or l column Free ≢ Row slot) (sym c.put_piece.ensures.columns)
                  (no_longer_stored size c.args.arena.now os c.args.k slot column inside (sym kept ∙ is) stored),
            ),
          ),
        ),
      ),
    )

pub returns-clause-slots : goal.returns-clause-slots
returns-clause-slots g c = λ spare rows count h.
    let n : ℕ = c.args.arena.now.cols in
    let os : List Column = take n c.args.columns.now in
    let inside : c.args.k < length (take c.cols.result c.args.columns.now) =
    omega (arith, c.cols.ensures, c.requires.piece_inside, length-take-le c.cols.result c.args.columns.now (omega (arith, c.cols.ensures, c.requires.columns))) in
    let long : length os ≡ n = length-take-le n c.args.columns.now c.requires.columns in
    subst (λ (l : List Column). Slots l spare rows count) (sym (written_first c.args.arena.now.cols c.cols.result c.take_over.new.columns c.args.columns.now c.cols.ensures (omega (arith, c.requires.columns, c.cols.ensures))
    (c.take_over.auto.columns ∙ c.put_piece.auto.columns)))
    (swapped_slots os c.take_over.new.columns c.args.k c.args.p (line_in c.args.line.now) c.args.part.now c.clear.new.arena c.take_over.new.arena
    spare rows count (omega (arith, c.requires.piece_inside)) (omega (arith, c.requires.inside)) c.requires.kind c.requires.lead (over_at c.args.arena.now.cols c.cols.result c.args.columns.now c.put_piece.new.columns c.take_over.new.columns c.args.k c.args.p (line_in c.args.line.now) c.args.part.now
    c.clear.new.arena c.take_over.new.arena c.column-kept.result c.cols.ensures c.put_piece.ensures.columns (c.column-kept.ensures.same ∙ any_default (take c.cols.result c.args.columns.now) c.args.k c.index-columns-k.result Free inside) c.take_over.ensures.over) h)

pub returns-clause-places : goal.returns-clause-places
returns-clause-places g c =
    let n : ℕ = c.args.arena.now.cols in
    let size : ℕ = length c.args.part.now in
    let os : List Column = take n c.args.columns.now in
    let inside : c.args.k < length (take c.cols.result c.args.columns.now) =
    omega (arith, c.cols.ensures, c.requires.piece_inside, length-take-le c.cols.result c.args.columns.now (omega (arith, c.cols.ensures, c.requires.columns))) in
    ap (places_in size c.put_piece.new.area c.take_over.new.arena) (written_first c.args.arena.now.cols c.cols.result c.take_over.new.columns c.args.columns.now c.cols.ensures (omega (arith, c.requires.columns, c.cols.ensures))
    (c.take_over.auto.columns ∙ c.put_piece.auto.columns))
    ∙ swapped_places size os c.take_over.new.columns c.args.k c.args.p (line_in c.args.line.now) c.args.part.now c.args.piece.now c.args.area.now c.put_piece.new.area
    c.args.arena.now c.clear.new.arena c.take_over.new.arena c.requires.kind c.requires.lead
    (cleared_places size c.args.area.now c.args.arena.now c.clear.new.arena os c.args.p (line_in c.args.line.now) c.args.part.now c.requires.stored refl c.clear.ensures.cleared)
    (λ x.
    let Q : ℕ → ℕ → List Column → Type 0 = λ m i l. places_in m c.put_piece.new.area x l ≡ set (places_in m c.args.area.now x (take i c.args.columns.now)) c.args.k (piece c.args.piece.now) in
    subst (λ (m : ℕ). Q m n (set os c.args.k Piece)) c.requires.sized
    (subst (λ (i : ℕ). Q (length c.args.piece.now) i (set (take i c.args.columns.now) c.args.k Piece)) c.cols.ensures
    (subst (λ (l : List Column). Q (length c.args.piece.now) c.cols.result l) c.put_piece.ensures.columns (c.put_piece.ensures.places x))))
    (over_at c.args.arena.now.cols c.cols.result c.args.columns.now c.put_piece.new.columns c.take_over.new.columns c.args.k c.args.p (line_in c.args.line.now) c.args.part.now
    c.clear.new.arena c.take_over.new.arena c.column-kept.result c.cols.ensures c.put_piece.ensures.columns (c.column-kept.ensures.same ∙ any_default (take c.cols.result c.args.columns.now) c.args.k c.index-columns-k.result Free inside) c.take_over.ensures.over)

pub returns-clause-shape : goal.returns-clause-shape
returns-clause-shape g c = shape_then c.args.arena.now c.clear.new.arena c.take_over.new.arena c.clear.ensures.cleared.shape c.take_over.ensures.shape
