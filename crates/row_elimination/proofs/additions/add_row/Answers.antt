use Rattle.std.proofs.Common.{ℕ, List, length, take, set, refl, ◌∙◌, ap, arith}
use Rattle.row_arena.specs.Rows.{line_in}
use Rattle.row_elimination.specs.declared.columns.Column.TheVariants.{Row}
use Rattle.row_elimination.specs.HeldPlaces.{Place, row, grown}
use Rattle.row_elimination.specs.HeldStorage.{places_in}
use Rattle.row_elimination.proofs.Storing.{cleared_places, shape_then}
use Rattle.row_elimination.proofs.Adding.{written_first}
use Rattle.row_elimination.proofs.additions.add_row.Goals as goal

pub returns-clause-columns : goal.returns-clause-columns
returns-clause-columns g c =
    written_first c.args.arena.now.cols c.cols.result c.put_row.new.columns c.args.columns.now c.cols.ensures (omega (arith, c.requires.columns, c.cols.ensures)) c.put_row.auto.columns ∙ c.put_row.ensures.columns ∙ ap (λ (n : ℕ). set (take n c.args.columns.now) c.args.p (Row c.args.slot)) c.cols.ensures

pub returns-clause-places : goal.returns-clause-places
unfolding grown
returns-clause-places g c = λ area.
    let size : ℕ = length c.args.part.now in
    let columns = c.args.columns.now in
    ap (places_in size area c.put_row.new.arena) (written_first c.args.arena.now.cols c.cols.result c.put_row.new.columns c.args.columns.now c.cols.ensures (omega (arith, c.requires.columns, c.cols.ensures)) c.put_row.auto.columns)
    ∙ c.put_row.ensures.places size area
    ∙ ap (λ (l : List Place). set l c.args.p (row (line_in c.args.line.now) c.args.part.now))
    (ap (λ (n : ℕ). places_in size area c.clear.new.arena (take n columns)) c.cols.ensures
    ∙ cleared_places size area c.args.arena.now c.clear.new.arena (take c.args.arena.now.cols columns) c.args.p (line_in c.args.line.now) c.args.part.now c.requires.stored refl c.clear.ensures.cleared)

pub returns-clause-shape : goal.returns-clause-shape
returns-clause-shape g c = shape_then c.args.arena.now c.clear.new.arena c.put_row.new.arena c.clear.ensures.cleared.shape c.put_row.ensures.shape
