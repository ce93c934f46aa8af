use Rattle.std.proofs.Common.{◌≡◌, ℕ, length, sym, subst, ◌∙◌, arith}
use Rattle.row_arena.specs.Rows.{line_in}
use Rattle.row_elimination.specs.HeldStorage.{IsStored, places_in}
use Rattle.row_elimination.specs.HeldSteps.{Taken, TakesRows}
use Rattle.row_elimination.proofs.Storing.{column_piece, known_room, pieces_taken}
use Rattle.row_elimination.proofs.passes.reduce.Goals as goal
use Rattle.row_elimination.proofs.passes.reduce.Goals.{After-sum_counted, After-take_rows}

pub sum_counted-requires-clause-picks : goal.sum_counted-requires-clause-picks
sum_counted-requires-clause-picks g c = λ n lt.
    known_room (length c.args.part.now) c.args.area.now c.args.arena.now c.args.columns.now (line_in c.args.known.now) n c.pick-count.result c.pick-count.new.picks
    c.requires.marks c.pick-count.ensures.known lt c.requires.reduced

pub take_rows-requires : goal.take_rows-requires
take_rows-requires g c =
    let size : ℕ = length c.args.part.now in
    let os = c.args.columns.now in
    let sized : length c.sum_counted.new.rest ≡ size = c.sum_counted.auto.rest ∙ c.requires.sized in
    let taken : Taken (length os) size (places_in size c.args.area.now c.args.arena.now os) (line_in c.args.line.now) c.args.part.now (line_in c.pick-count.new.line) c.sum_counted.new.rest =
    pieces_taken size c.args.area.now c.args.arena.now os (line_in c.args.known.now) (line_in c.args.line.now) c.pick-count.result c.pick-count.new.picks (line_in c.pick-count.new.line)
    c.args.part.now c.sum_counted.new.rest c.requires.reduced c.requires.marks c.requires.piece c.requires.within c.pick-count.ensures.known c.pick-count.ensures.line sized c.sum_counted.ensures.sum in (
      search,
      record {
        stored = subst (λ (n : ℕ). IsStored n c.args.arena.now os) (sym sized) c.requires.stored;
        words = c.pick-count.auto.line ∙ c.requires.words;
        few = omega (arith, c.pick-count.auto.line, c.requires.few);
        within = taken.within;
        none = λ k is. c.pick-count.ensures.none k (c.requires.marks.all k (column_piece size c.args.area.now c.args.arena.now k os is));
        picks = omega (arith, c.pick-count.auto.line, c.pick-count.auto.picks, c.requires.picks);
      },
    )

pub returns-clause-left : goal.returns-clause-left
returns-clause-left g c =
    let size : ℕ = length c.args.part.now in
    let os = c.args.columns.now in
    let sized : length c.sum_counted.new.rest ≡ size = c.sum_counted.auto.rest ∙ c.requires.sized in
    let taken : Taken (length os) size (places_in size c.args.area.now c.args.arena.now os) (line_in c.args.line.now) c.args.part.now (line_in c.pick-count.new.line) c.sum_counted.new.rest =
    pieces_taken size c.args.area.now c.args.arena.now os (line_in c.args.known.now) (line_in c.args.line.now) c.pick-count.result c.pick-count.new.picks (line_in c.pick-count.new.line)
    c.args.part.now c.sum_counted.new.rest c.requires.reduced c.requires.marks c.requires.piece c.requires.within c.pick-count.ensures.known c.pick-count.ensures.line sized c.sum_counted.ensures.sum in
    let rows : TakesRows size c.args.arena.now os (line_in c.pick-count.new.line) c.sum_counted.new.rest (line_in c.take_rows.new.line) c.take_rows.new.rest =
    subst (λ (n : ℕ). TakesRows n c.args.arena.now os (line_in c.pick-count.new.line) c.sum_counted.new.rest (line_in c.take_rows.new.line) c.take_rows.new.rest) sized c.take_rows.ensures.taken in
    rows.reduces c.args.area.now (line_in c.args.line.now) c.args.part.now c.requires.reduced taken
