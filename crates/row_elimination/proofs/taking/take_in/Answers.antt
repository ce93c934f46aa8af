use Rattle.std.proofs.Common.{◌<◌, ◌^◌, ℕ, sym, subst, ◌∙◌, arith}
use Rattle.frag_model.proofs.Dimension.{line_of-lt}
use Rattle.row_arena.specs.Rows.{line_in}
use Rattle.row_elimination.proofs.Answering.{ready_reduced}
use Rattle.row_elimination.proofs.Lines.{column_inside}
use Rattle.row_elimination.proofs.taking.take_in.Goals as goal

pub reduce-requires : goal.reduce-requires
reduce-requires g c =
    let t = c.args.table.now in (
      omega arith,
      record {
        words = c.requires.words;
        within = subst (λ (l : ℕ). l < 2 ^ t.shape.nb_frag) (sym c.requires.drawn) (line_of-lt t.shape.nb_frag c.args.n c.requires.first);
        picks = c.requires.picks;
        sized = c.requires.sized;
        piece = c.requires.piece;
      },
    )

pub take_new-requires : goal.take_new-requires
take_new-requires g c =
    let t = c.args.table.now in
    let l : ℕ = line_in c.reduce.new.line in (
      omega arith,
      record {
        ready = ready_reduced t c.args.n c.args.part.now (line_in c.args.line.now) l c.reduce.new.rest c.requires.drawn c.reduce.ensures.held c.reduce.ensures.room c.requires.more c.requires.some c.requires.first
            c.requires.piece c.reduce.ensures.left;
        words = c.reduce.auto.line ∙ c.requires.words;
        inside = column_inside t.shape.nb_frag l c.in-Some.p c.reduce.ensures.left.within c.in-Some.ensures;
        has = c.in-Some.ensures;
      },
    )

pub take_old-requires : goal.take_old-requires
take_old-requires g c =
    let t = c.args.table.now in
    let l : ℕ = line_in c.reduce.new.line in (
      omega arith,
      (
        ready_reduced t c.args.n c.args.part.now (line_in c.args.line.now) l c.reduce.new.rest c.requires.drawn c.reduce.ensures.held c.reduce.ensures.room c.requires.more c.requires.some c.requires.first
            c.requires.piece c.reduce.ensures.left,
        c.in-None.ensures,
      ),
    )
