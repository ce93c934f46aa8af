use Rattle.std.proofs.Common.{◌≡◌, ℕ, ◌∙◌, subst, inl, inr}
use Rattle.row_arena.specs.Stretch.{stretch}
use Rattle.row_elimination.proofs.Placing.{part_stays, part_is}
use Rattle.row_elimination.proofs.entries.put_part.Goals as goal

pub returns-in-Free-clause-here : goal.returns-in-Free-clause-here
returns-in-Free-clause-here g c = part_stays c.args.arena.now.cell c.args.area.now c.args.arena.now c.args.c c.args.column (inl c.in-Free.is)

pub returns-in-Piece-clause-here : goal.returns-in-Piece-clause-here
returns-in-Piece-clause-here g c = part_stays c.args.arena.now.cell c.args.area.now c.args.arena.now c.args.c c.args.column (inr c.in-Piece.is)

pub returns-in-Row-clause-here : goal.returns-in-Row-clause-here
returns-in-Row-clause-here g c =
    part_is c.args.arena.now.cell c.args.area.now c.args.arena.now _ c.args.c c.in-Row.slot c.args.column c.in-Row.is
    (subst (λ (n : ℕ). stretch c.args.c n c.put_at.new.into ≡ c.bytes.result.now) c.bytes.ensures.len c.put_at.ensures.there ∙ c.bytes.ensures.part)
