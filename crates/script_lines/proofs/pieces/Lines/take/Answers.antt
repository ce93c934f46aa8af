use Rattle.std.proofs.Common.{sym, ap, ◌∙◌, List, ℕ, ◌++◌, take}
use Rattle.script_lines.specs.Pieces.{cut}
use Rattle.script_lines.proofs.CutLines.{goes_on, ends_line}
use Rattle.script_lines.proofs.pieces.Lines.take.Goals as goal

pub returns-in-Some-clause-lines : goal.returns-in-Some-clause-lines
returns-in-Some-clause-lines c =
    ends_line c.args.self.now c.self.inside.held.items c.hold.new.held.items c.args.piece.now c.self.inside.ended c.in-Some.end (sym c.self.view_is)
    (c.hold.ensures.held ∙ ap (λ (l : List ℕ). cut (l ++ take c.in-Some.end c.args.piece.now)) c.open.ensures.open) (sym c.line_feed.ensures ∙ c.in-Some.is)

pub returns-in-None-clause-lines : goal.returns-in-None-clause-lines
returns-in-None-clause-lines c =
    goes_on c.args.self.now c.self.inside.held.items c.hold-in-None.new.held.items c.args.piece.now c.self.inside.ended (sym c.self.view_is)
    (c.hold-in-None.ensures.held ∙ ap (λ (l : List ℕ). cut (l ++ c.args.piece.now)) c.open.ensures.open) (sym c.line_feed.ensures ∙ c.in-None.is)
