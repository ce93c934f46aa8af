use Rattle.std.proofs.Common.{List, ℕ, ◌+◌, ◌-◌, ◌++◌, length, take, drop, sym, ap, ◌∙◌, arith}
use Rattle.std.proofs.lemmas.List.{take_all, length-drop}
use Rattle.script_lines.specs.Pieces.{cut}
use Rattle.script_lines.proofs.CutLines.{passes_on, passes_behind}
use Rattle.script_lines.proofs.pieces.Lines.pass.Goals.{in-Some, in-None}
use Rattle.script_lines.proofs.pieces.Lines.pass.Goals as goal

pub returns : goal.returns
returns c = λ stream stands. elim c.match-last_feed.branch [
  | in-Some w ↦ rw (w.self-inside-is) (passes_behind w.hold.new.held.items c.args.piece.now w.in-Some.end
      (w.hold.ensures.held
      ∙ ap (λ (l : List ℕ). cut (l ++ take (length c.args.piece.now - (w.in-Some.end + 1)) (drop (w.in-Some.end + 1) c.args.piece.now))) w.clear.ensures
      ∙ ap cut (take_all (length c.args.piece.now - (w.in-Some.end + 1)) (drop (w.in-Some.end + 1) c.args.piece.now) (omega (arith, length-drop (w.in-Some.end + 1) c.args.piece.now))))
      w.in-Some.ensures.some stream)
  | in-None w ↦ rw (w.self-inside-is) (passes_on c.args.self.now c.self.inside.held.items w.hold-in-None.new.held.items c.args.piece.now c.self.inside.ended (sym c.self.view_is)
      (w.hold-in-None.ensures.held ∙ ap (λ (l : List ℕ). cut (l ++ c.args.piece.now)) c.open.ensures.open) (c.last_feed.ensures.none w.in-None.is) stream stands)
]
