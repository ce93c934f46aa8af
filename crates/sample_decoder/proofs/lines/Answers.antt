use Rattle.std.proofs.Common.{List, ℕ, ◌++◌, codes, sym, ap, ◌∙◌, append-nil, append_assoc}
use Rattle.package_grammar.specs.declared.command.Command.{Command}
use Rattle.package_grammar.specs.HeldMessage.{HeldMessage}
use Rattle.package_grammar.specs.Texts.{text_of}
use Rattle.sample_decoder.specs.Lines.{lines_of}
use Rattle.sample_decoder.proofs.lines.Goals as goal

pub loop-command-preserved : goal.loop-command-preserved
unfolding lines_of
loop-command-preserved c =
    let before = c.loop-command.text.items in
    let left = c.next.new.self.commands in
    ap (λ (w : List ℕ). w ++ lines_of left) (c.in_ok-extend_from_slice.ensures.items
    ∙ ap (λ (w : List ℕ). w ++ codes "\n") c.in_ok-show.ensures.shown)
    ∙ append_assoc (before ++ text_of c.in-Some.command) (codes "\n") (lines_of left)
    ∙ append_assoc before (text_of c.in-Some.command) (codes "\n" ++ lines_of left)
    ∙ ap (λ (m : HeldMessage). before ++ lines_of m.commands) (sym c.in-Some.ensures.takes)
    ∙ c.loop-command.invariant

pub returns : goal.returns
unfolding lines_of
returns c =
    sym (append-nil c.loop-command.text.items)
    ∙ ap (λ (cs : List Command). c.loop-command.text.items ++ lines_of cs) (sym c.in_default.ensures.takes.0)
    ∙ c.loop-command.invariant
