use Rattle.std.proofs.Common.{Bool, List, ℕ, ◌++◌, codes, sym, ap, subst, ◌∙◌, append-nil}
use Rattle.package_grammar.specs.declared.command.Command.{Command}
use Rattle.package_grammar.specs.HeldMessage.{HeldMessage, ShowsCommand}
use Rattle.package_grammar.specs.Texts.{text_of}
use Rattle.payload_replay.specs.Decode.{commands_text}
use Rattle.payload_replay.proofs.Payloads.{three_on}
use Rattle.payload_replay.proofs.decoding.show_commands.Goals as goal

pub loop-text-preserved : goal.loop-text-preserved
unfolding commands_text
loop-text-preserved c =
    let before = c.loop-text.text.items in
    let left = c.show_next.new.self.commands in
    let shows = subst (λ (more : Bool). ShowsCommand c.loop-text.message c.show_next.new.self before c.show_next.new.out.items more) c.if-branch.true c.in_ok-show_next.ensures.shown in
    ap (λ (w : List ℕ). w ++ commands_text left) (c.in_ok-push.ensures.items ∙ ap (λ (w : List ℕ). w ++ codes "\n") shows.2)
    ∙ three_on before (text_of shows.0) (codes "\n") (commands_text left)
    ∙ ap (λ (m : HeldMessage). before ++ commands_text m.commands) (sym shows.1)
    ∙ c.loop-text.invariant

pub returns : goal.returns
unfolding commands_text
returns c =
    let before = c.loop-text.text.items in
    let none = subst (λ (more : Bool). ShowsCommand c.loop-text.message c.show_next.new.self before c.show_next.new.out.items more) c.if-branch.false c.in_ok-show_next.ensures.shown in
    none.1
    ∙ sym (append-nil before)
    ∙ ap (λ (cs : List Command). before ++ commands_text cs) (sym none.0.0)
    ∙ c.loop-text.invariant
