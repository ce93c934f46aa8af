use Rattle.std.proofs.Common.{ℕ, List, ◌++◌, Option, IfSome, Ok, refl, sym, ap, subst, ◌∙◌, string_bytes}
use Rattle.package_grammar.specs.declared.command.Command.{Command}
use Rattle.package_grammar.specs.HeldMessage.{HeldMessage}
use Rattle.package_grammar.specs.Texts.{text_of}
use Rattle.package_grammar.specs.MessageInside.{commands_left, IsPutAt}
use Rattle.package_grammar.proofs.Tables.{within}
use Rattle.package_grammar.proofs.Messages.{none_read}
use Rattle.package_grammar.proofs.Cursor.{none_left}
use Rattle.package_grammar.proofs.OneByte.{spelled_left}
use Rattle.package_grammar.proofs.message.Message.text_next.Goals as goal

pub returns-then-self : goal.returns-then-self
returns-then-self c =
    let m = c.self.inside in
    record { shown = ((ap (λ (h : HeldMessage). h.commands) (sym c.self.view_is) ∙ none_left m.port m.direction m.bytes.now m.at (sym c.if-self.true), refl), c.clear.ensures.bytes) }

pub invariant_of-self : goal.invariant_of-self
invariant_of-self c =
    let m = c.self.inside in
    let put = subst (λ (found : Option ℕ). IfSome found (IsPutAt m.port m.direction m.bytes.now m.at (string_bytes c.clear.new.self) (string_bytes c.put_at.new.text))) c.in-Some.is c.in_ok-next.ensures.put in
    (spelled_left m.port m.direction m.bytes.now m.at put.0 c.in-Some.next c.self.invariant (λ e. c.if-self.false (sym e)) put.1 (within put.0 m.port m.direction m.bytes.now m.at c.in-Some.next put.1)).1

pub returns-in-Some : goal.returns-in-Some
returns-in-Some c =
    let m = c.self.inside in
    let put = subst (λ (found : Option ℕ). IfSome found (IsPutAt m.port m.direction m.bytes.now m.at (string_bytes c.clear.new.self) (string_bytes c.put_at.new.text))) c.in-Some.is c.in_ok-next.ensures.put in
    let first = spelled_left m.port m.direction m.bytes.now m.at put.0 c.in-Some.next c.self.invariant (λ e. c.if-self.false (sym e)) put.1 (within put.0 m.port m.direction m.bytes.now m.at c.in-Some.next put.1) in
    record { shown = (put.0, sym c.self.view_is ∙ ap (λ (cs : List Command). let h : HeldMessage = record { port = m.port; direction = m.direction; commands = cs } in h) first.0, put.2 ∙ ap (λ (before : List ℕ). before ++ text_of put.0) c.clear.ensures.bytes) }

pub returns-in-None : goal.returns-in-None
returns-in-None c =
    let m = c.self.inside in
    absurd (none_read m.port m.direction m.bytes.now m.at (commands_left m.port m.direction m.bytes.now m.at) (λ e. c.if-self.false (sym e))
    (λ d next spells. c.in_ok-next.ensures.none d next c.self.invariant.read.1 spells (ap (λ (found : Option ℕ). Ok found) c.in-None.is)) c.self.invariant.spells)
