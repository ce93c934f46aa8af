use Rattle.std.proofs.Common.{sym, ap, ◌∙◌, List, ◌+◌, arith}
use Rattle.package_grammar.specs.declared.command.Command.{Command}
use Rattle.package_grammar.specs.HeldMessage.{HeldMessage}
use Rattle.package_grammar.proofs.Tables.{within}
use Rattle.package_grammar.proofs.OneByte.{spelled_left}
use Rattle.package_grammar.proofs.message.Message.next_name.Goals as goal

pub invariant_of-self : goal.invariant_of-self
invariant_of-self c =
    let m = c.self.inside in
    let named = c.in-Some.ensures in
    (spelled_left m.port m.direction m.bytes.now m.at named.0 (m.at + 1) c.self.invariant (λ e. absurd (omega (arith, e, c.if-self.false))) named.1 (within named.0 m.port m.direction m.bytes.now m.at (m.at + 1) named.1)).1

pub returns-in-Some-clause-named : goal.returns-in-Some-clause-named
returns-in-Some-clause-named c =
    let m = c.self.inside in
    let named = c.in-Some.ensures in
    let first = spelled_left m.port m.direction m.bytes.now m.at named.0 (m.at + 1) c.self.invariant (λ e. absurd (omega (arith, e, c.if-self.false))) named.1 (within named.0 m.port m.direction m.bytes.now m.at (m.at + 1) named.1) in
    (named.0, sym c.self.view_is ∙ ap (λ (cs : List Command). let h : HeldMessage = record { port = m.port; direction = m.direction; commands = cs } in h) first.0, named.2)
