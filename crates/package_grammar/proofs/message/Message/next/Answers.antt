use Rattle.std.proofs.Common.{sym, ap, ◌∙◌, List, refl}
use Rattle.package_grammar.specs.declared.command.Command.{Command}
use Rattle.package_grammar.specs.HeldMessage.{HeldMessage}
use Rattle.package_grammar.proofs.Cursor.{none_left, first_left, some_left}
use Rattle.package_grammar.proofs.message.Message.next.Goals as goal

pub returns-then-self-clause-takes : goal.returns-then-self-clause-takes
returns-then-self-clause-takes c =
    (ap (λ (m : HeldMessage). m.commands) (sym c.self.view_is) ∙ none_left c.self.inside.port c.self.inside.direction c.self.inside.bytes.now c.self.inside.at c.if-self.true, refl)

pub invariant_of-self : goal.invariant_of-self
invariant_of-self c =
    (first_left c.self.inside.port c.self.inside.direction c.self.inside.bytes.now c.self.inside.at c.read_one.result c.in-Ok.command c.in-Ok.next
    c.self.invariant c.if-self.false c.read_one.ensures.only c.in-Ok.is c.in-Ok.ensures.within).1

pub returns-in-Ok-clause-takes : goal.returns-in-Ok-clause-takes
returns-in-Ok-clause-takes c =
    let first = first_left c.self.inside.port c.self.inside.direction c.self.inside.bytes.now c.self.inside.at c.read_one.result c.in-Ok.command c.in-Ok.next
    c.self.invariant c.if-self.false c.read_one.ensures.only c.in-Ok.is c.in-Ok.ensures.within in
    sym c.self.view_is ∙ ap (λ (cs : List Command). let m : HeldMessage = record { port = c.self.inside.port; direction = c.self.inside.direction; commands = cs } in m) first.0

pub returns-in-Err-clause-takes : goal.returns-in-Err-clause-takes
returns-in-Err-clause-takes c =
    some_left c.self.inside.port c.self.inside.direction c.self.inside.bytes.now c.self.inside.at c.read_one.result c.in-Err.field-0 c.self.invariant c.if-self.false c.read_one.ensures.only c.in-Err.is
