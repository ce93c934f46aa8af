use Rattle.std.proofs.Common.{List, [], ◌∷◌, length, refl, sym, ap, ◌∙◌, arith}
use Rattle.cast_wire.specs.declared.cmd.Cmd.TheVariants.{DataFragment}
use Rattle.package_grammar.specs.declared.command.Command.{Command}
use Rattle.package_grammar.specs.declared.command.Command.TheVariants.{Cast}
use Rattle.package_grammar.specs.HeldMessage.{HeldMessage}
use Rattle.package_grammar.proofs.Cursor.{none_left, stands_at}
use Rattle.package_grammar.proofs.message.Message.next_fragment.Goals as goal

pub invariant_of-self : goal.invariant_of-self
invariant_of-self c =
    let m = c.self.inside in
    stands_at [] m.port m.direction m.bytes.now (length m.bytes.now) c.self.invariant.read (omega arith) refl

pub returns-in-Some-clause-taken : goal.returns-in-Some-clause-taken
returns-in-Some-clause-taken c =
    let m = c.self.inside in
    let f = c.in-Some.fragment in
    let first : Command = Cast (DataFragment f.index f.n f.bytes.now) in
    sym c.self.view_is
    ∙ ap (λ (cs : List Command). let h : HeldMessage = record { port = m.port; direction = m.direction; commands = cs } in h)
    (ap (λ (h : HeldMessage). h.commands) c.self.view_is
    ∙ c.in-Some.ensures.leaves
    ∙ ap (λ (cs : List Command). first ∷ cs) (sym (none_left m.port m.direction m.bytes.now (length m.bytes.now) refl)))
