use Rattle.std.proofs.Common.{◌≡◌, ℕ, subst}
use Rattle.wire_base.specs.declared.refusal.Direction.{Direction}
use Rattle.wire_base.specs.declared.refusal.Direction.TheVariants.{Down}
use Rattle.package_grammar.specs.MessageInside.{commands_left, IsAt}
use Rattle.package_grammar.proofs.Cursor.{fragment_next}
use Rattle.package_grammar.proofs.message.Message.fragment.Goals as goal

pub returns-in-Down-clause-leaves : goal.returns-in-Down-clause-leaves
returns-in-Down-clause-leaves c =
    let s = c.self.inside in
    let V : ℕ → Direction → Type 0 = λ p d. IsAt p d s.bytes.now s.at × (record { port = p; direction = d; commands = commands_left p d s.bytes.now s.at } ≡ c.args.self.now) in
    let at : V 201 Down = subst (λ p. V p Down) c.if-self.true (subst (λ d. V s.port d) c.in-Down.is (c.self.invariant, c.self.view_is)) in
    fragment_next c.args.self.now s.bytes.now s.at c.fragment_at.result at.0 at.1 c.fragment_at.ensures.spelled
