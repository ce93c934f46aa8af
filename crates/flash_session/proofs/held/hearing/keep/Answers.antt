use Rattle.std.proofs.Common.{refl}
use Rattle.frag_session.specs.Session.{fragment}
use Rattle.flash_session.proofs.held.hearing.keep.Goals as goal

pub returns-clause-stored : goal.returns-clause-stored
returns-clause-stored g c = record {
  acknowledged = λ x stored. c.store.ensures.stored.acknowledged (record { grows = x; fragment = fragment c.args.n c.args.part.now c.args.mark; sized = refl; spelled_as = c.spell.ensures }) stored;
  any_moment = λ x stored. c.store.ensures.stored.any_moment (record { grows = x; fragment = fragment c.args.n c.args.part.now c.args.mark; sized = refl; spelled_as = c.spell.ensures }) stored;
  serves = c.store.ensures.stored.serves;
}
