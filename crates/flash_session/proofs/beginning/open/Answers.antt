use Rattle.std.proofs.Common.{inl, arith}
use Rattle.flash_session.proofs.Headers.{none_left, opening, opened_read, kept_within}
use Rattle.flash_session.proofs.Moments.{begins}
use Rattle.flash_session.proofs.Okay.{OnOk_both}
use Rattle.flash_session.proofs.Serves.{in_range}
use Rattle.flash_session.proofs.beginning.open.Goals as goal

pub returns-clause-begun : goal.returns-clause-begun
returns-clause-begun g c = record {
  acknowledged = λ x stored. OnOk_both
      (λ written kept. record {
        fits = x.fits;
        read = opened_read c.args.base c.args.span x.body x.most x.size x.fits c.requires.long _ _ x.cleared written;
        kept = kept_within c.args.base c.args.span (g.F.Flash.seen c.write_synced.new.flash) kept;
      })
      c.write_synced.result c.write_synced.ensures.written c.write_synced.ensures.kept;
  any_moment = λ x stored. begins _
      (λ b left. inl (none_left c.args.base c.args.span _ (omega arith) stored b left))
      (λ d b left out. opening c.args.base c.args.span x.body x.most x.size x.fits c.requires.long _ x.cleared stored d b left out)
      c.write_synced.ensures.serves.stops;
  serves = in_range _ _ c.args.base c.args.span (omega arith) (omega arith) c.write_synced.ensures.serves;
}
