use Rattle.std.proofs.Common.{inl, arith}
use Rattle.flash_session.proofs.Headers.{lives_left, closing, closed_read, none_stored}
use Rattle.flash_session.proofs.Moments.{begins}
use Rattle.flash_session.proofs.Okay.{OnOk_both}
use Rattle.flash_session.proofs.Serves.{in_range}
use Rattle.flash_session.proofs.beginning.end.Goals as goal

pub returns-clause-ended : goal.returns-clause-ended
returns-clause-ended g c = record {
  acknowledged = λ s stored. OnOk_both
      (λ written kept. none_stored c.args.base c.args.span _ (closed_read c.args.base _ _ written) kept)
      c.write_synced.result c.write_synced.ensures.written c.write_synced.ensures.kept;
  any_moment = λ s stored.
      begins _
      (λ b left. inl (lives_left c.args.base c.args.span s _ stored b left))
      (λ d b left out. closing c.args.base c.args.span s _ stored d b left out)
      c.write_synced.ensures.serves.stops;
  serves = in_range _ _ c.args.base c.args.span (omega arith) (omega arith) c.write_synced.ensures.serves;
}
