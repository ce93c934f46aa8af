use Rattle.std.proofs.Common.{refl, inl, arith}
use Rattle.flash_session.proofs.Headers.{none_left, none_behind, none_stored, cleared_read}
use Rattle.flash_session.proofs.Moments.{begins, goes_on}
use Rattle.flash_session.proofs.Okay.{OnOk_both, none_ok_on}
use Rattle.flash_session.proofs.Serves.{in_range, range_joined, serves_failed}
use Rattle.flash_session.proofs.beginning.clear.Goals as goal

pub returns-in_err-fill-clause-none : goal.returns-in_err-fill-clause-none
returns-in_err-fill-clause-none g c = record {
  acknowledged = λ x stored. none_ok_on _ _ c.from_residual.ensures.0;
  any_moment = λ x stored. begins _
      (λ b left. inl (none_left c.args.base c.args.span _ (omega arith) stored b left))
      (λ d b left out. inl (none_behind c.args.base _ _ (omega arith) d b out (none_left c.args.base c.args.span _ (omega arith) stored d left)))
      c.fill.ensures.serves.stops;
  serves = in_range _ _ c.args.base c.args.span (omega arith) (omega arith) (serves_failed _ c.in_err-fill.ensures.serves);
}

pub returns-clause-none : goal.returns-clause-none
returns-clause-none g c = record {
  acknowledged = λ x stored. OnOk_both
      (λ written kept. none_stored c.args.base c.args.span _ (λ b now.
      let from = c.write_synced.ensures.serves.held.from b now in
      let before = c.fill.ensures.serves.held.from from.0 from.1 in
      none_behind c.args.base _ _ (omega arith) from.0 b from.2 (none_behind c.args.base _ _ (omega arith) before.0 from.0 before.2 (stored.read before.0 before.1))) kept)
      c.write_synced.result c.write_synced.ensures.written c.write_synced.ensures.kept;
  any_moment = λ x stored. goes_on _
      (begins _
      (λ b left. inl (none_left c.args.base c.args.span _ (omega arith) stored b left))
      (λ d b left out. inl (none_behind c.args.base _ _ (omega arith) d b out (none_left c.args.base c.args.span _ (omega arith) stored d left)))
      c.fill.ensures.serves.stops)
      (λ d b left out.
      let from = c.fill.ensures.serves.stops.last d left in
      inl (none_behind c.args.base _ _ (omega arith) d b out
      (none_behind c.args.base _ _ (omega arith) from.0 d from.2 (none_left c.args.base c.args.span _ (omega arith) stored from.0 from.1))))
      c.write_synced.ensures.serves.stops;
  serves = range_joined c.args.base c.args.span
      (in_range _ _ c.args.base c.args.span (omega arith) (omega arith) c.fill.ensures.serves)
      (in_range _ _ c.args.base c.args.span (omega arith) (omega arith) c.write_synced.ensures.serves);
}

pub returns-clause-cleared : goal.returns-clause-cleared
returns-clause-cleared g c = OnOk_both
    (λ written kept. cleared_read c.args.base _ c.args.body.now _ _ _ c.requires.body refl c.in_ok-fill.ensures.written written)
    c.write_synced.result c.write_synced.ensures.written c.write_synced.ensures.kept
