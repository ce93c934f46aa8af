use Rattle.std.proofs.Common.{None, Some, inl, inr}
use Rattle.flash_session.specs.Lies.{new_stored}
use Rattle.flash_session.specs.Ranges.{WasOrIs, WasNoneOrIs}
use Rattle.flash_session.proofs.Moments.{joined, weaker}
use Rattle.flash_session.proofs.Okay.{none_ok_on}
use Rattle.flash_session.proofs.Serves.{range_joined, serves_failed}
use Rattle.flash_session.proofs.beginning.begin.Goals as goal

pub returns-in_err-end_if-clause-begun : goal.returns-in_err-end_if-clause-begun
returns-in_err-end_if-clause-begun g c = record {
  acknowledged = λ x stored. none_ok_on _ _ c.from_residual.ensures.0;
  any_moment = λ x stored. weaker (WasOrIs c.args.base x.before None) (WasNoneOrIs c.args.base x.before (Some (new_stored c.args.body.now x.most x.size)))
      (λ b left. elim left [ inl old ↦ inl old | inr gone ↦ inr (inl gone) ])
      (c.end_if.ensures.ended.any_moment (record { before = x.before; as_told = x.as_told }) stored);
  serves = serves_failed _ c.in_err-end_if.ensures.ended.serves;
}

pub returns-in_err-clear-clause-begun : goal.returns-in_err-clear-clause-begun
returns-in_err-clear-clause-begun g c = record {
  acknowledged = λ x stored. none_ok_on _ _ c.from_residual-in_err-clear.ensures.0;
  any_moment = λ x stored.
      let closed = c.in_ok-end_if.ensures.ended.acknowledged (record { before = x.before; as_told = x.as_told }) stored in
      joined (WasOrIs c.args.base x.before None) (WasOrIs c.args.base None None) (WasNoneOrIs c.args.base x.before (Some (new_stored c.args.body.now x.most x.size)))
      (λ b left. elim left [ inl old ↦ inl old | inr gone ↦ inr (inl gone) ])
      (λ b left. elim left [ inl none ↦ inr (inl none) | inr none ↦ inr (inl none) ])
      (c.end_if.ensures.ended.any_moment (record { before = x.before; as_told = x.as_told }) stored) (c.clear.ensures.none.any_moment tt closed);
  serves = serves_failed _ (range_joined c.args.base c.args.span c.end_if.ensures.ended.serves c.in_err-clear.ensures.none.serves);
}

-- what was there or no session, then no session, then no session or the new one
pub returns-clause-begun : goal.returns-clause-begun
returns-clause-begun g c = record {
  acknowledged = λ x stored.
      c.open.ensures.begun.acknowledged (record { body = c.args.body.now; most = x.most; size = x.size; fits = x.fits; cleared = c.in_ok-clear.ensures.cleared })
      (c.in_ok-clear.ensures.none.acknowledged tt (c.in_ok-end_if.ensures.ended.acknowledged (record { before = x.before; as_told = x.as_told }) stored));
  any_moment = λ x stored.
      let new = Some (new_stored c.args.body.now x.most x.size) in
      let closed = c.in_ok-end_if.ensures.ended.acknowledged (record { before = x.before; as_told = x.as_told }) stored in
      joined (WasOrIs c.args.base x.before None) (WasOrIs c.args.base None new) (WasNoneOrIs c.args.base x.before (Some (new_stored c.args.body.now x.most x.size)))
      (λ b left. elim left [ inl old ↦ inl old | inr gone ↦ inr (inl gone) ])
      (λ b left. inr left)
      (joined (WasOrIs c.args.base x.before None) (WasOrIs c.args.base None None) (WasOrIs c.args.base x.before None)
      (λ b left. left) (λ b left. elim left [ inl none ↦ inr none | inr none ↦ inr none ])
      (c.end_if.ensures.ended.any_moment (record { before = x.before; as_told = x.as_told }) stored) (c.clear.ensures.none.any_moment tt closed))
      (c.open.ensures.begun.any_moment (record { body = c.args.body.now; most = x.most; size = x.size; fits = x.fits; cleared = c.in_ok-clear.ensures.cleared })
      (c.in_ok-clear.ensures.none.acknowledged tt closed));
  serves = range_joined c.args.base c.args.span (range_joined c.args.base c.args.span c.end_if.ensures.ended.serves c.clear.ensures.none.serves) c.open.ensures.begun.serves;
}

pub returns-clause-kept : goal.returns-clause-kept
returns-clause-kept g c = c.open.ensures.kept
