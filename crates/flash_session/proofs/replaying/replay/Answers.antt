use Rattle.std.proofs.Common.{◌≡◌, ℕ, refl, subst, arith, rules}
use Rattle.flash_session.specs.Replayed.{Replayed}
use Rattle.flash_session.proofs.Okay.{none_ok}
use Rattle.flash_session.proofs.Runs.{same_stays}
use Rattle.flash_session.proofs.Serves.{serves_none, serves_ok, serves_failed, reads_joined}
use Rattle.flash_session.proofs.Still.{same_self, same_joined, found_true, found_false}
use Rattle.flash_session.proofs.HeardAgain.{none_replayed}
use Rattle.flash_session.proofs.replaying.replay.Goals as goal

pub loop-k-init : goal.loop-k-init
loop-k-init g c = record {
  replayed = λ s none stands. none_replayed s c.args.slot.now _ c.args.base c.args.size none stands;
  area = refl;
  stays = same_self _;
  serves = serves_none same_stays;
}

pub loop-k-preserved : goal.loop-k-preserved
loop-k-preserved g c = record {
  replayed = λ s none stands. found_true _ _ _ c.if-not-branch.false (c.in_ok-replay_one.ensures.replayed.told s (c.loop-k.invariant.replayed s none stands));
  area = search rules;
  stays = same_joined c.replay_one.ensures.replayed.stays c.loop-k.invariant.stays;
  serves = serves_ok (reads_joined c.loop-k.invariant.serves c.replay_one.ensures.replayed.serves);
}

pub returns-in_err-replay_one-clause-replayed : goal.returns-in_err-replay_one-clause-replayed
returns-in_err-replay_one-clause-replayed g c = record {
  told = none_ok _ _ c.from_residual.ensures.0;
  stays = same_joined c.replay_one.ensures.replayed.stays c.loop-k.invariant.stays;
  serves = serves_failed _ (reads_joined c.loop-k.invariant.serves c.in_err-replay_one.ensures.replayed.serves);
}

pub returns-then-not-branch-clause-replayed : goal.returns-then-not-branch-clause-replayed
returns-then-not-branch-clause-replayed g c = record {
  told = λ s none stands. (omega (arith, c.loop-k-test.true), found_false _ _ _ c.if-not-branch.true (c.in_ok-replay_one.ensures.replayed.told s (c.loop-k.invariant.replayed s none stands)));
  stays = same_joined c.replay_one.ensures.replayed.stays c.loop-k.invariant.stays;
  serves = serves_ok (reads_joined c.loop-k.invariant.serves c.replay_one.ensures.replayed.serves);
}

pub returns-clause-replayed : goal.returns-clause-replayed
returns-clause-replayed g c = record {
  told = λ s none stands.
      let all : c.loop-k.k ≡ c.args.records = omega (arith, c.loop-k-test.false, c.loop-k.auto.k-end) in
      subst (λ (k : ℕ). Replayed s c.loop-k.slot (g.F.Flash.seen c.loop-k.flash).holds c.args.base c.args.size k) all (c.loop-k.invariant.replayed s none stands);
  stays = c.loop-k.invariant.stays;
  serves = serves_ok c.loop-k.invariant.serves;
}
