use Rattle.std.proofs.Common.{arith, ap, length, subst, ◌∙◌}
use Rattle.campaign_world.specs.HeldLog.{HasRoom}
use Rattle.campaign_world.specs.WorldInside.{IsMadeBy}
use Rattle.campaign_world.proofs.Zips.{all_more}
use Rattle.device_core.proofs.Outboxes.{one_taken}
use Rattle.campaign_world.proofs.Outboxes.{one_moved}
use Rattle.campaign_world.proofs.happening.take_held.Goals as goal

pub push-requires : goal.push-requires
push-requires c = record {
  placed = omega (arith, c.loop-left.invariant.room.placed, c.loop-left-test.true);
  fits = omega (arith, c.loop-left.invariant.room.fits, c.loop-left-test.true);
}

pub loop-left-preserved : goal.loop-left-preserved
loop-left-preserved c = record {
  stands = λ d stands. one_taken d _ _ _ c.take_uplink_into.ensures.makes.stands c.take_uplink_into.ensures.oldest (c.loop-left.invariant.stands d stands);
  taken = one_moved c.args.id _ _ _ _ _ _ c.take_uplink_into.ensures.oldest c.push.ensures.items c.loop-left.invariant.taken;
  made = λ count last all. rw (c.push.ensures.items) (all_more (IsMadeBy count) _ _ (c.loop-left.invariant.made count last all) (record { first = c.requires.first; last = last; single = c.take_uplink_into.ensures.uplink }));
  count = omega (arith, c.loop-left.invariant.count, ap length c.take_uplink_into.ensures.oldest);
  few = omega (arith, c.loop-left.invariant.few);
  room = c.push.ensures.room _ (subst (λ k. HasRoom k c.loop-left.uplinks) (omega (arith, c.loop-left-test.true)) c.loop-left.invariant.room);
  same = c.take_uplink_into.ensures.aside.untouched ∙ c.loop-left.invariant.same;
}
