use Rattle.campaign_world.proofs.Outboxes.{rests_empty, none_moved}
use Rattle.campaign_world.proofs.happening.take_uplinks.Goals as goal

pub returns-else-has_uplink : goal.returns-else-has_uplink
returns-else-has_uplink c = record {
  rests = λ d stands stored few. rests_empty d _ (c.has_uplink.ensures.none c.if-has_uplink.false) stands stored;
  numbered = λ few. none_moved c.args.id _ _ (c.has_uplink.ensures.none c.if-has_uplink.false);
  made = λ count last all. all;
}
