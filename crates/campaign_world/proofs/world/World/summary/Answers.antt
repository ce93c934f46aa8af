use Rattle.std.proofs.Common.{length, ap}
use Rattle.campaign_world.proofs.Counting.{summary_told}
use Rattle.campaign_world.proofs.world.World.summary.Goals as goal

pub returns-clause-summary : goal.returns-clause-summary
returns-clause-summary c = λ world stands unkept. (
  c.in_ok-played.ensures.ended world stands unkept,
  summary_told _ world _ _ _ stands c.in_ok-played.ensures.server (ap length c.in_ok-played.ensures.sent) (c.in_ok-summary.ensures world.devices (rw (c.in_ok-played.ensures.devices) stands.devices)),
)
