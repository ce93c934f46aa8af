use Rattle.campaign_world.proofs.Lines.{told}
use Rattle.campaign_world.proofs.world.World.report.Goals as goal

pub returns-clause-report : goal.returns-clause-report
returns-clause-report c = λ world stands unkept. (
  c.in_ok-played.ensures.ended world stands unkept,
  told _ world _ _ stands c.in_ok-played.ensures.server (c.in_ok-report.ensures world.devices (rw (c.in_ok-played.ensures.devices) stands.devices)),
)
