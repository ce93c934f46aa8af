use Rattle.std.proofs.Common.{◌∙◌}
use Rattle.campaign_world.proofs.world.events.Campaign.raw_air.Goals as goal

pub returns-clause-taken : goal.returns-clause-taken
returns-clause-taken c = rw (← (c.as_slice.ensures.value ∙ c.put.ensures)) c.hear.ensures.taken
