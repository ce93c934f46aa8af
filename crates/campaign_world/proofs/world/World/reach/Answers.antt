use Rattle.campaign_world.proofs.Steps.{one_more_stands}
use Rattle.campaign_world.proofs.world.World.reach.Goals as goal

pub returns-in-Ok-clause-taken : goal.returns-in-Ok-clause-taken
returns-in-Ok-clause-taken c = rw (← c.self.view_is) (λ world stands. one_more_stands _ _ (c.in-Ok.ensures.taken c.self.inside.kept world stands))
