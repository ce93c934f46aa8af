use Rattle.campaign_world.proofs.Steps.{one_more_stands}
use Rattle.campaign_world.proofs.world.World.pass.Goals as goal

pub returns-clause-passed : goal.returns-clause-passed
returns-clause-passed c = rw (← c.self.view_is) (λ world stands. one_more_stands _ _ stands)
