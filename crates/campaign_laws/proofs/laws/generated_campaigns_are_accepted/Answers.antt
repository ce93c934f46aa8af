use Rattle.campaign_laws.proofs.Seeds.{generated}
use Rattle.campaign_laws.proofs.laws.generated_campaigns_are_accepted.Goals as goal

pub returns : goal.returns
returns c = generated
