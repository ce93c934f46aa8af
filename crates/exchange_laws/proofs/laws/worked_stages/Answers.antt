use Rattle.exchange_laws.proofs.WorkedStages.{worked_stages}
use Rattle.exchange_laws.proofs.laws.worked_stages.Goals as goal

pub returns : goal.returns
returns c = worked_stages
