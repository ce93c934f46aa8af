use Rattle.campaign_laws.proofs.Once.{an_uplink_moves_once}
use Rattle.campaign_laws.proofs.laws.an_uplink_moves_once.Goals as goal

pub returns : goal.returns
returns c = an_uplink_moves_once
