use Rattle.campaign_laws.proofs.Independence.{devices_are_independent}
use Rattle.campaign_laws.proofs.laws.devices_are_independent.Goals as goal

pub returns : goal.returns
returns c = devices_are_independent
