use Rattle.campaign_laws.proofs.HeadlineCounts.{devices_there}
use Rattle.campaign_laws.proofs.laws.a_script_has_its_devices.Goals as goal

pub returns : goal.returns
returns c = devices_there
