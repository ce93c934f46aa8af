use Rattle.campaign_laws.proofs.Verdicts.{verdicts}
use Rattle.campaign_laws.proofs.laws.sessions_are_decided_at_first.Goals as goal

pub returns : goal.returns
returns c = verdicts
