use Rattle.campaign_laws.proofs.HeadlineLives.{live}
use Rattle.campaign_laws.proofs.laws.sessions_live.Goals as goal

pub returns : goal.returns
returns c = live
