use Rattle.campaign_laws.proofs.HeadlineLaw.{headline}
use Rattle.campaign_laws.proofs.laws.headline.Goals as goal

pub returns : goal.returns
returns c = headline
