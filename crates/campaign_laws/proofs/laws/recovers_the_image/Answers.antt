use Rattle.campaign_laws.proofs.HeadlineLaw.{recovers}
use Rattle.campaign_laws.proofs.Recovered.{recovers_own}
use Rattle.campaign_laws.proofs.laws.recovers_the_image.Goals as goal

pub returns-clause-image : goal.returns-clause-image
returns-clause-image c = recovers

pub returns-clause-own : goal.returns-clause-own
returns-clause-own c = recovers_own
