use Rattle.isolation_laws.proofs.AtMoments.{moments}
use Rattle.isolation_laws.proofs.laws.others_events_are_moments.Goals as goal

pub returns : goal.returns
returns c = moments
