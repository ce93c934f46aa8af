use Rattle.isolation_laws.proofs.AtMoments.{scripts}
use Rattle.isolation_laws.proofs.laws.scripts_are_isolated.Goals as goal

pub returns : goal.returns
returns c = scripts
