use Rattle.isolation_laws.proofs.GroupsApart.{cross_in_scripts}
use Rattle.isolation_laws.proofs.laws.frames_cross_in_scripts.Goals as goal

pub returns : goal.returns
returns c = cross_in_scripts
