use Rattle.isolation_laws.proofs.EachHeadline.{lives}
use Rattle.isolation_laws.proofs.laws.each_session_lives.Goals as goal

pub returns : goal.returns
returns c = lives
