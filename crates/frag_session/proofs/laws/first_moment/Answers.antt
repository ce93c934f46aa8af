use Rattle.frag_session.proofs.FirstMoments.{decided_at_first}
use Rattle.frag_session.proofs.laws.first_moment.Goals as goal

pub returns : goal.returns
returns c = decided_at_first
