use Rattle.campaign_laws.proofs.Ranks.{past_moves_none}
use Rattle.campaign_laws.proofs.laws.a_past_answer_moves_none.Goals as goal

pub returns : goal.returns
returns c = past_moves_none
