use Rattle.campaign_server.proofs.Wrapping.{wrapped_is}
use Rattle.campaign_server.proofs.laws.wrapped_key_is_the_one.Goals as goal

pub returns : goal.returns
returns c = wrapped_is
