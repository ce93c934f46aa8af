use Rattle.payload_replay.proofs.ReplayLaw.{replay_headline}
use Rattle.payload_replay.proofs.laws.replay_is_decided_at_first.Goals as goal

pub returns : goal.returns
returns c = replay_headline
