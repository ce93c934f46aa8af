use Rattle.payload_replay.proofs.ReplayLines.{replay_one, replay_always}
use Rattle.payload_replay.proofs.laws.replay_has_one_answer.Goals as goal

pub returns-clause-once : goal.returns-clause-once
returns-clause-once c = replay_one

pub returns-clause-always : goal.returns-clause-always
returns-clause-always c = replay_always
