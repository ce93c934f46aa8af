use Rattle.payload_replay.proofs.Payloads.{decode_one, decode_always}
use Rattle.payload_replay.proofs.laws.decode_has_one_answer.Goals as goal

pub returns-clause-once : goal.returns-clause-once
returns-clause-once c = decode_one

pub returns-clause-always : goal.returns-clause-always
returns-clause-always c = decode_always
