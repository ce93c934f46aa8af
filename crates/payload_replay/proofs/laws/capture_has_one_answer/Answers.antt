use Rattle.payload_replay.proofs.CaptureLines.{capture_one, capture_always}
use Rattle.payload_replay.proofs.laws.capture_has_one_answer.Goals as goal

pub returns-clause-once : goal.returns-clause-once
returns-clause-once c = capture_one

pub returns-clause-always : goal.returns-clause-always
returns-clause-always c = capture_always
