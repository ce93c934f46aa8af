use Rattle.payload_replay.proofs.CaptureLaw.{ends_as_replay}
use Rattle.payload_replay.proofs.laws.capture_ends_as_replay.Goals as goal

pub returns : goal.returns
returns c = ends_as_replay
