use Rattle.fuota_run.proofs.CaptureAnswered.{capture_answered}
use Rattle.fuota_run.proofs.laws.capture_is_answered.Goals as goal

pub returns : goal.returns
returns c = capture_answered
