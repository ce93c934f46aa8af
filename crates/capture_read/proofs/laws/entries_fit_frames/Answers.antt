use Rattle.capture_read.proofs.Within.{entry_within}
use Rattle.capture_read.proofs.laws.entries_fit_frames.Goals as goal

pub returns : goal.returns
returns c = entry_within
