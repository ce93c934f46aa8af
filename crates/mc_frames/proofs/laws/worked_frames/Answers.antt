use Rattle.mc_frames.proofs.WorkedFrames.{codes, frames, faults, order}
use Rattle.mc_frames.proofs.laws.worked_frames.Goals as goal

pub returns-clause-codes : goal.returns-clause-codes
returns-clause-codes c = codes

pub returns-clause-frames : goal.returns-clause-frames
returns-clause-frames c = frames

pub returns-clause-faults : goal.returns-clause-faults
returns-clause-faults c = faults

pub returns-clause-order : goal.returns-clause-order
returns-clause-order c = order
