use Rattle.clock_sync.proofs.WorkedClocks.{worked}
use Rattle.clock_sync.proofs.laws.worked_clocks.Goals as goal

pub returns : goal.returns
returns c = worked
