use Rattle.flash_session.proofs.Knowing.{fixed_memory}
use Rattle.flash_session.proofs.fixed_memory.fixed_memory_knows_all.Goals as goal

pub returns : goal.returns
returns c = fixed_memory
