use Rattle.aes_block.proofs.WorkedBlocks.{worked}
use Rattle.aes_block.proofs.laws.worked_blocks.Goals as goal

pub returns : goal.returns
returns c = worked
