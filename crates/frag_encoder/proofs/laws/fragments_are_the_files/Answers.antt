use Rattle.frag_encoder.proofs.Blocks.{block_shaped, block_recovered, block_fits}
use Rattle.frag_encoder.proofs.laws.fragments_are_the_files.Goals as goal

pub returns : goal.returns
returns c = record { shaped = block_shaped; recovered = block_recovered; fits = block_fits }
