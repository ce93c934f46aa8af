use Rattle.frag_model.proofs.Files.{one_file, one_block}
use Rattle.frag_model.proofs.laws.one_block_is_one_file.Goals as goal

pub returns : goal.returns
returns c = record { file = one_file; block = one_block }
