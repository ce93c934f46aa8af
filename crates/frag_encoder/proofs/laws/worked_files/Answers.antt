use Rattle.frag_encoder.proofs.WorkedFiles.{files, sizes}
use Rattle.frag_encoder.proofs.laws.worked_files.Goals as goal

pub returns-clause-files : goal.returns-clause-files
returns-clause-files c = files

pub returns-clause-sizes : goal.returns-clause-sizes
returns-clause-sizes c = sizes
