use Rattle.frag_model.proofs.Uncoded.{excess-uncoded}
use Rattle.frag_model.proofs.Enough.{enough_after}
use Rattle.frag_model.proofs.laws.enough_rows_for_the_unheard.Goals as goal

pub returns : goal.returns
returns c = record { before = excess-uncoded; after = enough_after }
