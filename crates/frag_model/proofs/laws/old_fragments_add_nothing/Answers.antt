use Rattle.frag_model.proofs.News.{old_add_nothing}
use Rattle.frag_model.proofs.laws.old_fragments_add_nothing.Goals as goal

pub returns : goal.returns
returns c = old_add_nothing
