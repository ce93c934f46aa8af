use Rattle.fuota_run.proofs.NamesAsked.{names_are_words}
use Rattle.fuota_run.proofs.laws.names_are_words.Goals as goal

pub returns : goal.returns
returns c = names_are_words
