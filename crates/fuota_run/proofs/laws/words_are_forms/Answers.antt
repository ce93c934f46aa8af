use Rattle.fuota_run.proofs.FormWords.{words_are_forms}
use Rattle.fuota_run.proofs.laws.words_are_forms.Goals as goal

pub returns : goal.returns
returns c = words_are_forms
