use Rattle.fuota_run.proofs.FormWords.{other_counts}
use Rattle.fuota_run.proofs.laws.other_counts_are_no_forms.Goals as goal

pub returns : goal.returns
returns c = other_counts
