use Rattle.fuota_run.proofs.HeadlineAnswered.{seed_answered}
use Rattle.fuota_run.proofs.laws.seeds_are_summed_up.Goals as goal

pub returns : goal.returns
returns c = seed_answered
