use Rattle.fuota_run.proofs.words.of_three.Goals as goal

pub returns : goal.returns
returns c = c.taking.ensures _ c.in_ok-of_two.ensures
