use Rattle.fuota_run.proofs.words.of_one.Goals as goal

pub returns : goal.returns
returns c = c.taking.ensures _ (record { shape = c.new.ensures.app; local = c.new.ensures.local })
