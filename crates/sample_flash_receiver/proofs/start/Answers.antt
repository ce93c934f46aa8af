use Rattle.sample_flash_receiver.proofs.start.Goals as goal

pub returns-clause-opens : goal.returns-clause-opens
returns-clause-opens g c = rw c.requires.arena at c.open.ensures.opens

pub returns-clause-opened : goal.returns-clause-opened
returns-clause-opened g c = rw c.requires.arena at c.open.ensures.opened
