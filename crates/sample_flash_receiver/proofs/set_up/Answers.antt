use Rattle.sample_flash_receiver.proofs.Serves.{as_receiver, all_serves, all_stays}
use Rattle.sample_flash_receiver.proofs.set_up.Goals as goal

pub returns-clause-serves : goal.returns-clause-serves
returns-clause-serves g c = all_serves c.args.receiver c.setup.result (as_receiver c.args.receiver c.requires.receiver c.args.req c.setup.ensures.serves)

pub returns-clause-stays : goal.returns-clause-stays
returns-clause-stays g c = all_stays c.args.receiver c.setup.result c.requires.receiver c.setup.ensures.serves
