use Rattle.exchange_laws.proofs.EachUpdating.{each_answers_update}
use Rattle.exchange_laws.proofs.laws.each_device_that_answers_is_updated.Goals as goal

pub returns : goal.returns
returns c = each_answers_update
