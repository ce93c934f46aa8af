use Rattle.exchange_laws.proofs.Exchanging.{answers_update}
use Rattle.exchange_laws.proofs.laws.a_device_that_answers_is_updated.Goals as goal

-- src/laws.rt:25:1
pub returns : goal.returns
returns c = answers_update
