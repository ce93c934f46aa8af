use Rattle.exchange_laws.proofs.WorkedExchange.{worked_exchange}
use Rattle.exchange_laws.proofs.laws.worked_exchange.Goals as goal

pub returns : goal.returns
returns c = worked_exchange
