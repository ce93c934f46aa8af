use Rattle.exchange_laws.proofs.OnceAtServer.{moves_once_at_server}
use Rattle.exchange_laws.proofs.laws.an_uplink_moves_a_server_once.Goals as goal

-- src/laws.rt:33:1
pub returns : goal.returns
returns c = moves_once_at_server
