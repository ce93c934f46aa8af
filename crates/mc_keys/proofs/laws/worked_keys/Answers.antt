use Rattle.mc_keys.proofs.WorkedKeys.{keys, session_keys}
use Rattle.mc_keys.proofs.laws.worked_keys.Goals as goal

pub returns-clause-keys : goal.returns-clause-keys
returns-clause-keys c = keys

pub returns-clause-session_keys : goal.returns-clause-session_keys
returns-clause-session_keys c = session_keys
