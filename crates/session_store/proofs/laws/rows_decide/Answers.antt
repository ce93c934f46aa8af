use Rattle.session_store.proofs.SizedRooms.{rows_decide}
use Rattle.session_store.proofs.laws.rows_decide.Goals as goal

pub returns : goal.returns
returns c = rows_decide
