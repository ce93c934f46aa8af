use Rattle.flash_session.proofs.WorkedBytes.{spellings, session, places, calls}
use Rattle.flash_session.proofs.laws.worked_bytes.Goals as goal

pub returns-clause-spellings : goal.returns-clause-spellings
returns-clause-spellings c = spellings

pub returns-clause-session : goal.returns-clause-session
returns-clause-session c = session

pub returns-clause-foreign : goal.returns-clause-foreign
returns-clause-foreign c = places

pub returns-clause-calls : goal.returns-clause-calls
returns-clause-calls c = calls
