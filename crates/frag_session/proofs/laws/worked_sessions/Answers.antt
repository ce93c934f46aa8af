use Rattle.frag_session.proofs.WorkedSessions.{setups, sessions, fragments, news, status}
use Rattle.frag_session.proofs.laws.worked_sessions.Goals as goal

pub returns-clause-setups : goal.returns-clause-setups
returns-clause-setups c = setups

pub returns-clause-sessions : goal.returns-clause-sessions
returns-clause-sessions c = sessions

pub returns-clause-fragments : goal.returns-clause-fragments
returns-clause-fragments c = fragments

pub returns-clause-status : goal.returns-clause-status
returns-clause-status c = status

pub returns-clause-news : goal.returns-clause-news
returns-clause-news c = news
