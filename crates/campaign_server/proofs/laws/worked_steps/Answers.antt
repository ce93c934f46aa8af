use Rattle.campaign_server.proofs.WorkedStatuses.{statuses}
use Rattle.campaign_server.proofs.WorkedSaving.{saving}
use Rattle.campaign_server.proofs.WorkedSteps.{asking, answers, times, sending, plans}
use Rattle.campaign_server.proofs.laws.worked_steps.Goals as goal

pub returns-clause-asking : goal.returns-clause-asking
returns-clause-asking c = asking

pub returns-clause-answers : goal.returns-clause-answers
returns-clause-answers c = answers

pub returns-clause-times : goal.returns-clause-times
returns-clause-times c = times

pub returns-clause-sending : goal.returns-clause-sending
returns-clause-sending c = sending

pub returns-clause-plans : goal.returns-clause-plans
returns-clause-plans c = plans

pub returns-clause-saving : goal.returns-clause-saving
returns-clause-saving c = saving

pub returns-clause-statuses : goal.returns-clause-statuses
returns-clause-statuses c = statuses
