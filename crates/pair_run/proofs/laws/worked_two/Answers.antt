use Rattle.pair_run.proofs.WorkedTwo.{reported_so, sessions_so, refused_so, targets_so}
use Rattle.pair_run.proofs.laws.worked_two.Goals as goal

pub returns-clause-reports : goal.returns-clause-reports
returns-clause-reports c = reported_so

pub returns-clause-sessions : goal.returns-clause-sessions
returns-clause-sessions c = sessions_so

pub returns-clause-refused : goal.returns-clause-refused
returns-clause-refused c = refused_so

pub returns-clause-targets : goal.returns-clause-targets
returns-clause-targets c = targets_so
