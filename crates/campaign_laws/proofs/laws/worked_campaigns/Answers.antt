use Rattle.campaign_laws.proofs.WorkedCampaigns.{reported_so, refused_so, causes_so, sessions_so, counted_so, planned_so, events_so}
use Rattle.campaign_laws.proofs.laws.worked_campaigns.Goals as goal

pub returns-clause-reported : goal.returns-clause-reported
returns-clause-reported c = reported_so

pub returns-clause-refused : goal.returns-clause-refused
returns-clause-refused c = refused_so

pub returns-clause-causes : goal.returns-clause-causes
returns-clause-causes c = causes_so

pub returns-clause-sessions : goal.returns-clause-sessions
returns-clause-sessions c = sessions_so

pub returns-clause-counted : goal.returns-clause-counted
returns-clause-counted c = counted_so

pub returns-clause-planned : goal.returns-clause-planned
returns-clause-planned c = planned_so

pub returns-clause-events : goal.returns-clause-events
returns-clause-events c = events_so
