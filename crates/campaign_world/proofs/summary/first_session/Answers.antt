use Rattle.std.proofs.Common.{refl}
use Rattle.campaign_world.proofs.Lateness.{first_view}
use Rattle.campaign_world.proofs.Steps.{none_now}
use Rattle.campaign_world.proofs.summary.first_session.Goals as goal

pub returns-in-None-clause-heard : goal.returns-in-None-clause-heard
returns-in-None-clause-heard c = λ d rests. rw (first_view c.args.late.now d (none_now _ _ _ c.device.ensures c.in-None.is) rests) refl

pub returns-in-None-clause-file : goal.returns-in-None-clause-file
returns-in-None-clause-file c = λ d rests. rw (first_view c.args.late.now d (none_now _ _ _ c.device.ensures c.in-None.is) rests) refl
