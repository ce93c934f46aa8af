use Rattle.sample_server.proofs.campaign.Goals as goal

pub returns-clause-bad_plan : goal.returns-clause-bad_plan
returns-clause-bad_plan c = λ field. rw (← c.plan_for.ensures) (c.new.ensures.bad_plan field)
