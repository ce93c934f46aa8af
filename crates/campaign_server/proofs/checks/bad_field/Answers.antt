use Rattle.campaign_server.proofs.Plans.{plan_of_none}
use Rattle.campaign_server.proofs.checks.bad_field.Goals as goal

pub returns-clause-fine : goal.returns-clause-fine
returns-clause-fine c = λ none. plan_of_none c.args.len c.args.plan.now c.first_bad.result c.first_bad.ensures none
