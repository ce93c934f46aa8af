use Rattle.report_lines.proofs.Outcomes.{some_of}
use Rattle.campaign_world.proofs.Heard.{hears_no_more}
use Rattle.campaign_world.proofs.HeardWorld.{worlds, worlds_listen}
use Rattle.campaign_world.proofs.hearing.is_over.Goals as goal

pub returns : goal.returns
returns c = λ over line. let one = some_of c.args.world.now.kept (rw (← c.is_over.ensures) over) in hears_no_more worlds worlds_listen c.args.world.now line one.0 one.1
