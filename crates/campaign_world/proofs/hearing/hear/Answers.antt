use Rattle.campaign_world.proofs.Heard.{hears}
use Rattle.campaign_world.proofs.HeardWorld.{worlds, worlds_listen}
use Rattle.campaign_world.proofs.hearing.hear.Goals as goal

pub returns : goal.returns
returns c = hears worlds worlds_listen c.args.world.now c.line-kept.new.self c.args.line.now c.line-kept.result c.line-kept.ensures.step c.line-kept.ensures.kept c.line-kept.ensures.same
