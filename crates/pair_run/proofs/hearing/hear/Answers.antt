use Rattle.campaign_world.proofs.Heard.{hears}
use Rattle.pair_run.proofs.HeardPair.{pairs, pairs_listen}
use Rattle.pair_run.proofs.hearing.hear.Goals as goal

pub returns : goal.returns
returns c = hears pairs pairs_listen c.args.pair.now c.line-kept.new.self c.args.line.now c.line-kept.result c.line-kept.ensures.step c.line-kept.ensures.kept c.line-kept.ensures.same
