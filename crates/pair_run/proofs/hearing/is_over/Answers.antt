use Rattle.report_lines.proofs.Outcomes.{some_of}
use Rattle.campaign_world.proofs.Heard.{hears_no_more}
use Rattle.pair_run.proofs.HeardPair.{pairs, pairs_listen}
use Rattle.pair_run.proofs.hearing.is_over.Goals as goal

pub returns : goal.returns
returns c = λ over line. let one = some_of c.args.pair.now.kept (rw (← c.is_over.ensures) over) in hears_no_more pairs pairs_listen c.args.pair.now line one.0 one.1
