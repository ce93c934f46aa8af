use Rattle.campaign_world.proofs.Lateness.{first_file}
use Rattle.campaign_world.proofs.Steps.{none_now}
use Rattle.campaign_world.proofs.recovery.recovered_by.Goals as goal

pub returns-in-None-clause-why : goal.returns-in-None-clause-why
returns-in-None-clause-why c = λ d rests. first_file c.args.late.now d (none_now _ _ _ c.device.ensures c.in-None.is) rests
