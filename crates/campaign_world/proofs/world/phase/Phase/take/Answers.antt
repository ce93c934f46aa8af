use Rattle.campaign_world.proofs.FormCauses.{event_comes}
use Rattle.campaign_world.proofs.Steps.{played_step}
use Rattle.campaign_world.proofs.world.phase.Phase.take.Goals as goal

pub returns-in-Playing-clause-taken : goal.returns-in-Playing-clause-taken
returns-in-Playing-clause-taken c = rw (c.in-Playing.is, c.is_end.ensures)
    (played_step c.args.lines _ _ _ c.event.result c.args.form.now
    (event_comes c.in-Playing.has_ended c.args.form.now (rw c.in-Playing.is at c.requires.in_order)) c.event.ensures.taken)
