use Rattle.std.proofs.Common.{subst}
use Rattle.campaign_world.specs.Said.{Reached}
use Rattle.campaign_world.specs.Making.{after_said}
use Rattle.campaign_world.specs.HeldWorld.{HeldCampaign, Plays}
use Rattle.campaign_world.proofs.Beside.{plays_on}
use Rattle.campaign_world.proofs.world.phase.Phase.reach.Goals as goal

pub returns-in_ok-campaign-in-Planning-clause-taken : goal.returns-in_ok-campaign-in-Planning-clause-taken
returns-in_ok-campaign-in-Planning-clause-taken c = rw (c.in-Planning.is)
    (subst (λ (h : HeldCampaign). Plays c.args.lines h c.raw-played.new.self c.raw-played.result
    (λ world. after_said world (Reached c.args.device c.args.word c.args.down.now)))
    c.in_ok-campaign-in-Planning.ensures.begun c.raw-played.ensures.taken c.in-Planning.planning.section)

pub returns-in-Playing-clause-taken : goal.returns-in-Playing-clause-taken
returns-in-Playing-clause-taken c = rw (c.in-Playing.is)
    (plays_on c.args.lines c.in-Playing.has_ended _ _ c.raw.result _ (rw c.in-Playing.is at c.requires.comes) c.raw.ensures.taken)
