use Rattle.std.proofs.Common.{◌∙◌, sym, subst}
use Rattle.campaign_world.specs.Making.{at_events, after_form}
use Rattle.campaign_world.specs.HeldWorld.{HeldCampaign, Plays}
use Rattle.campaign_world.specs.PhaseInside.{planned_by}
use Rattle.campaign_world.proofs.Steps.{played_step}
use Rattle.campaign_world.proofs.world.phase.Phase.plan.Goals as goal

pub returns-then-not-is_event_or_end-clause-taken : goal.returns-then-not-is_event_or_end-clause-taken
returns-then-not-is_event_or_end-clause-taken c = rw (c.in-Planning.is) c.line.ensures.taken

pub returns-clause-taken : goal.returns-clause-taken
returns-clause-taken c = rw (c.in-Planning.is, c.is_end.ensures)
    (played_step c.args.lines c.in-Planning.planning.section (planned_by c.in-Planning.planning) c.event-played.new.self c.event-played.result c.args.form.now
    (sym c.is_event_or_end.ensures ∙ c.if-not-is_event_or_end.false)
    (subst (λ (h : HeldCampaign). Plays c.args.lines h c.event-played.new.self c.event-played.result (λ world. at_events (after_form world c.args.form.now)))
    c.in_ok-campaign.ensures.begun c.event-played.ensures.taken))
