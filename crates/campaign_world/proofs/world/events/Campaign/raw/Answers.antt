use Rattle.std.proofs.Common.{◌+◌, Some, refl}
use Rattle.device_core.specs.Events.{Receives}
use Rattle.campaign_world.proofs.world.events.Campaign.raw.Goals as goal

pub returns-clause-taken : goal.returns-clause-taken
returns-clause-taken c = c.happen.ensures.taken c.args.lines (λ w. Some (Receives w.time c.args.word (w.lines + 1) c.args.down.now))
    (λ here kept devices. rw (c.moment-moment.ensures.value) refl)
