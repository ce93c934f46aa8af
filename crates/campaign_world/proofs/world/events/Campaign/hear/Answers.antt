use Rattle.std.proofs.Common.{◌+◌, Some, refl}
use Rattle.device_core.specs.Events.{HearsBytes}
use Rattle.campaign_world.proofs.world.events.Campaign.hear.Goals as goal

pub returns-clause-taken : goal.returns-clause-taken
returns-clause-taken c = c.happen_rarely.ensures.taken c.args.lines (λ w. Some (HearsBytes w.time c.args.word (w.lines + 1) c.args.bytes.now))
    (λ here kept devices. rw (c.moment-moment.ensures.value) refl)
