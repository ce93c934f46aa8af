use Rattle.device_core.proofs.Keeping.{no_rise}
use Rattle.campaign_world.proofs.Outboxes.{stored_aside}
use Rattle.campaign_world.proofs.OutboxRoom.{delivered_few, aired_few, woken_few}
use Rattle.campaign_world.proofs.AtRest.{all_taken, none_held, raised, undisturbed}
use Rattle.campaign_world.proofs.happening.happen_at.Goals as goal

pub returns-in-Deliver : goal.returns-in-Deliver
returns-in-Deliver c = rw (c.in-Deliver.is) (all_taken _ c.args.id c.args.device.now _ _ _ _
    (λ d rests. record {
      stands = (c.receive-delivered.ensures.makes (λ is. no_rise (c.receive-delivered.ensures.fault is))).stands d rests.stands;
      stored = c.receive-delivered.ensures.stored (λ is. no_rise (c.receive-delivered.ensures.fault is)) d rests.stands rests.stored;
      few = delivered_few _ _ _ _ d (none_held _ d rests);
    })
    c.take_uplinks.ensures)

pub returns-in-Radio : goal.returns-in-Radio
returns-in-Radio c = rw (c.in-Radio.is) (all_taken _ c.args.id c.args.device.now _ _ _ _
    (λ d rests. record {
      stands = (c.radio-heard.ensures.makes (λ is. no_rise (c.radio-heard.ensures.fault is))).stands d rests.stands;
      stored = c.radio-heard.ensures.stored (λ is. no_rise (c.radio-heard.ensures.fault is)) d rests.stands rests.stored;
      few = aired_few _ _ _ _ d (none_held _ d rests);
    })
    c.take_uplinks-in-Radio.ensures)

pub returns-in-Wake : goal.returns-in-Wake
returns-in-Wake c = rw (c.in-Wake.is) (all_taken _ c.args.id c.args.device.now _ _ _ _
    (λ d rests. record {
      stands = c.wake-asked.ensures.makes.stands d rests.stands;
      stored = stored_aside _ _ _ d c.wake-asked.ensures.aside rests.stands rests.stored;
      few = woken_few _ d (none_held _ d rests);
    })
    c.take_uplinks-in-Wake.ensures)

pub returns-in-Raise : goal.returns-in-Raise
returns-in-Raise c = rw (c.in-Raise.is) (raised c.args.id c.args.device.now _ _ c.raise.ensures.becomes c.raise.ensures.aside)

pub returns-in-Power : goal.returns-in-Power
returns-in-Power c = rw (c.in-Power.is) (undisturbed c.args.id _ _)
