-- What an event makes of a device that rests, whose uplinks are then taken.
use Rattle.std.proofs.Common.{◌≡◌, ℕ, ◌≤◌, List, [], length, refl, sym, ap, ◌∙◌, subst, append-nil}
use Rattle.device_core.specs.Device.{DeviceState}
use Rattle.device_core.specs.Events.{uplinks_taken}
use Rattle.device_core.specs.Firmware.{after_migration}
use Rattle.device_core.specs.HeldDevice.{HeldDevice, DeviceStands, Becomes, GoesAside}
use Rattle.device_core.specs.declared.uplink.Uplink.{Uplink}
use Rattle.device_core.proofs.Outboxes.{outbox_is}
use Rattle.flash_session.specs.Flashes.{Cells}
use Rattle.campaign_world.specs.declared.numbered.NumberedUplink.{NumberedUplink}
use Rattle.campaign_world.specs.HeldLate.{IsStored, IsAtRest}
use Rattle.campaign_world.specs.HeldEvent.{TakesUplinks, Happens, numbered_after}
use Rattle.campaign_world.proofs.Outboxes.{rests_raised}
use Rattle.campaign_world.proofs.OutboxRoom.{numbered_few}

-- after the event, before its uplinks are taken
pub record IsThere (held : HeldDevice Cells) (d : DeviceState) : Type 0 where
  pub stands : DeviceStands held d
  pub stored : IsStored held d
  pub few : length d.outbox ≤ 8

-- its uplinks are taken
pub all_taken : (after : DeviceState → DeviceState) (id : ℕ) (old there new : HeldDevice Cells) (uplinks more : List NumberedUplink)
    → ((d : DeviceState) → IsAtRest old d → IsThere there (after d)) → TakesUplinks id there new uplinks more
    → Happens IsAtRest after id old new uplinks more
all_taken after id old there new uplinks more comes takes = record {
  rests = λ d rests. let is = comes d rests in takes.rests (after d) is.stands is.stored is.few;
  numbered = λ d rests. let is = comes d rests in numbered_few there (after d) id uplinks more is.stands is.few takes.numbered;
  made = takes.made;
}

-- a device at rest holds no uplink
pub none_held : (held : HeldDevice Cells) (d : DeviceState) → IsAtRest held d → d.outbox ≡ []
none_held held d rests = outbox_is held d rests.stands ∙ rests.empty

-- an event by which it makes none
pub none_made : (after : DeviceState → DeviceState) (id : ℕ) (old new : HeldDevice Cells) (uplinks : List NumberedUplink)
    → ((d : DeviceState) → IsAtRest old d → IsAtRest new (uplinks_taken (after d))) → ((d : DeviceState) → (after d).outbox ≡ d.outbox)
    → Happens IsAtRest after id old new uplinks uplinks
none_made after id old new uplinks comes same = record {
  rests = comes;
  numbered = λ d rests. sym (ap (λ (us : List Uplink). numbered_after uplinks id us) (same d ∙ none_held old d rests) ∙ append-nil uplinks);
  made = λ count last all. all;
}

pub raised : (id : ℕ) (old new : HeldDevice Cells) (uplinks : List NumberedUplink) → Becomes old new after_migration
    → GoesAside old new after_migration → Happens IsAtRest after_migration id old new uplinks uplinks
unfolding after_migration
raised id old new uplinks becomes aside =
    none_made after_migration id old new uplinks (λ d rests. rests_raised old new d becomes aside rests) (λ d. refl)

-- what rests as it did rests as if its uplinks were taken
still_rests : (held : HeldDevice Cells) (d : DeviceState) → IsAtRest held d → IsAtRest held (uplinks_taken d)
still_rests held d rests =
    subst (λ (us : List Uplink). IsAtRest held (record d { outbox = us })) (none_held held d rests) rests

-- a device at which nothing happens
pub undisturbed : (id : ℕ) (held : HeldDevice Cells) (uplinks : List NumberedUplink) → Happens IsAtRest (λ d. d) id held held uplinks uplinks
undisturbed id held uplinks = none_made (λ d. d) id held held uplinks (still_rests held) (λ d. refl)
