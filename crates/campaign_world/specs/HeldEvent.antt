-- What happens at a device of a campaign, as its calls see it, and how it changes the device and the uplinks.
use Rattle.std.specs.Prelude.{◌≡◌, ℕ, ◌≤◌, ◌-◌, Bool, true, false, List, ◌++◌, length, map, slice_get, slice_set, Option, Some, None, Result}
use Rattle.device_core.specs.declared.uplink.Uplink.{Uplink}
use Rattle.device_core.specs.Device.{DeviceState, outbox_size}
use Rattle.device_core.specs.Events.{Event as DeviceEvent, Wakes, Receives, HearsBytes, Migrates, event_step, uplinks_taken}
use Rattle.device_core.specs.HeldDevice.{HeldDevice, DeviceStands}
use Rattle.flash_session.specs.Flashes.{Cells}
use Rattle.report_lines.specs.declared.faults.LineError.{LineError}
use Rattle.campaign_world.specs.declared.happening.Event.{Event}
use Rattle.campaign_world.specs.declared.happening.Event.TheVariants as event
use Rattle.campaign_world.specs.declared.numbered.NumberedUplink.{NumberedUplink}
use Rattle.campaign_world.specs.declared.section.Section.{Section}
use Rattle.campaign_world.specs.World.{WorldState}
use Rattle.campaign_world.specs.Making.{made_by, with_event}
use Rattle.campaign_world.specs.HeldLate.{Late, IsStored, IsAtRest}
use Rattle.campaign_world.specs.HeldWorld.{HeldCampaign, DevicesRest, Plays, held_with, world_of}
use Rattle.campaign_world.specs.WorldInside.{StayMade}

-- ---- an event

-- the event of the definition; none where power comes, which changes no record of a device
abbrev pub happening_of : Event → Option DeviceEvent
happening_of (event.Deliver down at) = Some (Receives at.t at.word at.mark down.now)
happening_of (event.Radio bytes at) = Some (HearsBytes at.t at.word at.mark bytes.now)
happening_of (event.Wake time) = Some (Wakes time)
happening_of event.Raise = Some Migrates
happening_of event.Power = None

-- the time at which it comes, in ms; 0 where it makes no difference
abbrev pub time_of : Event → ℕ
time_of (event.Deliver down at) = at.t
time_of (event.Radio bytes at) = at.t
time_of (event.Wake time) = time
time_of other = 0

-- the device may make uplinks by it
abbrev pub makes_uplinks : Event → Bool
makes_uplinks event.Raise = false
makes_uplinks event.Power = false
makes_uplinks other = true

-- how it changes a device, whose uplinks are in its outbox
abbrev pub after_happening : Option DeviceEvent → DeviceState → DeviceState
after_happening None device = device
after_happening (Some event) device = event_step device event

abbrev pub after_event : Event → DeviceState → DeviceState
after_event event device = after_happening (happening_of event) device

-- ---- what a call changes by it

-- the uplinks that a device holds, numbered after the others
abbrev pub numbered_after : List NumberedUplink → (id : ℕ) → List Uplink → List NumberedUplink
numbered_after uplinks id made = uplinks ++ map (λ uplink. made_by id uplink) made

-- all uplinks are taken of a device, and numbered
pub record TakesUplinks (id : ℕ) (old new : HeldDevice Cells) (uplinks new_uplinks : List NumberedUplink) : Type 0 where
  -- it is at rest, as it was except for its uplinks
  pub rests : (d : DeviceState) → DeviceStands old d → IsStored old d → length d.outbox ≤ outbox_size → IsAtRest new (uplinks_taken d)
  -- they follow the others, the oldest first
  pub numbered : length old.outbox ≤ outbox_size → new_uplinks ≡ numbered_after uplinks id old.outbox
  -- each is one of a device that there is
  pub made : StayMade id uplinks new_uplinks

-- an event happens at a device, whose uplinks are taken and numbered; `Rests` says which records it rests as
pub record Happens {H : Type 0} (Rests : H → DeviceState → Type 0) (after : DeviceState → DeviceState) (id : ℕ)
    (old new : H) (uplinks new_uplinks : List NumberedUplink) : Type 0 where
  -- for any record it rested as, it rests as what the event makes of that
  pub rests : (d : DeviceState) → Rests old d → Rests new (uplinks_taken (after d))
  -- the uplinks that the event makes follow the others, the oldest first
  pub numbered : (d : DeviceState) → Rests old d → new_uplinks ≡ numbered_after uplinks id (after d).outbox
  -- each is one of a device that there is
  pub made : StayMade id uplinks new_uplinks

-- the same of the device with this number, among others
pub record OneHappens (after : DeviceState → DeviceState) (id : ℕ) (old new : List Late) (uplinks new_uplinks : List NumberedUplink) : Type 0 where
  pub rests : (all : List DeviceState) (d : DeviceState) → DevicesRest old all → slice_get all (id - 1) ≡ Some d
      → DevicesRest new (slice_set all (id - 1) (uplinks_taken (after d)))
  pub numbered : (all : List DeviceState) (d : DeviceState) → DevicesRest old all → slice_get all (id - 1) ≡ Some d
      → new_uplinks ≡ numbered_after uplinks id (after d).outbox
  pub made : StayMade id uplinks new_uplinks
  -- there are as many devices as before
  pub count : length new ≡ length old

-- where it is Ok, a campaign that plays is what the event makes of it; each campaign that is stood for says which event that is
abbrev pub PlaysEvent : (id : ℕ) → Option DeviceEvent → (old new : HeldCampaign) → {E : Type 0} → Result (Unit {0}) E → Type 0
PlaysEvent id event old new result = (lines : ℕ) (of : WorldState → Option DeviceEvent)
    → ((here : Section) (kept : Option LineError) (devices : List DeviceState) → of (world_of (held_with lines here kept old) devices) ≡ event)
    → Plays lines old new result (λ world. with_event world id (of world))
