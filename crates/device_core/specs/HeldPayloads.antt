-- What calls that bring a payload promise of a device and of its flash, besides what they do to the record.
use Rattle.std.specs.Prelude.{◌≡◌, ◌≢◌, ℕ, false, List, Result, OnOk, OnErr, IfOk}
use Rattle.package_grammar.specs.declared.command.Command.{Command}
use Rattle.package_grammar.specs.declared.downlink.Downlink.{Downlink}
use Rattle.package_grammar.specs.Reading.{Reading}
use Rattle.flash_session.specs.Contents.{HasRisen}
use Rattle.flash_session.specs.Seen.{FlashSeen}
use Rattle.session_store.specs.declared.store.FlashFault as store
use Rattle.device_core.specs.declared.arrival.Arrival.{Arrival}
use Rattle.device_core.specs.declared.delivered.Aired.{Aired}
use Rattle.device_core.specs.declared.delivered.Aired.TheVariants.{Heard}
use Rattle.device_core.specs.declared.delivered.Delivered.{Delivered}
use Rattle.device_core.specs.declared.delivered.Delivered.TheVariants.{Down, FlashFault}
use Rattle.device_core.specs.Answers.{DeviceStep, after_answers}
use Rattle.device_core.specs.Deliver.{Outcome, delivery}
use Rattle.device_core.specs.Device.{DeviceState}
use Rattle.device_core.specs.HeldCalls.{StaysStored, LeavesPassed, GivesPassed, Fails, Keeps, FailsAt, FailsIn, FailsWithin, FailsOnAir, IsPlain}
use Rattle.device_core.specs.Step.{after_commands}
use Rattle.device_core.specs.HeldDevice.{HeldDevice, DeviceStands, Becomes, Makes, Steps}
use Rattle.device_core.specs.HeldSessions.{IsUp, IsDown, IsLaidOut}
use Rattle.device_core.specs.Passed.{tables_of, tables_passed, tables_aired}
use Rattle.device_core.specs.Radio.{radio}
use Rattle.device_core.specs.SessionTable.{SessionTable}

-- ---- the public calls

-- What a call that brings a payload makes, with any answer. One answer says that the sessions are down, another that the flash
-- failed.
pub record Serves {F A : Type 0} (seen : F → FlashSeen)
    (old new : HeldDevice F) (answer is_down has_failed : A) (call : DeviceState → Outcome A)
    (stopped : DeviceState → HeldDevice F → Type 0) (tables : DeviceState → List SessionTable) : Type 0 where
  -- the record goes as the call says, and the answer is the call's
  pub makes : answer ≢ has_failed → Makes A old new answer call
  -- `is_down` comes exactly where the sessions are down, and changes nothing
  pub down : answer ≡ is_down → IsDown old.sessions.state
  pub up : answer ≢ is_down → IsUp old.sessions.state
  pub still : answer ≡ is_down → new ≡ old
  -- the flash failed at a command: those before it acted, and neither it nor those after it
  pub fails : answer ≡ has_failed → (device : DeviceState) → DeviceStands old device → stopped device new
  pub fault : answer ≡ has_failed → HasRisen (seen old.sessions.flash).faults (seen new.sessions.flash).faults
  -- sessions that are not held call no flash
  pub quiet : old.sessions.held ≡ false → (answer ≢ has_failed) × (new.sessions.flash ≡ old.sessions.flash)
  -- those that are held are stored as the call leaves them
  pub stored : answer ≢ has_failed → StaysStored seen old new (λ device. (call device).device)
  -- a stop at any moment leaves them as they were, or as one of these tables
  pub any_moment : LeavesPassed seen old new tables
  -- and where the flash failed a read gives them, or one of these, so that power gives it
  pub again : answer ≡ has_failed → GivesPassed seen old new tables
  pub laid : IsLaidOut old.sessions new.sessions

-- a payload comes
abbrev pub Delivers : {F : Type 0} → (seen : F → FlashSeen)
    → (old new : HeldDevice F) → Delivered → (t word mark : ℕ) → Downlink → Type 0
Delivers seen old new answer t word mark down =
    Serves seen old new answer Down FlashFault (delivery t word mark down)
    (FailsWithin t word mark down) (tables_passed t word mark down)

-- bytes that the radio heard come
abbrev pub Airs : {F : Type 0} → (seen : F → FlashSeen)
    → (old new : HeldDevice F) → Aired → (t word mark : ℕ) → List ℕ → Type 0
Airs seen old new answer t word mark bytes =
    Serves seen old new answer (Heard Down) (Heard FlashFault) (radio t word mark bytes)
    (FailsOnAir t word mark bytes) (tables_aired t word mark bytes)

-- ---- between two reboots that are due, at a device that is up

-- What a payload that was read so makes; where the flash failed, it would have acted.
pub record Hears {F : Type 0} (seen : F → FlashSeen)
    (old new : HeldDevice F) (result : Result Delivered store.FlashFault) (call : DeviceState → Outcome Delivered)
    (here : DeviceState → Arrival) (reading : Reading) (tables : DeviceState → List SessionTable) : Type 0 where
  pub makes : IfOk result (λ delivered. Makes Delivered old new delivered call)
  pub answers : IfOk result IsPlain
  pub fails : OnErr result ((device : DeviceState) → DeviceStands old device
      → FailsIn (call device) (here device) device reading new)
  pub keeps : Keeps seen old new.sessions result (λ device. (call device).device) tables

-- what commands make, one after another
pub record ActsOn {F : Type 0} (seen : F → FlashSeen)
    (old new : HeldDevice F) (result : Result (Unit {0}) store.FlashFault) (here : Arrival) (commands : List Command) : Type 0 where
  pub becomes : OnOk result (Becomes old new (λ device. after_commands here device commands))
  pub fails : OnErr result ((device : DeviceState) → DeviceStands old device → FailsAt here device commands new)
  pub keeps : Keeps seen old new.sessions result
      (λ device. after_commands here device commands) (λ device. tables_of here device commands)

-- what one command makes that may call the flash
pub record Attempts {F : Type 0} (seen : F → FlashSeen)
    (old new : HeldDevice F) (result : Result (Unit {0}) store.FlashFault) (weight : ℕ) (step : DeviceState → DeviceStep)
    (tables : DeviceState → List SessionTable) : Type 0 where
  pub steps : OnOk result (Steps old new weight step)
  pub fails : OnErr result (Fails old new)
  pub keeps : Keeps seen old new.sessions result (λ device. after_answers (step device)) tables
