-- A device that is saved, ends and is restored, anywhere among its calls (this project's profile).
use Rattle.std.specs.Prelude.{◌≡◌, ℕ, List, [], ◌∷◌, Option, Result}
use Rattle.session_store.specs.declared.state.CompleteFlags.{CompleteFlags}
use Rattle.session_store.specs.CompleteFlags.{flags_of}
use Rattle.device_core.specs.declared.delivered.Aired.{Aired}
use Rattle.device_core.specs.declared.delivered.Delivered.{Delivered}
use Rattle.device_core.specs.declared.delivered.OutboxFull.{OutboxFull}
use Rattle.device_core.specs.declared.uplink.Uplink.{Uplink}
use Rattle.device_core.specs.Configuration.{Configuration}
use Rattle.device_core.specs.Deliver.{delivery, waking, taking}
use Rattle.device_core.specs.Device.{DeviceState}
use Rattle.device_core.specs.Power.{after_power}
use Rattle.device_core.specs.Radio.{radio}
use Rattle.device_core.specs.Running.{Call, Delivers, Airs, Wakes, Takes, Raises, Powers, after_call, after_calls}
use Rattle.device_core.specs.Saving.{IsSaved}

-- ---- what calls answer

-- that a payload was heard or not, that bytes of the air were, that the device asked for the time, an uplink, or nothing
pub data Told : Type 0 where
  Payload : Delivered → Told
  Air : Aired → Told
  Wake : Result (Unit {0}) OutboxFull → Told
  Taken : Option Uplink → Told
  Nothing : Told

abbrev pub told_by : DeviceState → Call → Told
told_by device (Delivers t word mark down) = Payload (delivery t word mark down device).answer
told_by device (Airs t word mark bytes) = Air (radio t word mark bytes device).answer
told_by device (Wakes t) = Wake (waking t device).answer
told_by device Takes = Taken (taking device).answer
told_by device Raises = Nothing
told_by device (Powers whole table) = Nothing

-- those of one call after another
abbrev pub all_told : DeviceState → List Call → List Told
all_told device [] = []
all_told device (call ∷ calls) = told_by device call ∷ all_told (after_call device call) calls

-- ---- with restarts

-- a call, or the device ends, and one that is restored of its bytes and files takes its place
pub data Step : Type 0 where
  Calls : Call → Step
  Restarts : Step

abbrev pub calls_of : List Step → List Call
calls_of [] = []
calls_of (Calls call ∷ steps) = call ∷ calls_of steps
calls_of (Restarts ∷ steps) = calls_of steps

-- both have these bytes and files, as `save` and `restore` of a device promise, and no more is known of the restored one
pub record IsRestored (config : Configuration) (device again : DeviceState) (whole : CompleteFlags) (saved running next : List ℕ) : Type 0 where
  pub was : IsSaved config saved running next device (flags_of device.sessions)
  pub is : IsSaved config saved running next again whole

-- what the steps answer, and the device after them; one that is restored finds its sessions in its flash
abbrev pub Leads : Configuration → DeviceState → List Step → List Told → DeviceState → Type 0
Leads config device [] told last = (told ≡ []) × (last ≡ device)
Leads config device (Calls call ∷ steps) told last =
    (rest : List Told) × (told ≡ told_by device call ∷ rest) × Leads config (after_call device call) steps rest last
Leads config device (Restarts ∷ steps) told last =
    (again : DeviceState) × (whole : CompleteFlags) × (saved : List ℕ) × (running : List ℕ) × (next : List ℕ)
    × IsRestored config device again whole saved running next × Leads config (after_power whole device.sessions again) steps told last

-- restarts, wherever they come among the calls, change neither what these answer nor the device after them
abbrev pub RestartsChangeNothing : Type 0
RestartsChangeNothing = (config : Configuration) (device : DeviceState) (steps : List Step) (told : List Told) (last : DeviceState)
    → Leads config device steps told last
    → (told ≡ all_told device (calls_of steps)) × (last ≡ after_calls device (calls_of steps))
