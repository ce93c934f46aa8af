-- Uplinks that are taken of a device, one after another.
use Rattle.std.proofs.Common.{◌≡◌, ◌<◌, List, [], length, Some, None, ap, subst, arith}
use Rattle.device_core.specs.declared.uplink.Uplink.{Uplink}
use Rattle.device_core.specs.Device.{DeviceState}
use Rattle.device_core.specs.Deliver.{taking}
use Rattle.device_core.specs.HeldDevice.{HeldDevice, DeviceStands, Becomes, TakesOldest}

-- the outbox of a record is the one that is held
pub outbox_is : {F : Type 0} (held : HeldDevice F) (d : DeviceState) → DeviceStands held d → d.outbox ≡ held.outbox
outbox_is held d stands = ap (λ (x : DeviceState). x.outbox) stands.rest

-- at first nothing was taken
pub none_taken : {F : Type 0} (held : HeldDevice F) (d : DeviceState) → DeviceStands held d → DeviceStands held (record d { outbox = held.outbox })
none_taken held d stands = subst (λ (o : List Uplink). DeviceStands held (record d { outbox = o })) (outbox_is held d stands) stands

-- one uplink fewer
pub one_taken : {F : Type 0} (d : DeviceState) (old new : HeldDevice F) (u : Uplink) → Becomes old new (λ x. (taking x).device) → TakesOldest old.outbox new.outbox (Some u)
    → DeviceStands old (record d { outbox = old.outbox }) → DeviceStands new (record d { outbox = new.outbox })
one_taken d old new u makes takes stands =
    let x : DeviceState = record d { outbox = old.outbox } in
    subst (λ (y : DeviceState). DeviceStands new y) (ap (λ (o : List Uplink). (taking (record d { outbox = o })).device) takes) (makes x stands)

pub fewer : (old new : List Uplink) (u : Uplink) → TakesOldest old new (Some u) → length new < length old
fewer old new u takes = omega (arith, ap length takes)

-- none is left
pub all_taken : {F : Type 0} (d : DeviceState) (old new : HeldDevice F) → Becomes old new (λ x. (taking x).device) → TakesOldest old.outbox new.outbox None
    → DeviceStands old (record d { outbox = old.outbox }) → DeviceStands new (record d { outbox = [] })
all_taken d old new makes takes stands =
    let x : DeviceState = record d { outbox = old.outbox } in
    subst (λ (y : DeviceState). DeviceStands new y) (ap (λ (o : List Uplink). (taking (record d { outbox = o })).device) takes.0) (makes x stands)
