-- Uplinks that are taken of a device, one after another.
use Rattle.std.proofs.Common.{◌≡◌, ℕ, List, [], ◌∷◌, ◌++◌, map, Some, sym, ap, ◌∙◌, subst, append_assoc, append-nil}
use Rattle.device_core.specs.declared.uplink.Uplink.{Uplink}
use Rattle.device_core.specs.Device.{DeviceState}
use Rattle.device_core.specs.Firmware.{after_migration}
use Rattle.device_core.specs.Events.{uplinks_taken}
use Rattle.flash_session.specs.Flashes.{Cells, cells_seen}
use Rattle.device_core.specs.HeldDevice.{HeldDevice, DeviceStands, Becomes, GoesAside, TakesOldest}
use Rattle.device_core.specs.HeldSessions.{HeldStore, StateIsStored}
use Rattle.device_core.specs.SessionTable.{SessionTable}
use Rattle.device_core.proofs.Outboxes.{outbox_is}
use Rattle.campaign_world.specs.declared.numbered.NumberedUplink.{NumberedUplink}
use Rattle.campaign_world.specs.Making.{made_by}
use Rattle.campaign_world.specs.HeldLate.{IsStored, IsAtRest}

-- what is stored is stored where the sessions were not touched
pub stored_still : (old new : HeldDevice Cells) (d : DeviceState) → new.sessions ≡ old.sessions → IsStored old d → IsStored new d
stored_still old new d same stored =
    subst (λ (s : HeldStore Cells). StateIsStored s.state d.sessions (cells_seen s.flash.bytes)) (sym same) stored

pub stored_aside : (old new : HeldDevice Cells) (after : DeviceState → DeviceState) (d : DeviceState) → GoesAside old new after
    → DeviceStands old d → IsStored old d → IsStored new (after d)
stored_aside old new after d goes stands stored =
    let same : (after d).sessions ≡ d.sessions =
    ap (λ (x : DeviceState). (after x).sessions) stands.rest ∙ sym (ap (λ (x : DeviceState). x.sessions) (goes.rest d.sessions)) in
    subst (λ (t : SessionTable). StateIsStored new.sessions.state t (cells_seen new.sessions.flash.bytes)) (sym same)
    (stored_still old new d goes.untouched stored)

-- a device that holds no uplink rests
pub rests_empty : (d : DeviceState) (held : HeldDevice Cells) → held.outbox ≡ [] → DeviceStands held d → IsStored held d
    → IsAtRest held (uplinks_taken d)
rests_empty d held none stands stored = record {
  stands = subst (λ (o : List Uplink). DeviceStands held (record d { outbox = o })) (outbox_is held d stands ∙ none) stands;
  stored = stored;
  empty = none;
}

-- ---- their list

pub one_moved : (id : ℕ) (now after all : List NumberedUplink) (old new : List Uplink) (u : Uplink) → TakesOldest old new (Some u) → after ≡ now ++ made_by id u ∷ []
    → now ++ map (λ (x : Uplink). made_by id x) old ≡ all → after ++ map (λ (x : Uplink). made_by id x) new ≡ all
one_moved id now after all old new u takes is so_far =
    rw (is, append_assoc) (ap (λ (us : List Uplink). now ++ map (λ (x : Uplink). made_by id x) us) (sym takes) ∙ so_far)

pub all_moved : (id : ℕ) (now all : List NumberedUplink) (old : List Uplink) → old ≡ [] → now ++ map (λ (x : Uplink). made_by id x) old ≡ all → now ≡ all
all_moved id now all old none so_far = sym (append-nil now) ∙ ap (λ (us : List Uplink). now ++ map (λ (x : Uplink). made_by id x) us) (sym none) ∙ so_far

pub none_moved : (id : ℕ) (now : List NumberedUplink) (held : List Uplink) → held ≡ [] → now ≡ now ++ map (λ (x : Uplink). made_by id x) held
none_moved id now held none = sym (append-nil now) ∙ ap (λ (us : List Uplink). now ++ map (λ (x : Uplink). made_by id x) us) (sym none)

-- a device that rests and knows both image formats from now on rests
pub rests_raised : (old new : HeldDevice Cells) (d : DeviceState) → Becomes old new after_migration → GoesAside old new after_migration → IsAtRest old d → IsAtRest new (uplinks_taken (after_migration d))
unfolding after_migration
rests_raised old new d becomes goes rests =
    let stands : DeviceStands new (after_migration d) = becomes d rests.stands in
    let none : (after_migration d).outbox ≡ [] = outbox_is old d rests.stands ∙ rests.empty in
    let empty : new.outbox ≡ [] = sym (outbox_is new (after_migration d) stands) ∙ none in
    record {
      stands = subst (λ (o : List Uplink). DeviceStands new (record (after_migration d) { outbox = o })) none stands;
      stored = stored_aside old new after_migration d goes rests.stands rests.stored;
      empty = empty;
    }
