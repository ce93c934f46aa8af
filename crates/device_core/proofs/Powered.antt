-- Power comes back: what is offered, and for which record the device stands.
use Rattle.std.proofs.Common.{◌≡◌, ℕ, refl, sym, ap, subst, ◌∙◌}
use Rattle.frag_session.specs.Session.{view_of}
use Rattle.image_slots.specs.HeldSlots.{HeldSlots}
use Rattle.image_slots.specs.Slots.{Slots}
use Rattle.session_store.specs.declared.flash_sessions.IdleSessions.{IdleSessions}
use Rattle.session_store.specs.declared.state.State.{State}
use Rattle.session_store.specs.declared.state.State.TheVariants.{Memory, Flash, Down}
use Rattle.session_store.specs.declared.state.CompleteFlags.{CompleteFlags}
use Rattle.session_store.specs.CompleteFlags.{flags_of}
use Rattle.device_core.specs.Device.{DeviceState}
use Rattle.device_core.specs.Fragments.{whole_file, slots_after}
use Rattle.device_core.specs.HeldDevice.{HeldDevice, device_of, DeviceStands}
use Rattle.device_core.specs.HeldSessions.{HeldStore, StateStands}
use Rattle.device_core.specs.HeldPower.{HadWhole}
use Rattle.device_core.specs.Power.{powered, after_power}
use Rattle.device_core.specs.SessionTable.{SessionTable}
use Rattle.device_core.proofs.Quiet.{power_is_quiet}

-- which were whole is determined
pub had_whole : (s : State) (now whole : CompleteFlags) → ((table : SessionTable) → StateStands s table → now ≡ flags_of table)
    → ((idles : IdleSessions) (was : CompleteFlags) → s ≡ Down idles was → now ≡ was) → HadWhole s whole → now ≡ whole
had_whole (Memory slots) now whole is was had = is had.0 had.1 ∙ sym had.2
had_whole (Flash slots) now whole is was had = is had.0 had.1 ∙ sym had.2
had_whole (Down idles v) now whole is was had = was idles v refl ∙ sym had

-- at an error which were whole is kept
pub had_stays : (old new : State)
    → ((table : SessionTable) → StateStands old table → (idles : IdleSessions) × (new ≡ Down idles (flags_of table)))
    → ((idles : IdleSessions) (flags : CompleteFlags) → old ≡ Down idles flags → (now : IdleSessions) × (new ≡ Down now flags))
    → (flags : CompleteFlags) → HadWhole old flags → HadWhole new flags
had_stays (Memory slots) new up down flags had =
    subst (λ (s : State). HadWhole s flags) (sym (up had.0 had.1).1) had.2
had_stays (Flash slots) new up down flags had =
    subst (λ (s : State). HadWhole s flags) (sym (up had.0 had.1).1) had.2
had_stays (Down idles was) new up down flags had =
    subst (λ (s : State). HadWhole s flags) (sym (down idles was refl).1) had

-- one file after another is offered
pub offered : (s a b c d : HeldSlots) (hw : ℕ) (whole : CompleteFlags) (table : SessionTable) → s.hw ≡ hw
    → a ≡ record s { slots = slots_after s.hw whole.first (whole_file (view_of table.first)) s.slots }
    → b ≡ record a { slots = slots_after a.hw whole.second (whole_file (view_of table.second)) a.slots }
    → c ≡ record b { slots = slots_after b.hw whole.third (whole_file (view_of table.third)) b.slots }
    → d ≡ record c { slots = slots_after c.hw whole.fourth (whole_file (view_of table.fourth)) c.slots }
    → d.slots ≡ powered hw whole table s.slots
offered s a b c d hw whole table hw_is first second third fourth = rw (fourth, third, second, first, hw_is) refl

pub powered_stands : {F : Type 0} (old new : HeldDevice F) (store : HeldStore F) (before behind : Slots) (hw : ℕ) (now whole : CompleteFlags) (table : SessionTable)
    → new ≡ record old { sessions = store; slots = behind } → hw ≡ old.config.hw → before ≡ old.slots
    → now ≡ whole → StateStands store.state table → behind ≡ powered hw now table before
    → DeviceStands new (after_power whole table (device_of old table))
unfolding after_power
powered_stands {F} old new store before behind hw now whole table is hw_is before_is same stands offers =
    let last : powered old.config.hw whole table old.slots ≡ behind =
    sym (offers ∙ ap (λ (w : CompleteFlags). powered hw w table before) same ∙ ap (λ (h : ℕ). powered h whole table before) hw_is
    ∙ ap (λ (x : Slots). powered old.config.hw whole table x) before_is) in
    subst (λ (h : HeldDevice F). DeviceStands h (record (device_of old table) { sessions = table; slots = powered old.config.hw whole table old.slots })) (sym is) (record {
      sessions = stands;
      rest = ap (λ (x : Slots). device_of (record old { sessions = store; slots = x }) table) last;
    })

-- its own sessions were found
pub powered_again : {F : Type 0} (old new : HeldDevice F) (device : DeviceState) → DeviceStands old device
    → DeviceStands new (after_power (flags_of device.sessions) device.sessions (device_of old device.sessions)) → DeviceStands new device
powered_again old new device stands again =
    subst (λ (d : DeviceState). DeviceStands new d)
    (ap (λ (d : DeviceState). after_power (flags_of device.sessions) device.sessions d) (sym stands.rest) ∙ power_is_quiet device) again
