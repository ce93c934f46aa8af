-- A device that is up or down, and what a payload makes of it between the reboots that are due.
use Rattle.std.proofs.Common.{◌≡◌, ◌≢◌, ◌⊎◌, ℕ, List, Result, Ok, Err, sym, ap, subst, ◌∙◌}
use Rattle.flash_session.specs.Moments.{LeavesOnly}
use Rattle.wire_base.specs.declared.refusal.Direction.TheVariants as direction
use Rattle.package_grammar.specs.declared.downlink.Downlink.{Downlink}
use Rattle.package_grammar.specs.Reading.{reading_of}
use Rattle.flash_session.specs.Seen.{FlashSeen, left}
use Rattle.session_store.specs.declared.store.FlashFault as fault
use Rattle.session_store.specs.declared.state.State.{State}
use Rattle.session_store.specs.declared.state.State.TheVariants.{Memory, Flash, Down}
use Rattle.session_store.specs.HeldPlaces.{TableLies}
use Rattle.mc_frames.specs.declared.fault.FrameFault.{FrameFault}
use Rattle.device_core.specs.declared.delivered.Aired.{Aired}
use Rattle.device_core.specs.declared.delivered.Aired.TheVariants.{Heard, Foreign}
use Rattle.device_core.specs.declared.delivered.Delivered.{Delivered}
use Rattle.device_core.specs.declared.delivered.Delivered.TheVariants.{FlashFault}
use Rattle.device_core.specs.Deliver.{Outcome, arrival, heard_delivery, delivery}
use Rattle.device_core.specs.Device.{DeviceState, after_deaf, with_counts}
use Rattle.device_core.specs.Firmware.{after_due_reboot}
use Rattle.device_core.specs.HeldCalls.{LeavesBesides, StaysStored, Keeps, FailsIn, FailsWithin, FailsOnAir, LeavesPassed, GivesPassed}
use Rattle.device_core.specs.HeldDevice.{HeldDevice, device_of, DeviceStands, Becomes, Makes}
use Rattle.device_core.specs.HeldSessions.{HeldStore, IsDown, IsUp, StateStands, StateIsStored, StateIsHeld}
use Rattle.device_core.specs.Passed.{heard_tables, tables_passed, frame_tables, tables_aired, LiesOneOf}
use Rattle.device_core.specs.Radio.{brought, after_frame, radio}
use Rattle.device_core.specs.SessionTable.{SessionTable}
use Rattle.device_core.proofs.Keeping.{leaves_only}
use Rattle.device_core.proofs.Stays.{reboot_keeps}

-- what is down stands for nothing
pub not_down : (s : State) (t : SessionTable) → IsDown s → StateStands s t → ⊥
not_down (Memory slots) t down stands = down
not_down (Flash slots) t down stands = down
not_down (Down idles whole) t down stands = stands

pub not_both : (s : State) → IsDown s → IsUp s → ⊥
not_both (Memory slots) down up = down
not_both (Flash slots) down up = down
not_both (Down idles whole) down up = up

-- a down device makes whatever is said of a record that it stands for
pub makes_down : {F A : Type 0} (old new : HeldDevice F) (answer : A) (call : DeviceState → Outcome A) → IsDown old.sessions.state → Makes A old new answer call
makes_down old new answer call down = record {
  stands = λ device stands. absurd (not_down old.sessions.state device.sessions down stands.sessions);
  answers = λ device stands. absurd (not_down old.sessions.state device.sessions down stands.sessions);
}

pub down_at : {F : Type 0} (old : HeldDevice F) (s : HeldStore F) → s ≡ old.sessions → IsDown s.state → IsDown old.sessions.state
down_at {F} old s is down = subst (λ (x : HeldStore F). IsDown x.state) is down

pub down_stored : {F : Type 0} (seen : F → FlashSeen) (old new : HeldDevice F)
    (after : DeviceState → DeviceState) → IsDown old.sessions.state → StaysStored seen old new after
down_stored seen old new after down device stands stored = absurd (not_down old.sessions.state device.sessions down stands.sessions)

pub down_moments : {F : Type 0} (seen : F → FlashSeen) (old new : HeldDevice F)
    (tables : DeviceState → List SessionTable) → IsDown old.sessions.state → LeavesPassed seen old new tables
down_moments seen old new tables down device stands held = absurd (not_down old.sessions.state device.sessions down stands.sessions)

-- between two reboots that are due
pub delivered_makes : {F : Type 0} (old mid then new : HeldDevice F) (t word mark : ℕ) (down : Downlink) (d : Delivered)
    → Becomes old mid (after_due_reboot t) → Makes Delivered mid then d (heard_delivery t word mark down) → Becomes then new (after_due_reboot t)
    → Makes Delivered old new d (delivery t word mark down)
unfolding delivery
delivered_makes old mid then new t word mark down d first second third = record {
  stands = λ device stands. third _ (second.stands _ (first device stands));
  answers = λ device stands. second.answers _ (first device stands);
}

-- a reboot that was due leaves what is held
held_through : {F : Type 0} (seen : F → FlashSeen) (old mid : HeldStore F) (t : ℕ) (device : DeviceState) → mid ≡ old
    → StateIsHeld old.state device.sessions (seen old.flash) → StateIsHeld mid.state (after_due_reboot t device).sessions (seen mid.flash)
held_through {F} seen old mid t device same held =
    subst (λ (s : HeldStore F). StateIsHeld s.state (after_due_reboot t device).sessions (seen s.flash)) (sym same)
    (subst (λ (x : SessionTable). StateIsHeld old.state x (seen old.flash)) (sym (reboot_keeps t device).sessions) held)

-- what a stop leaves
pub delivered_moments : {F A : Type 0} (seen : F → FlashSeen)
    (old mid : HeldDevice F) (new : HeldStore F) (r : Result A fault.FlashFault) (t word mark : ℕ) (down : Downlink) (after : DeviceState → DeviceState)
    → mid.sessions ≡ old.sessions → Becomes old mid (after_due_reboot t)
    → Keeps seen mid new r after (λ d. heard_tables t word mark down d)
    → (device : DeviceState) → DeviceStands old device
    → ((c : List ℕ) → left (seen old.sessions.flash) c → TableLies old.sessions.layout device.sessions c)
    → StateIsHeld old.sessions.state device.sessions (seen old.sessions.flash)
    → LeavesOnly (λ c. TableLies old.sessions.layout device.sessions c ⊎ LiesOneOf old.sessions.layout (tables_passed t word mark down device) c)
    (seen old.sessions.flash) (seen new.flash)
delivered_moments {F} seen old mid new r t word mark down after same becomes keeps device stands here held =
    let m : DeviceState = after_due_reboot t device in
    let held_mid = held_through seen old.sessions mid.sessions t device same held in
    let run = keeps.moments m (becomes device stands) held_mid in
    leaves_only (LiesOneOf old.sessions.layout (heard_tables t word mark down m)) (λ c. TableLies old.sessions.layout device.sessions c) _ _ here
    (subst (λ (s : HeldStore F). LeavesBesides (LiesOneOf s.layout (heard_tables t word mark down m)) (seen s.flash) (seen new.flash)) same run)

-- what a read gives where its flash failed
pub delivered_again : {F A : Type 0} (seen : F → FlashSeen)
    (old mid : HeldDevice F) (new : HeldStore F) (e : fault.FlashFault) (t word mark : ℕ) (down : Downlink) (after : DeviceState → DeviceState)
    → mid.sessions ≡ old.sessions → Becomes old mid (after_due_reboot t)
    → Keeps {A = A} seen mid new (Err e) after (λ d. heard_tables t word mark down d)
    → (device : DeviceState) → DeviceStands old device
    → StateIsHeld old.sessions.state device.sessions (seen old.sessions.flash)
    → (b : List ℕ) → (seen new.flash).holds b → LiesOneOf old.sessions.layout (tables_passed t word mark down device) b
delivered_again {F} seen old mid new e t word mark down after same becomes keeps device stands held b now =
    let m : DeviceState = after_due_reboot t device in
    let held_mid = held_through seen old.sessions mid.sessions t device same held in
    subst (λ (s : HeldStore F). LiesOneOf s.layout (heard_tables t word mark down m) b) same
    (keeps.again m (becomes device stands) held_mid b now)

-- what is stored
pub delivered_stored : {F A : Type 0} (seen : F → FlashSeen)
    (old mid then new : HeldDevice F) (x : A) (t word mark : ℕ) (down : Downlink) (tables : DeviceState → List SessionTable)
    → mid.sessions ≡ old.sessions → new.sessions ≡ then.sessions → Becomes old mid (after_due_reboot t)
    → Keeps seen mid then.sessions (Ok x) (λ d. (heard_delivery t word mark down d).device) tables
    → (device : DeviceState) → DeviceStands old device
    → StateIsStored old.sessions.state device.sessions (seen old.sessions.flash)
    → StateIsStored new.sessions.state (delivery t word mark down device).device.sessions (seen new.sessions.flash)
unfolding delivery
delivered_stored {F} seen old mid then new x t word mark down tables same last becomes keeps device stands stored =
    let m : DeviceState = after_due_reboot t device in
    let table_is : m.sessions ≡ device.sessions = (reboot_keeps t device).sessions in
    let stored_mid : StateIsStored mid.sessions.state m.sessions (seen mid.sessions.flash) =
    subst (λ (s : HeldStore F). StateIsStored s.state m.sessions (seen s.flash)) (sym same)
    (subst (λ (y : SessionTable). StateIsStored old.sessions.state y (seen old.sessions.flash)) (sym table_is) stored) in
    let behind = keeps.stored m (becomes device stands) stored_mid in
    let e : DeviceState = (heard_delivery t word mark down m).device in
    subst (λ (y : SessionTable). StateIsStored new.sessions.state y (seen new.sessions.flash))
    (sym (reboot_keeps t e).sessions)
    (subst (λ (s : HeldStore F). StateIsStored s.state e.sessions (seen s.flash)) (sym last) behind)

-- what a stop leaves between two calls, for the store
pub between_at : {F : Type 0} (seen : F → FlashSeen) (old : HeldDevice F) (s : HeldStore F) → old.sessions ≡ s
    → ((t : SessionTable) → StateIsHeld s.state t (seen s.flash) → (c : List ℕ) → left (seen s.flash) c → TableLies s.layout t c)
    → (t : SessionTable) → StateIsHeld old.sessions.state t (seen old.sessions.flash)
    → (c : List ℕ) → left (seen old.sessions.flash) c → TableLies old.sessions.layout t c
between_at {F} seen old s same between =
    subst (λ (x : HeldStore F). (t : SessionTable) → StateIsHeld x.state t (seen x.flash)
    → (c : List ℕ) → left (seen x.flash) c → TableLies x.layout t c) (sym same) between

-- where the commands of a payload failed
pub failed_within : {F : Type 0} (t word mark : ℕ) (down : Downlink) (device : DeviceState) (new : HeldDevice F)
    → (let before = after_due_reboot t device in
    FailsIn (heard_delivery t word mark down before) (arrival t word mark down before) before (reading_of down.port direction.Down down.payload) new)
    → FailsWithin t word mark down device new
unfolding delivery
failed_within t word mark down device new fails =
    record { commands = fails.commands; read = fails.read; acts = fails.acts; fails = fails.fails }

-- ---- bytes that the radio heard

pub brought_is : {F : Type 0} (held : HeldDevice F) (bytes : List ℕ) (r : Result Downlink FrameFault)
    → ((table : SessionTable) → r ≡ brought (device_of held table) bytes)
    → (device : DeviceState) → DeviceStands held device → brought device bytes ≡ r
brought_is held bytes r is device stands = ap (λ (d : DeviceState). brought d bytes) stands.rest ∙ sym (is device.sessions)

-- what they make of the record, by what they brought
pub radio_is : (t word mark : ℕ) (bytes : List ℕ) (r : Result Downlink FrameFault) (device : DeviceState)
    → brought device bytes ≡ r → radio t word mark bytes device ≡ after_frame t word mark r device
unfolding radio
radio_is t word mark bytes r device is = ap (λ (b : Result Downlink FrameFault). after_frame t word mark b device) is

-- bytes that are foreign leave it all
pub foreign_stored : {F : Type 0} (seen : F → FlashSeen)
    (old new : HeldDevice F) (t word mark : ℕ) (bytes : List ℕ) (fault : FrameFault) → new.sessions ≡ old.sessions
    → ((table : SessionTable) → Err fault ≡ brought (device_of old table) bytes)
    → StaysStored seen old new (λ d. (radio t word mark bytes d).device)
foreign_stored {F} seen old new t word mark bytes fault same is device stands stored =
    subst (λ (o : Outcome Aired). StateIsStored new.sessions.state o.device.sessions (seen new.sessions.flash))
    (sym (radio_is t word mark bytes (Err fault) device (brought_is old bytes (Err fault) is device stands)))
    (subst (λ (x : SessionTable). StateIsStored new.sessions.state x (seen new.sessions.flash))
    (sym (reboot_keeps t device).sessions)
    (subst (λ (s : HeldStore F). StateIsStored s.state device.sessions (seen s.flash)) (sym same) stored))

-- a payload that they brought, as it is delivered
pub aired_makes : {F : Type 0} (old new : HeldDevice F) (d : Delivered) (t word mark : ℕ) (bytes : List ℕ) (down : Downlink)
    → ((table : SessionTable) → Ok down ≡ brought (device_of old table) bytes)
    → (d ≢ FlashFault → Makes Delivered old new d (delivery t word mark down))
    → Heard d ≢ Heard FlashFault → Makes Aired old new (Heard d) (radio t word mark bytes)
aired_makes old new d t word mark bytes down is makes plain =
    let made = makes (λ e. plain (ap Heard e)) in
    record {
      stands = λ device stands. subst (λ (o : Outcome Aired). DeviceStands new o.device)
          (sym (radio_is t word mark bytes (Ok down) device (brought_is old bytes (Ok down) is device stands))) (made.stands device stands);
      answers = λ device stands. ap Heard (made.answers device stands)
          ∙ sym (ap (λ (o : Outcome Aired). o.answer) (radio_is t word mark bytes (Ok down) device (brought_is old bytes (Ok down) is device stands)));
    }

pub same_heard : (d e : Delivered) → Heard d ≡ Heard e → d ≡ e
same_heard d e is = cc

pub aired_fails : {F : Type 0} (old new : HeldDevice F) (d : Delivered) (t word mark : ℕ) (bytes : List ℕ) (down : Downlink)
    → ((table : SessionTable) → Ok down ≡ brought (device_of old table) bytes)
    → (d ≡ FlashFault → (device : DeviceState) → DeviceStands old device → FailsWithin t word mark down device new)
    → Heard d ≡ Heard FlashFault → (device : DeviceState) → DeviceStands old device → FailsOnAir t word mark bytes device new
aired_fails old new d t word mark bytes down is fails fault device stands = record {
  down = down;
  came = brought_is old bytes (Ok down) is device stands;
  fails = fails (same_heard d FlashFault fault) device stands;
}

pub aired_stored : {F : Type 0} (seen : F → FlashSeen)
    (old new : HeldDevice F) (d : Delivered) (t word mark : ℕ) (bytes : List ℕ) (down : Downlink)
    → ((table : SessionTable) → Ok down ≡ brought (device_of old table) bytes)
    → (d ≢ FlashFault → StaysStored seen old new (λ device. (delivery t word mark down device).device))
    → Heard d ≢ Heard FlashFault → StaysStored seen old new (λ device. (radio t word mark bytes device).device)
aired_stored seen old new d t word mark bytes down is stays plain device stands stored =
    subst (λ (o : Outcome Aired). StateIsStored new.sessions.state o.device.sessions (seen new.sessions.flash))
    (sym (radio_is t word mark bytes (Ok down) device (brought_is old bytes (Ok down) is device stands)))
    (stays (λ e. plain (ap Heard e)) device stands stored)

pub aired_moments : {F : Type 0} (seen : F → FlashSeen)
    (old new : HeldDevice F) (t word mark : ℕ) (bytes : List ℕ) (down : Downlink)
    → ((table : SessionTable) → Ok down ≡ brought (device_of old table) bytes)
    → LeavesPassed seen old new (tables_passed t word mark down)
    → LeavesPassed seen old new (tables_aired t word mark bytes)
aired_moments seen old new t word mark bytes down is leaves device stands held =
    subst (λ (r : Result Downlink FrameFault). LeavesOnly
    (λ c. TableLies old.sessions.layout device.sessions c ⊎ LiesOneOf old.sessions.layout (frame_tables t word mark r device) c)
    (seen old.sessions.flash) (seen new.sessions.flash))
    (sym (brought_is old bytes (Ok down) is device stands)) (leaves device stands held)

pub aired_again : {F : Type 0} (seen : F → FlashSeen)
    (old new : HeldDevice F) (t word mark : ℕ) (bytes : List ℕ) (down : Downlink)
    → ((table : SessionTable) → Ok down ≡ brought (device_of old table) bytes)
    → GivesPassed seen old new (tables_passed t word mark down)
    → GivesPassed seen old new (tables_aired t word mark bytes)
aired_again seen old new t word mark bytes down is gives device stands held b now =
    subst (λ (r : Result Downlink FrameFault).
    TableLies old.sessions.layout device.sessions b ⊎ LiesOneOf old.sessions.layout (frame_tables t word mark r device) b)
    (sym (brought_is old bytes (Ok down) is device stands)) (gives device stands held b now)

-- bytes that are foreign are counted
pub foreign_makes : {F : Type 0} (old new : HeldDevice F) (t word mark : ℕ) (bytes : List ℕ) (fault : FrameFault)
    → ((table : SessionTable) → Err fault ≡ brought (device_of old table) bytes)
    → Becomes old new (λ device. with_counts after_deaf (after_due_reboot t device))
    → Makes Aired old new (Foreign fault) (radio t word mark bytes)
foreign_makes old new t word mark bytes fault is becomes = record {
  stands = λ device stands. subst (λ (o : Outcome Aired). DeviceStands new o.device)
      (sym (radio_is t word mark bytes (Err fault) device (brought_is old bytes (Err fault) is device stands))) (becomes device stands);
  answers = λ device stands. sym (ap (λ (o : Outcome Aired). o.answer)
      (radio_is t word mark bytes (Err fault) device (brought_is old bytes (Err fault) is device stands)));
}
