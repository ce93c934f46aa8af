-- What a device that took the fields of saved bytes is.
use Rattle.std.proofs.Common.{◌≡◌, ℕ, ◌<◌, ◌≤◌, Bool, true, false, List, length, get_or, refl, sym, ap, subst, ◌∙◌}
use Rattle.std.specs.Prelude.{◌==◌, ◌&&◌, IsTrue, if◌then◌else◌}
use Rattle.image_slots.specs.Image.{image_state}
use Rattle.image_slots.specs.Slots.{Slots, first_slots}
use Rattle.session_store.specs.declared.flash_sessions.IdleSessions.{IdleSessions}
use Rattle.session_store.specs.declared.state.State.{State}
use Rattle.session_store.specs.declared.state.State.TheVariants.{Memory, Flash, Down}
use Rattle.session_store.specs.declared.state.CompleteFlags.{CompleteFlags}
use Rattle.session_store.specs.CompleteFlags.{none_complete}
use Rattle.device_core.specs.Configuration.{Configuration}
use Rattle.device_core.specs.Device.{DeviceState, first_device, is_config, has_ranges, layout_of}
use Rattle.device_core.specs.HeldDevice.{HeldDevice, device_of, Starts, can_reserve}
use Rattle.device_core.specs.HeldSaving.{Restores}
use Rattle.device_core.specs.HeldSessions.{HeldStore, IsUp, StateStands}
use Rattle.device_core.specs.SessionTable.{SessionTable, no_sessions}
use Rattle.device_core.specs.Saving.{state_bytes, saved_of, IsOver, IsSaved}
use Rattle.device_core.specs.SavingInside.{formats_in, running_in, slots_in, flags_in, told_of, CanTake, Takes}
use Rattle.device_core.proofs.Restarts.{few_places}
use Rattle.device_core.proofs.Saved.{over_told, files_told, read_back}

-- sessions are not saved
pub no_matter : (device : DeviceState) (flags : CompleteFlags) → saved_of device flags ≡ saved_of (record device { sessions = no_sessions }) flags
unfolding saved_of state_bytes
no_matter device flags = refl

-- ---- the sessions

record SessionsRestored {F : Type 0} (config : Configuration) (flash : F) (flags : CompleteFlags) (sessions : HeldStore F) : Type 0 where
  flash_is : sessions.flash ≡ flash
  held_is : sessions.held ≡ config.held
  layout_is : sessions.layout ≡ layout_of config
  up : config.held ≡ false → StateStands sessions.state no_sessions
  down : config.held ≡ true → (idles : IdleSessions) × (sessions.state ≡ Down idles flags)

up_of : (state : State) (table : SessionTable) → StateStands state table → IsUp state
up_of (Memory slots) table stands = tt
up_of (Flash slots) table stands = tt
up_of (Down idles was) table stands = stands

sessions_of : {F : Type 0} (config : Configuration) (flash : F) (held new : HeldDevice F) (saved running next : List ℕ) (result held_is : Bool)
    → config.held ≡ held_is → Starts config flash held → Takes held new saved running next result → result ≡ true
    → SessionsRestored config flash (flags_in saved) new.sessions
sessions_of config flash held new saved running next result false is starts took taken =
    let stands = starts.up is in
    let state = stands.sessions in
    let same = took.up taken (up_of held.sessions.state no_sessions state) in
    rw same (record {
      flash_is = starts.flash_is;
      held_is = starts.held_is;
      layout_is = starts.layout_is;
      up = λ _. state;
      down = λ not. let no : true ≡ false = sym not ∙ is in absurd cc;
    })
sessions_of config flash held new saved running next result true is starts took taken =
    let down = starts.down is in
    let same = took.down taken down.0 none_complete down.1 in
    rw same (record {
      flash_is = starts.flash_is;
      held_is = starts.held_is;
      layout_is = starts.layout_is;
      up = λ not. let no : true ≡ false = sym is ∙ not in absurd cc;
      down = λ _. (down.0, refl);
    })

-- ---- all of it

running_told : (hw : ℕ) (slots : Slots) (bytes running next : List ℕ) → (slots_in hw slots bytes running next).running ≡ running
running_told hw slots bytes running next = by_byte (get_or bytes 186 0 == 0)
  where
    by_byte : (b : Bool)
        → (if b then running_in slots bytes running
        else record (running_in slots bytes running) {
          next = image_state next hw (formats_in slots.formats bytes);
          next_file = next;
        }).running ≡ running
    by_byte true = refl
    by_byte false = refl

-- the record that the bytes say
pub told_record : {F : Type 0} (config : Configuration) (flash : F) (held new : HeldDevice F) (saved running next : List ℕ) (result : Bool)
    → Starts config flash held → Takes held new saved running next result → result ≡ true
    → device_of new no_sessions ≡ told_of (first_device config) saved running next
told_record config flash held new saved running next result starts took taken =
    took.told taken no_sessions ∙ ap (λ (d : DeviceState). told_of d saved running next) starts.rest

pub restored : {F : Type 0} (config : Configuration) (flash : F) (held new : HeldDevice F) (saved running next again : List ℕ) (result : Bool)
    → Starts config flash held → Takes held new saved running next result → result ≡ true
    → (all : (k : ℕ) → get_or saved k 0 < 256) → length saved ≡ 492 → config.groups ≤ 4
    → again ≡ saved_of (device_of new no_sessions) (flags_in saved) → again ≡ saved → Restores config flash saved running next new
restored config flash held new saved running next again result starts took taken all long few wrote same =
    let config_is : held.config ≡ config = ap (λ (d : DeviceState). d.config) starts.rest in
    let fits : CanTake config saved running next = subst (λ (c : Configuration). CanTake c saved running next) config_is (took.fits taken) in
    let told = told_record config flash held new saved running next result starts took taken in
    let sessions = sessions_of config flash held new saved running next result config.held refl starts took taken in
    record {
      flags = flags_in saved;
      saved_is = record {
        over = subst (λ (d : DeviceState). IsOver config d) (sym told) (over_told config saved running next all long few fits);
        running_is = ap (λ (d : DeviceState). d.slots.running) told ∙ running_told config.hw (first_slots config.formats) saved running next;
        next_is = ap (λ (d : DeviceState). d.slots.next_file) told ∙ files_told config saved running next fits;
        saved_is = sym wrote ∙ same;
      };
      flash_is = sessions.flash_is;
      held_is = sessions.held_is;
      layout_is = sessions.layout_is;
      up = λ not. record { sessions = sessions.up not; rest = refl };
      down = sessions.down;
    }

-- a record that has the bytes can be taken
pub can_take : {F : Type 0} (config : Configuration) (flash : F) (held : HeldDevice F) (saved running next : List ℕ) (device : DeviceState) (flags : CompleteFlags)
    → Starts config flash held → IsSaved config saved running next device flags → CanTake held.config saved running next
can_take config flash held saved running next device flags starts is =
    let config_is : held.config ≡ config = ap (λ (d : DeviceState). d.config) starts.rest in
    subst (λ (c : Configuration). CanTake c saved running next) (sym config_is) (read_back config saved running next device flags is).fits

-- and is what is taken, which has these bytes again
pub saved_again : {F : Type 0} (config : Configuration) (flash : F) (held new : HeldDevice F) (saved running next again : List ℕ) (result : Bool)
    (device : DeviceState) (flags : CompleteFlags) → Starts config flash held → Takes held new saved running next result → result ≡ true
    → again ≡ saved_of (device_of new no_sessions) (flags_in saved) → IsSaved config saved running next device flags → again ≡ saved
saved_again config flash held new saved running next again result device flags starts took taken wrote is =
    let back = read_back config saved running next device flags is in
    let told = told_record config flash held new saved running next result starts took taken in
    wrote
    ∙ ap (λ (d : DeviceState). saved_of d (flags_in saved)) (told ∙ back.told)
    ∙ ap (λ (f : CompleteFlags). saved_of (record device { sessions = no_sessions }) f) back.flags_are
    ∙ sym (no_matter device flags)
    ∙ is.saved_is

-- there are at most four groups
pub few_groups : (config : Configuration) (room : ℕ) → IsTrue (can_reserve config room) → config.groups ≤ 4
few_groups config room is = few_places config (of_both (has_ranges config room) (is_config config) is)
  where
    of_both : (a b : Bool) → IsTrue (a && b) → b ≡ true
    of_both true true is = refl
    of_both true false is = is
    of_both false b is = absurd cc
