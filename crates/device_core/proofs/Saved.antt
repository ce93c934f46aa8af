-- A saved device is read as the record that it was, its sessions aside.
use Rattle.std.proofs.Common.{◌≡◌, ℕ, ◌+◌, ◌-◌, ◌*◌, ◌%◌, ◌^◌, ◌<◌, ◌≤◌, min, Bool, true, false, List, [], ◌∷◌, ◌++◌, length, get_or, drop, map, Option, Some, None, ◌⊎◌, inl, inr, refl, sym, ap, ◌∙◌, length-append, arith}
use Rattle.std.specs.Prelude.{◌==◌, if◌then◌else◌, slice_range, IfSome}
use Rattle.std.proofs.lemmas.Bool.{eqb-true}
use Rattle.std.specs.List.{AllByRecursion, range_with_len}
use Rattle.std.proofs.lemmas.List.{length-take, length-drop}
use Rattle.std.proofs.lemmas.List.FromFn.{length-map-range_with_len, get_or-map-range_with_len}
use Rattle.sha2.specs.Sha256.{sha256}
use Rattle.sha2.proofs.Facts256.{length-sha256}
use Rattle.wire_base.specs.Numbers.{number_at}
use Rattle.mc_group.specs.declared.group.Group.{Group}
use Rattle.mc_group.specs.Groups.{group_at}
use Rattle.image_slots.specs.declared.view.ImageState.{ImageState}
use Rattle.image_slots.specs.declared.view.ImageState.TheVariants as image
use Rattle.image_slots.specs.Image.{image_state}
use Rattle.image_slots.specs.Slots.{Slots, RunsImage, first_slots}
use Rattle.image_slots.proofs.Sound.{is_there}
use Rattle.session_store.specs.declared.state.CompleteFlags.{CompleteFlags}
use Rattle.device_core.specs.declared.class_session.ClassSession.{ClassSession}
use Rattle.device_core.specs.declared.class_session.Kind.{Kind}
use Rattle.device_core.specs.declared.class_session.Kind.TheVariants.{ClassC, ClassB}
use Rattle.device_core.specs.DeviceInside.{KindFits, SessionFits}
use Rattle.device_core.specs.Configuration.{Configuration}
use Rattle.device_core.specs.Device.{DeviceState, first_device}
use Rattle.device_core.specs.SessionTable.{no_sessions}
use Rattle.device_core.specs.Sendable.{IsUplink}
use Rattle.device_core.specs.Saving.{clock_bytes, moment_bytes, groups_bytes, group_bytes, session_bytes, reboot_bytes, counts_bytes, next_byte, slots_bytes, flags_bytes, uplinks_bytes, config_bytes, state_bytes, saved_of, periodicity_of, IsBelow, GroupFits, IsSession, AreSlots, UplinkFits, IsOver, IsSaved}
use Rattle.device_core.specs.SavingInside.{group_in, place_in, groups_in, session_fields_in, formats_in, running_in, slots_in, flags_in, uplink_at, told_of, CanTake}
use Rattle.device_core.proofs.Lying.{Lies, lies_first, lies_rest, number_below}
use Rattle.device_core.proofs.SavedUplinks.{spelled_all}
use Rattle.device_core.proofs.SavedFields.{clock_back, moment_back, length-group_bytes, fits_at, groups_back, session_back, reboot_back, counts_back, SlotsLie, slots_back, flags_back, length-uplinks, uplinks_back}

-- ---- where each part is

pub record Parts (c m g s r n t f u bytes : List ℕ) : Type 0 where
  pub clock : Lies c bytes 0
  pub moment : Lies m bytes 10
  pub groups : Lies g bytes 19
  pub session : Lies s bytes 135
  pub reboot : Lies r bytes 144
  pub counts : Lies n bytes 149
  pub slots : Lies t bytes 181
  pub flags : Lies f bytes 199
  pub uplinks : Lies u bytes 203

parts_lie : (c m g s r n t f u bytes : List ℕ) → length c ≡ 10 → length m ≡ 9 → length g ≡ 116 → length s ≡ 9 → length r ≡ 5
    → length n ≡ 32 → length t ≡ 18 → length f ≡ 4 → Lies (c ++ m ++ g ++ s ++ r ++ n ++ t ++ f ++ u) bytes 0 → Parts c m g s r n t f u bytes
parts_lie c m g s r n t f u bytes wc wm wg ws wr wn wt wf lies =
    let l8 = lies_first (c ++ m ++ g ++ s ++ r ++ n ++ t ++ f) u bytes 0 lies in
    let l7 = lies_first (c ++ m ++ g ++ s ++ r ++ n ++ t) f bytes 0 l8 in
    let l6 = lies_first (c ++ m ++ g ++ s ++ r ++ n) t bytes 0 l7 in
    let l5 = lies_first (c ++ m ++ g ++ s ++ r) n bytes 0 l6 in
    let l4 = lies_first (c ++ m ++ g ++ s) r bytes 0 l5 in
    let l3 = lies_first (c ++ m ++ g) s bytes 0 l4 in
    let l2 = lies_first (c ++ m) g bytes 0 l3 in
    let n2 : length (c ++ m) ≡ 19 = omega (arith, length-append c m, wc, wm) in
    let n3 : length (c ++ m ++ g) ≡ 135 = omega (arith, length-append (c ++ m) g, n2, wg) in
    let n4 : length (c ++ m ++ g ++ s) ≡ 144 = omega (arith, length-append (c ++ m ++ g) s, n3, ws) in
    let n5 : length (c ++ m ++ g ++ s ++ r) ≡ 149 = omega (arith, length-append (c ++ m ++ g ++ s) r, n4, wr) in
    let n6 : length (c ++ m ++ g ++ s ++ r ++ n) ≡ 181 = omega (arith, length-append (c ++ m ++ g ++ s ++ r) n, n5, wn) in
    let n7 : length (c ++ m ++ g ++ s ++ r ++ n ++ t) ≡ 199 = omega (arith, length-append (c ++ m ++ g ++ s ++ r ++ n) t, n6, wt) in
    let n8 : length (c ++ m ++ g ++ s ++ r ++ n ++ t ++ f) ≡ 203 = omega (arith, length-append (c ++ m ++ g ++ s ++ r ++ n ++ t) f, n7, wf) in
    record {
      clock = lies_first c m bytes 0 l2;
      moment = lies_rest c m bytes 0 10 (omega (arith, wc)) l2;
      groups = lies_rest (c ++ m) g bytes 0 19 (omega (arith, n2)) l3;
      session = lies_rest (c ++ m ++ g) s bytes 0 135 (omega (arith, n3)) l4;
      reboot = lies_rest (c ++ m ++ g ++ s) r bytes 0 144 (omega (arith, n4)) l5;
      counts = lies_rest (c ++ m ++ g ++ s ++ r) n bytes 0 149 (omega (arith, n5)) l6;
      slots = lies_rest (c ++ m ++ g ++ s ++ r ++ n) t bytes 0 181 (omega (arith, n6)) l7;
      flags = lies_rest (c ++ m ++ g ++ s ++ r ++ n ++ t) f bytes 0 199 (omega (arith, n7)) l8;
      uplinks = lies_rest (c ++ m ++ g ++ s ++ r ++ n ++ t ++ f) u bytes 0 203 (omega (arith, n8)) lies;
    }

length-moment : (last_due : Option ℕ) → length (moment_bytes last_due) ≡ 9
length-moment None = refl
length-moment (Some due) = refl

length-session : (session : Option ClassSession) → length (session_bytes session) ≡ 9
length-session None = refl
length-session (Some session) = refl

length-reboot : (reboot : Option ℕ) → length (reboot_bytes reboot) ≡ 5
length-reboot None = refl
length-reboot (Some moment) = refl

length-groups : (groups : List (Option Group)) → ((k : ℕ) → k < length groups → GroupFits (group_at groups k)) → length (groups_bytes groups) ≡ 116
length-groups groups fits =
    let g = λ (id : ℕ). group_bytes (group_at groups id) in
    let w = λ (id : ℕ). length-group_bytes (group_at groups id) (fits_at groups id fits) in
    omega (
      arith,
      length-append (g 0 ++ g 1 ++ g 2) (g 3),
      length-append (g 0 ++ g 1) (g 2),
      length-append (g 0) (g 1),
      w 0,
      w 1,
      w 2,
      w 3,
    )

-- the parts of a device
abbrev pub PartsOf : DeviceState → CompleteFlags → List ℕ → Type 0
PartsOf device flags bytes =
    Parts (clock_bytes device.clock) (moment_bytes device.last_due) (groups_bytes device.groups) (session_bytes device.class_session)
    (reboot_bytes device.reboot) (counts_bytes device.counts) (slots_bytes device.slots) (flags_bytes flags) (uplinks_bytes device.outbox) bytes

parts_saved : (config : Configuration) (device : DeviceState) (flags : CompleteFlags) → IsOver config device → PartsOf device flags (saved_of device flags)
unfolding saved_of state_bytes
parts_saved config device flags over =
    let digest = sha256 (state_bytes device flags ++ config_bytes device.config ++ device.slots.running ++ device.slots.next_file) in
    parts_lie (clock_bytes device.clock) (moment_bytes device.last_due) (groups_bytes device.groups) (session_bytes device.class_session)
    (reboot_bytes device.reboot) (counts_bytes device.counts) (slots_bytes device.slots) (flags_bytes flags) (uplinks_bytes device.outbox) (saved_of device flags)
    refl (length-moment device.last_due) (length-groups device.groups over.groups) (length-session device.class_session) (length-reboot device.reboot) refl refl refl
    (record { before = []; after = digest; whole = refl; at = refl })

-- ---- slots

next_none : (next : ImageState) → next_byte next ≡ 0 → next ≡ image.None
next_none image.None is = refl
next_none image.Corrupt is = absurd cc
next_none image.Incompatible is = absurd cc
next_none (image.Valid version) is = absurd cc

next_some : (next : ImageState) → (next ≡ image.None → ⊥) → (next_byte next == 0) ≡ false
next_some image.None not = absurd (not refl)
next_some image.Corrupt not = refl
next_some image.Incompatible not = refl
next_some (image.Valid version) not = refl

two_or : (b : Bool) (formats : ℕ) → (formats == 2) ≡ b → (if b then 2 else formats) ≡ formats
two_or true formats is = sym (eqb-true formats 2 is)
two_or false formats is = refl

formats_told : (formats : ℕ) (slots : Slots) (bytes : List ℕ) → (slots.formats ≡ formats) ⊎ (slots.formats ≡ 2) → get_or bytes 181 0 ≡ slots.formats
    → formats_in formats bytes ≡ slots.formats
formats_told formats slots bytes (inl same) lie = rw (lie, same) (two_or (formats == 2) formats refl)
formats_told formats slots bytes (inr both) lie = rw (lie, both) refl

slots_same : (slots : Slots) (formats version : ℕ) (next : ImageState) (file : List ℕ) → formats ≡ slots.formats → version ≡ slots.version
    → next ≡ slots.next → file ≡ slots.next_file
    → (let told : Slots = record { formats = formats; version = version; running = slots.running; next = next; next_file = file } in told) ≡ slots
slots_same slots formats version next file a b c d = rw (a, b, c, d) refl

-- slots are read as they were
slots_told : (config : Configuration) (slots : Slots) (bytes : List ℕ) → AreSlots config slots → SlotsLie slots bytes
    → slots_in config.hw (first_slots config.formats) bytes slots.running slots.next_file ≡ slots
slots_told config slots bytes are lie =
    let formats = formats_told config.formats slots bytes are.formats lie.formats in
    elim are.sound.read [
      | inl none ↦
          let zero_byte : get_or bytes 186 0 ≡ 0 = lie.next ∙ ap next_byte none.0 in
          rw zero_byte (slots_same slots _ _ _ _ formats lie.version (sym none.0) (sym none.1))
      | inr is ↦
          let some_byte : (get_or bytes 186 0 == 0) ≡ false =
          ap (λ (n : ℕ). n == 0) lie.next
          ∙ next_some slots.next (λ none. is_there slots.next_file config.hw slots.formats (sym is ∙ none)) in
          rw some_byte (slots_same slots _ _ _ _ formats lie.version
          (ap (λ (n : ℕ). image_state slots.next_file config.hw n) formats ∙ sym is) refl)
    ]

-- what runs is the image that it was
runs_told : (config : Configuration) (slots : Slots) (bytes : List ℕ) → AreSlots config slots → SlotsLie slots bytes
    → RunsImage config.hw (running_in (first_slots config.formats) bytes slots.running)
runs_told config slots bytes are lie = rw (formats_told config.formats slots bytes are.formats lie.formats, lie.version) are.sound.runs

-- a file comes only where next is not none
none_told : (config : Configuration) (slots : Slots) (bytes : List ℕ) → AreSlots config slots → SlotsLie slots bytes
    → get_or bytes 186 0 ≡ 0 → length slots.next_file ≡ 0
none_told config slots bytes are lie is = elim are.sound.read [
  | inl none ↦ ap length none.1
  | inr read ↦ absurd (is_there slots.next_file config.hw slots.formats (sym read ∙ next_none slots.next (sym lie.next ∙ is)))
]

-- ---- all of it

pub record IsReadBack (config : Configuration) (saved running next : List ℕ) (device : DeviceState) (flags : CompleteFlags) : Type 0 where
  pub fits : CanTake config saved running next
  pub told : told_of (first_device config) saved running next ≡ record device { sessions = no_sessions }
  pub flags_are : flags_in saved ≡ flags

read_of : (config : Configuration) (device : DeviceState) (flags : CompleteFlags) (bytes : List ℕ) → IsOver config device → PartsOf device flags bytes
    → IsReadBack config bytes device.slots.running device.slots.next_file device flags
read_of config device flags bytes over parts =
    let lie = slots_back device.slots bytes over.slots.version parts.slots in
    let uplinks = uplinks_back device.outbox bytes over.few over.uplinks parts.uplinks in
    record {
      fits = record {
        runs = over.slots.room.running;
        image = runs_told config device.slots bytes over.slots lie;
        follows = over.slots.room.next_file;
        none = none_told config device.slots bytes over.slots lie;
        uplinks = rw uplinks (spelled_all device.outbox over.uplinks);
      };
      told = rw (
        clock_back device.clock bytes over.offset over.token parts.clock,
        moment_back device.last_due bytes over.last_due parts.moment,
        groups_back device.groups config.groups bytes over.places over.few_places over.groups parts.groups,
        session_back device.class_session bytes over.class_session parts.session,
        reboot_back device.reboot bytes over.reboot parts.reboot,
        counts_back device.counts bytes over.counts parts.counts,
        slots_told config device.slots bytes over.slots lie,
        uplinks,
        ← over.config_is,
      ) refl;
      flags_are = flags_back flags bytes parts.flags;
    }

pub read_back : (config : Configuration) (saved running next : List ℕ) (device : DeviceState) (flags : CompleteFlags)
    → IsSaved config saved running next device flags → IsReadBack config saved running next device flags
read_back config saved running next device flags is =
    rw (← is.running_is, ← is.next_is, ← is.saved_is)
    (read_of config device flags (saved_of device flags) is.over (parts_saved config device flags is.over))

-- ---- what a device keeps of its class session

kind_is : (kind : Kind) → KindFits kind → periodicity_of kind < 8
kind_is ClassC fits = omega arith
kind_is (ClassB periodicity) fits = fits

pub session_is : (session : Option ClassSession) → SessionFits session → IfSome session (λ s. s.time < 2 ^ 32) → IsSession session
session_is None fits time = tt
session_is (Some session) fits time = (fits.0, kind_is session.kind fits.2, time, fits.1)

-- ---- what is read of any bytes whose files fit

option_below : (b : Bool) (limit n : ℕ) → n < limit → IsBelow limit (if b then None else Some n)
option_below true limit n fits = tt
option_below false limit n fits = fits

option_group : (b : Bool) (group : Group) → GroupFits (Some group) → GroupFits (if b then None else Some group)
option_group true group fits = tt
option_group false group fits = fits

option_session : (b : Bool) (session : ClassSession) → IsSession (Some session) → IsSession (if b then None else Some session)
option_session true session fits = tt
option_session false session fits = fits

kind_fits : (b : Bool) (periodicity : ℕ) → periodicity_of (if b then ClassC else ClassB (periodicity % 8)) < 8
kind_fits true periodicity = omega arith
kind_fits false periodicity = omega arith

length-range : (bytes : List ℕ) (at : ℕ) → at + 20 ≤ length bytes → length (slice_range bytes (at + 4) (at + 20)) ≡ 16
length-range bytes at long =
    let wide : at + 20 - (at + 4) ≡ 16 = omega arith in
    length-take (at + 20 - (at + 4)) (drop (at + 4) bytes)
    ∙ omega (arith, wide, length-drop (at + 4) bytes, long)

place_fits : (bytes : List ℕ) (id : ℕ) → (all : (k : ℕ) → get_or bytes k 0 < 256) → length bytes ≡ 492 → id < 4 → GroupFits (place_in bytes id)
place_fits bytes id all long less =
    let at = 19 + 29 * id + 1 in
    option_group (get_or bytes (19 + 29 * id) 0 == 0) (group_in bytes at) (
      number_below bytes at 4 all,
      length-range bytes at (omega (arith, long, less)),
      number_below bytes (at + 20) 4 all,
      number_below bytes (at + 24) 4 all,
    )

groups_fit : (bytes : List ℕ) (number id : ℕ) → (all : (k : ℕ) → get_or bytes k 0 < 256) → length bytes ≡ 492 → number ≤ 4
    → id < length (groups_in bytes number) → GroupFits (group_at (groups_in bytes number) id)
groups_fit bytes number id all long few less =
    let many = length-map-range_with_len (λ k. place_in bytes k) 0 number in
    let within : id < number = omega (arith, less, many) in
    let is = get_or-map-range_with_len (λ k. place_in bytes k) 0 number id id None within (omega arith) in
    rw is (place_fits bytes id all long (omega (arith, within, few)))

uplinks_fit : (bytes : List ℕ) (ks : List ℕ) → (all : (k : ℕ) → get_or bytes k 0 < 256)
    → AllByRecursion IsUplink (map (λ k. uplink_at bytes (204 + 32 * k)) ks) → AllByRecursion UplinkFits (map (λ k. uplink_at bytes (204 + 32 * k)) ks)
uplinks_fit bytes [] all spelled = tt
uplinks_fit bytes (k ∷ ks) all spelled =
    (record { due = number_below bytes (204 + 32 * k) 8 all; spelled = spelled.0 }, uplinks_fit bytes ks all spelled.1)

formats_fit : (b : Bool) (formats : ℕ) → ((if b then 2 else formats) ≡ formats) ⊎ ((if b then 2 else formats) ≡ 2)
formats_fit true formats = inr refl
formats_fit false formats = inl refl

slots_fit : (config : Configuration) (bytes running next : List ℕ) (b : Bool) → (get_or bytes 186 0 == 0) ≡ b → (all : (k : ℕ) → get_or bytes k 0 < 256)
    → CanTake config bytes running next
    → AreSlots config (if b then running_in (first_slots config.formats) bytes running
    else record (running_in (first_slots config.formats) bytes running) {
      next = image_state next config.hw (formats_in config.formats bytes);
      next_file = next;
    })
slots_fit config bytes running next true is all fits = record {
  formats = formats_fit (get_or bytes 181 0 == 2) config.formats;
  version = number_below bytes 182 4 all;
  sound = record { runs = fits.image; read = inl (refl, refl) };
  room = record { running = fits.runs; next_file = omega arith };
}
slots_fit config bytes running next false is all fits = record {
  formats = formats_fit (get_or bytes 181 0 == 2) config.formats;
  version = number_below bytes 182 4 all;
  sound = record { runs = fits.image; read = inr refl };
  room = record { running = fits.runs; next_file = fits.follows };
}

pub over_told : (config : Configuration) (bytes running next : List ℕ) → (all : (k : ℕ) → get_or bytes k 0 < 256) → length bytes ≡ 492
    → config.groups ≤ 4 → CanTake config bytes running next → IsOver config (told_of (first_device config) bytes running next)
over_told config bytes running next all long few fits = record {
  config_is = refl;
  offset = number_below bytes 5 4 all;
  token = omega arith;
  last_due = option_below (get_or bytes 10 0 == 0) (2 ^ 64) (number_at bytes 11 8) (number_below bytes 11 8 all);
  places = length-map-range_with_len (λ id. place_in bytes id) 0 config.groups;
  few_places = few;
  groups = λ id less. groups_fit bytes config.groups id all long few less;
  class_session = option_session (get_or bytes 135 0 == 0) (session_fields_in bytes 136)
      (omega arith, kind_fits (get_or bytes 137 0 == 0) (get_or bytes 138 0), number_below bytes 139 4 all, omega arith);
  reboot = option_below (get_or bytes 144 0 == 0) (2 ^ 32) (number_at bytes 145 4) (number_below bytes 145 4 all);
  counts = record {
    deaf = number_below bytes 149 8 all;
    refused = number_below bytes 157 8 all;
    full = number_below bytes 165 8 all;
    dropped = number_below bytes 173 8 all;
  };
  slots = slots_fit config bytes running next (get_or bytes 186 0 == 0) refl all fits;
  few = let many = length-map-range_with_len (λ k. uplink_at bytes (204 + 32 * k)) 0 (min (get_or bytes 203 0) 8) in omega (arith, many);
  uplinks = uplinks_fit bytes (range_with_len 0 (min (get_or bytes 203 0) 8)) all fits.uplinks;
}

none_of : (file : List ℕ) → length file ≡ 0 → file ≡ []
none_of [] is = refl
none_of (x ∷ file) is = absurd (omega (arith, is))

-- a file that comes for a next that is none has no bytes, so that next is what was saved
pub files_told : (config : Configuration) (bytes running next : List ℕ) → CanTake config bytes running next
    → (told_of (first_device config) bytes running next).slots.next_file ≡ next
files_told config bytes running next fits = by_byte (get_or bytes 186 0 == 0) refl
  where
    by_byte : (b : Bool) → (get_or bytes 186 0 == 0) ≡ b
        → (if b then running_in (first_slots config.formats) bytes running
        else record (running_in (first_slots config.formats) bytes running) {
          next = image_state next config.hw (formats_in config.formats bytes);
          next_file = next;
        }).next_file ≡ next
    by_byte true is = sym (none_of next (fits.none (eqb-true (get_or bytes 186 0) 0 is)))
    by_byte false is = refl

-- ---- how long they are

length-saved : (config : Configuration) (device : DeviceState) (flags : CompleteFlags) → IsOver config device → length (saved_of device flags) ≡ 492
unfolding saved_of state_bytes
length-saved config device flags over =
    let c = clock_bytes device.clock in
    let m = moment_bytes device.last_due in
    let g = groups_bytes device.groups in
    let s = session_bytes device.class_session in
    let r = reboot_bytes device.reboot in
    let n = counts_bytes device.counts in
    let t = slots_bytes device.slots in
    let f = flags_bytes flags in
    let u = uplinks_bytes device.outbox in
    let digest = sha256 (state_bytes device flags ++ config_bytes device.config ++ device.slots.running ++ device.slots.next_file) in
    all_parts c m g s r n t f u digest refl (length-moment device.last_due) (length-groups device.groups over.groups) (length-session device.class_session)
    (length-reboot device.reboot) refl refl refl (length-uplinks device.outbox over.few over.uplinks) (length-sha256 _)
  where
    all_parts : (c m g s r n t f u d : List ℕ) → length c ≡ 10 → length m ≡ 9 → length g ≡ 116 → length s ≡ 9 → length r ≡ 5
        → length n ≡ 32 → length t ≡ 18 → length f ≡ 4 → length u ≡ 257 → length d ≡ 32
        → length (c ++ m ++ g ++ s ++ r ++ n ++ t ++ f ++ u ++ d) ≡ 492
    all_parts c m g s r n t f u d wc wm wg ws wr wn wt wf wu wd =
        omega (
          arith,
          length-append (c ++ m ++ g ++ s ++ r ++ n ++ t ++ f ++ u) d,
          length-append (c ++ m ++ g ++ s ++ r ++ n ++ t ++ f) u,
          length-append (c ++ m ++ g ++ s ++ r ++ n ++ t) f,
          length-append (c ++ m ++ g ++ s ++ r ++ n) t,
          length-append (c ++ m ++ g ++ s ++ r) n,
          length-append (c ++ m ++ g ++ s) r,
          length-append (c ++ m ++ g) s,
          length-append (c ++ m) g,
          length-append c m,
        )

-- bytes of a record are so many
pub saved_long : (config : Configuration) (saved running next : List ℕ) (device : DeviceState) (flags : CompleteFlags)
    → IsSaved config saved running next device flags → length saved ≡ 492
saved_long config saved running next device flags is = ap length (sym is.saved_is) ∙ length-saved config device flags is.over
