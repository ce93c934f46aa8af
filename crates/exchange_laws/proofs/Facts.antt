-- What stays true of a device, and what each command of the server makes of it.
use Rattle.std.proofs.Common.{◌≡◌, ◌⊎◌, inl, inr, ⊎_elim, ℕ, Bool, true, false, not, cond, ◌&&◌, List, [], ◌∷◌, ◌++◌, length, map, Option, None, Some, is_some, Ok, refl, sym, ap, ◌∙◌, subst}
use Rattle.std.specs.List.{AllByRecursion}
use Rattle.wire_base.specs.declared.refusal.Direction.TheVariants.{Up}
use Rattle.frag_session.specs.declared.answers.Verdict.{Verdict as Shown}
use Rattle.frag_session.specs.declared.answers.Verdict.TheVariants as shown
use Rattle.frag_session.specs.Session.{Session, seen_of}
use Rattle.image_slots.specs.declared.view.ImageState.{ImageState}
use Rattle.image_slots.specs.declared.view.ImageState.TheVariants as state
use Rattle.image_slots.specs.Image.{is_image, is_unknown, is_for, firmware_of, image_state}
use Rattle.image_slots.specs.Slots.{Slots, after_offer, after_swap, after_raise}
use Rattle.mc_group.specs.declared.group.Group.{Group}
use Rattle.mc_group.specs.Groups.{group_at}
use Rattle.cast_wire.specs.declared.cmd.Cmd.TheVariants as c
use Rattle.sync_wire.specs.declared.cmd.Cmd.TheVariants as s
use Rattle.package_grammar.specs.declared.command.Command.{Command}
use Rattle.package_grammar.specs.declared.command.Command.TheVariants.{Sync, Cast}
use Rattle.package_grammar.specs.Reading.{reading_of}
use Rattle.device_core.specs.Configuration.{Configuration}
use Rattle.device_core.specs.declared.uplink.Uplink.{Uplink}
use Rattle.device_core.specs.Answers.{DeviceStep, uplink_of, after_answers}
use Rattle.device_core.specs.Device.{DeviceState}
use Rattle.device_core.specs.Fragments.{slots_after}
use Rattle.device_core.specs.SessionTable.{SessionTable, session_at}
use Rattle.campaign_server.specs.Plan.{Plan, own_id}
use Rattle.campaign_laws.specs.Ledger.{IsRunning}
use Rattle.campaign_laws.proofs.LedgerSlots.{HasSlots, swapped_slots}
use Rattle.exchange_laws.specs.Updating.{Fits}
use Rattle.exchange_laws.proofs.Backing.{Facts, IsTrue}

-- ---- a device, as far as its facts go

pub record Core : Type 0 where
  pub config : Configuration
  pub groups : List (Option Group)
  pub sessions : SessionTable
  pub slots : Slots
  pub reboot : Option ℕ
  pub outbox : List Uplink

abbrev pub core_of : DeviceState → Core
core_of d = record { config = d.config; groups = d.groups; sessions = d.sessions; slots = d.slots; reboot = d.reboot; outbox = d.outbox }

-- the plan has no group, or the device has it
abbrev pub HasGroup : Plan → List (Option Group) → Type 0
HasGroup plan groups = (plan.group ≡ None) ⊎ (is_some (group_at groups (own_id plan.group)) ≡ true)

-- the image is next, or it runs
abbrev pub HasIt : List ℕ → Slots → Type 0
HasIt image slots = (slots.next ≡ state.Valid (firmware_of image)) ⊎ IsRunning image slots

-- the session of this index has this verdict
pub record HasVerdict (index : ℕ) (table : SessionTable) (v : Shown) : Type 0 where
  pub session : Session
  pub there : session_at table index ≡ Some session
  pub is : (seen_of session).verdict ≡ v

abbrev pub IsOverIn : ℕ → SessionTable → Type 0
IsOverIn index table = (mark : ℕ) × HasVerdict index table (shown.NoRows mark)

abbrev pub facts_of : List ℕ → Plan → Core → Facts
facts_of image plan c = record {
  Grouped = HasGroup plan c.groups;
  HasImage = HasIt image c.slots;
  Runs = IsRunning image c.slots;
  IsOver = IsOverIn plan.index c.sessions;
}

-- ---- facts stay

pub record Advances (f g : Facts) : Type 0 where
  pub grouped : f.Grouped → g.Grouped
  pub has : f.HasImage → g.HasImage
  pub runs : f.Runs → g.Runs
  pub over : f.IsOver → g.IsOver

-- an uplink says what is true
abbrev pub TellsTrue : Facts → List ℕ → ℕ → Uplink → Type 0
TellsTrue f image index uplink =
    (cs : List Command) → reading_of uplink.port Up uplink.payload ≡ Ok cs → AllByRecursion (IsTrue f image index) cs

true_on : (f g : Facts) (image : List ℕ) (index : ℕ) (x : Command) → Advances f g → IsTrue f image index x → IsTrue g image index x
true_on f g image index (Sync (s.DevVersionAns firmware hardware)) on is = (is.0, λ same. on.runs (is.1 same))
true_on f g image index (Sync (s.DevUpgradeImageAns status next)) on is = ⊎_elim (λ same. inl same) (λ runs. inr (on.runs runs)) is
true_on f g image index (Sync (s.DevRebootCountdownAns count)) on is = on.runs is
true_on f g image index (Cast (c.McGroupSetupAns id error)) on is = (is.0, on.grouped is.1)
true_on f g image index (Cast (c.FragSessionSetupAns at d u m e)) on is = is
true_on f g image index (Cast (c.McClassCSessionAns id undefined freq dr start)) on is = is
true_on f g image index (Cast (c.McClassBSessionAns id undefined freq dr start)) on is = is
true_on f g image index (Cast (c.FragSessionStatusAns at received missing norows)) on is =
    (λ own over. on.over (is.0 own over), λ own some none. on.has (is.1 own some none))
true_on f g image index x on is = tt

all_true_on : (f g : Facts) (image : List ℕ) (index : ℕ) (cs : List Command) → Advances f g → AllByRecursion (IsTrue f image index) cs → AllByRecursion (IsTrue g image index) cs
all_true_on f g image index [] on all = tt
all_true_on f g image index (x ∷ cs) on all = (true_on f g image index x on all.0, all_true_on f g image index cs on all.1)

pub tells_on : (f g : Facts) (image : List ℕ) (index : ℕ) (us : List Uplink) → Advances f g → AllByRecursion (TellsTrue f image index) us → AllByRecursion (TellsTrue g image index) us
tells_on f g image index [] on all = tt
tells_on f g image index (u ∷ us) on all = (λ cs is. all_true_on f g image index cs on (all.0 cs is), tells_on f g image index us on all.1)

-- ---- a device that suits

-- where the session is whole, the image is next or runs
abbrev pub IsOffered : List ℕ → ℕ → SessionTable → Slots → Type 0
IsOffered image index table slots = (mark : ℕ) → HasVerdict index table (shown.Complete mark) → HasIt image slots

pub record IsApt (image : List ℕ) (plan : Plan) (c : Core) : Type 0 where
  pub fits : Fits image plan c.config
  pub reboot : c.reboot ≡ None
  pub groups : length c.groups ≡ 4
  pub known : image_state image c.config.hw c.slots.formats ≡ state.Valid (firmware_of image)
  pub offered : IsOffered image plan.index c.sessions c.slots
  pub told : AllByRecursion (TellsTrue (facts_of image plan c) image plan.index) c.outbox

-- what it becomes suits too, has what it had, and runs the image no sooner than this holds
pub record Goes (image : List ℕ) (plan : Plan) (Late : Type 0) (c e : Core) : Type 0 where
  pub apt : IsApt image plan e
  pub on : Advances (facts_of image plan c) (facts_of image plan e)
  pub back : IsRunning image e.slots → IsRunning image c.slots ⊎ Late

pub stays : (image : List ℕ) (plan : Plan) (Late : Type 0) (c : Core) → IsApt image plan c → Goes image plan Late c c
stays image plan Late c k = record { apt = k; on = record { grouped = λ x. x; has = λ x. x; runs = λ x. x; over = λ x. x }; back = λ x. inl x }

pub goes_on : (image : List ℕ) (plan : Plan) (Late : Type 0) (c d e : Core) → Goes image plan Late c d → Goes image plan Late d e → Goes image plan Late c e
goes_on image plan Late c d e one more = record {
  apt = more.apt;
  on = record {
    grouped = λ x. more.on.grouped (one.on.grouped x);
    has = λ x. more.on.has (one.on.has x);
    runs = λ x. more.on.runs (one.on.runs x);
    over = λ x. more.on.over (one.on.over x);
  };
  back = λ x. ⊎_elim (λ before. one.back before) (λ late. inr late) (more.back x);
}

-- ---- what all but its uplinks makes

pub record Makes (image : List ℕ) (plan : Plan) (Late : Type 0) (c e : Core) : Type 0 where
  pub config : e.config ≡ c.config
  pub reboot : e.reboot ≡ None
  pub groups : length e.groups ≡ length c.groups
  pub known : e.slots.formats ≡ c.slots.formats
  pub offered : IsOffered image plan.index e.sessions e.slots
  pub on : Advances (facts_of image plan c) (facts_of image plan e)
  pub back : IsRunning image e.slots → IsRunning image c.slots ⊎ Late
  pub outbox : e.outbox ≡ c.outbox

pub made : (image : List ℕ) (plan : Plan) (Late : Type 0) (c e : Core) → IsApt image plan c → Makes image plan Late c e → Goes image plan Late c e
made image plan Late c e k m = record {
  apt = record {
    fits = subst (Fits image plan) (sym m.config) k.fits;
    reboot = m.reboot;
    groups = m.groups ∙ k.groups;
    known = ap (λ (x : Configuration). image_state image x.hw e.slots.formats) m.config ∙ ap (image_state image c.config.hw) m.known ∙ k.known;
    offered = m.offered;
    told = subst (AllByRecursion (TellsTrue (facts_of image plan e) image plan.index)) (sym m.outbox)
        (tells_on (facts_of image plan c) (facts_of image plan e) image plan.index c.outbox m.on k.told);
  };
  on = m.on;
  back = m.back;
}

both_tell : (f : Facts) (image : List ℕ) (index : ℕ) (us vs : List Uplink) → AllByRecursion (TellsTrue f image index) us
    → AllByRecursion (TellsTrue f image index) vs → AllByRecursion (TellsTrue f image index) (us ++ vs)
both_tell f image index [] vs one more = more
both_tell f image index (u ∷ us) vs one more = (one.0, both_tell f image index us vs one.1 more)

-- its answers are in the outbox
pub answered : (image : List ℕ) (plan : Plan) (Late : Type 0) (c : Core) (step : DeviceStep) → Goes image plan Late c (core_of step.device)
    → AllByRecursion (TellsTrue (facts_of image plan (core_of step.device)) image plan.index) (map uplink_of step.answers)
    → Goes image plan Late c (core_of (after_answers step))
unfolding after_answers
answered image plan Late c step goes told = record {
  apt = record {
    fits = goes.apt.fits;
    reboot = goes.apt.reboot;
    groups = goes.apt.groups;
    known = goes.apt.known;
    offered = goes.apt.offered;
    told = both_tell (facts_of image plan (core_of step.device)) image plan.index step.device.outbox (map uplink_of step.answers) goes.apt.told told;
  };
  on = record { grouped = goes.on.grouped; has = goes.on.has; runs = goes.on.runs; over = goes.on.over };
  back = goes.back;
}

-- ---- slots

is_valid_by : (image : List ℕ) (known for : Bool) → cond known (cond for (state.Valid (firmware_of image)) state.Incompatible) state.Corrupt ≡ state.Valid (firmware_of image)
    → (known ≡ true) × (for ≡ true)
is_valid_by image true true is = (refl, refl)
is_valid_by image true false is = absurd cc
is_valid_by image false for is = absurd cc

-- a valid image is for the hardware
pub valid_for : (image : List ℕ) (hw formats : ℕ) → image_state image hw formats ≡ state.Valid (firmware_of image) → is_for image hw ≡ true
unfolding image_state
valid_for image hw formats is = (is_valid_by image _ _ is).1

known_both : (a b : Bool) → (a && not (b && false)) ≡ a
known_both true true = refl
known_both true false = refl
known_both false b = refl

first_true : (a b : Bool) → (a && b) ≡ true → a ≡ true
first_true true b is = refl
first_true false b is = absurd cc

-- and so it is where both formats are known
pub valid_raised : (image : List ℕ) (hw formats : ℕ) → image_state image hw formats ≡ state.Valid (firmware_of image) → image_state image hw 2 ≡ state.Valid (firmware_of image)
unfolding image_state is_unknown
valid_raised image hw formats is =
    let parts = is_valid_by image _ _ is in
    let file : is_image image ≡ true = first_true _ _ parts.0 in
    rw (file, parts.1, known_both true _) refl

swap_by : (image : List ℕ) (formats version : ℕ) (running : List ℕ) (next : ImageState) (file : List ℕ)
    → HasSlots image (record { formats = formats; version = version; running = running; next = next; next_file = file })
    → next ≡ state.Valid (firmware_of image)
    → IsRunning image (after_swap (record { formats = formats; version = version; running = running; next = next; next_file = file }))
unfolding after_swap
swap_by image formats version running state.None file k is = absurd cc
swap_by image formats version running state.Corrupt file k is = absurd cc
swap_by image formats version running state.Incompatible file k is = absurd cc
swap_by image formats version running (state.Valid held) file k is = elim k.next [
  | inl none ↦ absurd cc
  | inr own ↦ record { version = own.version held refl; bytes = own.bytes }
]

-- after a reboot a device that has the image runs it
pub swap_runs : (image : List ℕ) (slots : Slots) → HasSlots image slots → HasIt image slots → IsRunning image (after_swap slots)
swap_runs image slots k (inl next) = swap_by image slots.formats slots.version slots.running slots.next slots.next_file k next
swap_runs image slots k (inr runs) = (swapped_slots image slots k).runs runs

formats_by : (formats version : ℕ) (running : List ℕ) (next : ImageState) (file : List ℕ)
    → (after_swap (record { formats = formats; version = version; running = running; next = next; next_file = file })).formats ≡ formats
unfolding after_swap
formats_by formats version running state.None file = refl
formats_by formats version running state.Corrupt file = refl
formats_by formats version running state.Incompatible file = refl
formats_by formats version running (state.Valid held) file = refl

pub swap_formats : (slots : Slots) → (after_swap slots).formats ≡ slots.formats
swap_formats slots = formats_by slots.formats slots.version slots.running slots.next slots.next_file

raise_by : (image : List ℕ) (hw formats version : ℕ) (running : List ℕ) (next : ImageState) (file : List ℕ)
    → HasSlots image (record { formats = formats; version = version; running = running; next = next; next_file = file })
    → image_state image hw 2 ≡ state.Valid (firmware_of image) → next ≡ state.Valid (firmware_of image)
    → (after_raise hw (record { formats = formats; version = version; running = running; next = next; next_file = file })).next ≡ state.Valid (firmware_of image)
unfolding after_raise
raise_by image hw formats version running state.None file k known is = absurd cc
raise_by image hw formats version running state.Corrupt file k known is = absurd cc
raise_by image hw formats version running state.Incompatible file k known is = absurd cc
raise_by image hw formats version running (state.Valid held) file k known is = elim k.next [
  | inl none ↦ absurd cc
  | inr own ↦ ap (λ (x : List ℕ). image_state x hw 2) own.bytes ∙ known
]

-- a device that learns a format has the image still
pub raise_has : (image : List ℕ) (hw : ℕ) (slots : Slots) → HasSlots image slots → image_state image hw 2 ≡ state.Valid (firmware_of image) → HasIt image slots
    → HasIt image (after_raise hw slots)
unfolding after_raise
raise_has image hw slots k known (inl next) = inl (raise_by image hw slots.formats slots.version slots.running slots.next slots.next_file k known next)
raise_has image hw slots k known (inr runs) = inr (record { version = runs.version; bytes = runs.bytes })

-- what the session's file makes of the slots
pub record IsOfferedBy (image : List ℕ) (was : Bool) (whole : Option (List ℕ)) (old new : Slots) : Type 0 where
  pub formats : new.formats ≡ old.formats
  pub has : HasIt image old → HasIt image new
  pub runs : IsRunning image old → IsRunning image new
  pub back : IsRunning image new → IsRunning image old
  pub next : was ≡ false → (file : List ℕ) → whole ≡ Some file → HasIt image new

pub offered_by : (image : List ℕ) (hw : ℕ) (was : Bool) (whole : Option (List ℕ)) (slots : Slots) → ((x : List ℕ) → whole ≡ Some x → x ≡ image)
    → image_state image hw slots.formats ≡ state.Valid (firmware_of image) → IsOfferedBy image was whole slots (slots_after hw was whole slots)
unfolding after_offer
offered_by image hw true whole slots is known =
    record { formats = refl; has = λ x. x; runs = λ x. x; back = λ x. x; next = λ no. absurd cc }
offered_by image hw false None slots is known =
    record { formats = refl; has = λ x. x; runs = λ x. x; back = λ x. x; next = λ no file some. absurd cc }
offered_by image hw false (Some file) slots is known =
    let own : image_state file hw slots.formats ≡ state.Valid (firmware_of image) = ap (λ (x : List ℕ). image_state x hw slots.formats) (is file refl) ∙ known in
    record {
      formats = refl;
      has = λ x. inl own;
      runs = λ r. record { version = r.version; bytes = r.bytes };
      back = λ r. record { version = r.version; bytes = r.bytes };
      next = λ no x some. inl own;
    }
