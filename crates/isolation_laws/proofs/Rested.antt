-- Between two lines no device of a campaign has a reboot to come, and all that was sent is tame.
use Rattle.std.proofs.Common.{◌≡◌, ℕ, zero, suc, ◌+◌, ◌-◌, ◌^◌, ◌<◌, Bool, true, false, not, List, [], ◌∷◌, All, Option, Some, None, IfSome, Ok, refl, sym, ap, ◌∙◌, subst, true≢false}
use Rattle.std.specs.List.{AllByRecursion, slice_set}
use Rattle.std.specs.Result.{result_ok}
use Rattle.wire_base.specs.Numbered.{numbered}
use Rattle.wire_base.specs.declared.refusal.Direction.TheVariants.{Down as Downwards}
use Rattle.package_grammar.specs.declared.downlink.Downlink.{Downlink}
use Rattle.package_grammar.specs.Reading.{reading_of}
use Rattle.device_core.specs.Device.{DeviceState, first_device}
use Rattle.device_core.specs.Events.{Event, Wakes, Receives, Migrates, event_step, uplinks_taken}
use Rattle.campaign_server.specs.Server.{ServerState, DownlinkCommand, ledger}
use Rattle.campaign_server.specs.Asking.{by_unicast, request_of}
use Rattle.campaign_server.specs.Fragments.{next_fragment, after_fragment, status_to_all, after_status_to_all}
use Rattle.campaign_server.specs.Time.{time_answer}
use Rattle.campaign_server.specs.Uplinks.{with_answers}
use Rattle.script_lines.specs.declared.forms.Form.{Form}
use Rattle.script_lines.specs.declared.forms.Form.TheVariants.{Header, Image, Group, WindowC, WindowB, Device, At as Time, Wake, Migrate, Power, Ask, Frag, Status, Down, Raw, Air, RawAir, Up, End}
use Rattle.campaign_world.specs.declared.numbered.NumberedUplink.{NumberedUplink}
use Rattle.campaign_world.specs.World.{WorldState}
use Rattle.campaign_world.specs.Said.{Said, Own, Elsewhere, Reached}
use Rattle.campaign_world.specs.Causes.{form_cause, said_cause}
use Rattle.campaign_world.specs.Making.{with_sent, with_device, with_event, after_up, at_events, config_of, after_form, after_said}
use Rattle.campaign_world.specs.Honest.{are_for_others, has_raw}
use Rattle.campaign_world.proofs.Zips.{all_more}
use Rattle.campaign_laws.specs.Headline.{HasNoOther}
use Rattle.campaign_laws.proofs.Events.{up_by}
use Rattle.campaign_laws.proofs.Items.{all_numbered}
use Rattle.campaign_laws.proofs.HeadlineCommands.{cut_of, IsCut}
use Rattle.campaign_laws.proofs.HeadlineWorlds.{Keeps}
use Rattle.campaign_laws.proofs.HeadlineForms.{passes, is_strange, late_cut, payload_there, reached_passes}
use Rattle.campaign_laws.proofs.Airing.{heard_as, is_heard}
use Rattle.campaign_laws.proofs.HonestLines.{Stands, alone_at}
use Rattle.campaign_laws.proofs.Indexed.{IsIndexed, late_index, events_index}
use Rattle.pair_run.specs.Counting.{IsAlike}
use Rattle.pair_laws.proofs.Crossing.{counted_alone}
use Rattle.isolation_laws.proofs.Resting.{Rests, delivery_rests, waking_rests, migration_rests}
use Rattle.campaign_laws.proofs.HeadlineEnds.{IsToAll, fragment_to_all, status_to_each}
use Rattle.isolation_laws.proofs.Tame.{IsTame, sent_to, all_tame, asked_tame, answer_tame}

-- what holds between two lines
pub record Rested (index : ℕ) (w : WorldState) : Type 0 where
  pub devices : AllByRecursion Rests w.devices
  pub sent : AllByRecursion (IsTame index) w.sent

all_set : {A : Type 0} (P : A → Type 0) (xs : List A) (i : ℕ) (x : A) → AllByRecursion P xs → P x → AllByRecursion P (slice_set xs i x)
all_set P [] i x all one = tt
all_set P (y ∷ ys) zero x all one = (one, all.1)
all_set P (y ∷ ys) (suc i) x all one = (all.0, all_set P ys i x all.1 one)

-- ---- an event

device_rested : (index : ℕ) (w : WorldState) (n : ℕ) (e : DeviceState) → Rests e → Rested index w → Rested index (at_events (with_device w n e))
unfolding with_device
device_rested index w n e rests k =
    record { devices = all_set Rests w.devices (n - 1) (uplinks_taken e) k.devices rests; sent = k.sent }

event_rested : (index : ℕ) (w : WorldState) (n : ℕ) (found : Option DeviceState) (event : Event)
    → numbered w.devices n ≡ found → ((d : DeviceState) → numbered w.devices n ≡ Some d → Rests (event_step d event)) → Rested index w
    → Rested index (with_event w n (Some event))
event_rested index w n None event is step k = rw is (record { devices = k.devices; sent = k.sent })
event_rested index w n (Some d) event is step k = rw is (device_rested index w n (event_step d event) (step d is) k)

at_device : (index : ℕ) (w : WorldState) (n : ℕ) (d : DeviceState) → Rested index w → numbered w.devices n ≡ Some d → Rests d
at_device index w n d k there = all_numbered Rests w.devices n d k.devices there

-- ---- what is sent

sends_rested : (index : ℕ) (w : WorldState) (s : ServerState) (to : Option ℕ) (o : Option DownlinkCommand)
    → IfSome o (λ down. IsTame index (sent_to to down)) → Rested index w
    → Rested index (at_events (with_sent (record w { server = s }) to o))
sends_rested index w s to None fine k = record { devices = k.devices; sent = k.sent }
sends_rested index w s to (Some down) fine k =
    record { devices = k.devices; sent = all_more (IsTame index) w.sent (sent_to to down) k.sent fine }

up_rested : (index : ℕ) (w : WorldState) (o : Option NumberedUplink) → Rested index w → Rested index (at_events (after_up w o))
up_rested index w o k =
    up_by (Rested index) w (record { devices = k.devices; sent = k.sent })
    (λ dev cs. sends_rested index w (with_answers w.server dev cs (ledger w.server dev)) (Some dev) (by_unicast (time_answer w.time cs))
    (answer_tame index dev w.time cs) k) o

to_all_sent : (image : List ℕ) (index : ℕ) (w : WorldState) (o : Option DownlinkCommand) → w.server.plan.index ≡ index → IsCut image (cut_of w.server.plan)
    → IfSome o (IsToAll image (cut_of w.server.plan)) → IfSome o (λ down. IsTame index (sent_to None down))
to_all_sent image index w None own cut k = tt
to_all_sent image index w (Some down) own cut k =
    subst (λ (i : ℕ). IsTame i (sent_to None down)) own (all_tame image (cut_of w.server.plan) None down cut k)

-- ---- a form

form_rested : (image : List ℕ) (index : ℕ) (w : WorldState) (form : Form) → Keeps image w → IsIndexed index w.section w.server.plan
    → form_cause w form ≡ None → is_strange form ≡ false → Rested index w → Rested index (after_form w form)
unfolding after_form
form_rested image index w Header keeps own fine plain k = record { devices = k.devices; sent = k.sent }
form_rested image index w (Image size parity its) keeps own fine plain k = record { devices = k.devices; sent = k.sent }
form_rested image index w (Group id addr key min max) keeps own fine plain k = record { devices = k.devices; sent = k.sent }
form_rested image index w (WindowC start timeout freq dr) keeps own fine plain k = record { devices = k.devices; sent = k.sent }
form_rested image index w (WindowB start periodicity timeout freq dr) keeps own fine plain k = record { devices = k.devices; sent = k.sent }
form_rested image index w (Device dev) keeps own fine plain k =
    record { devices = all_more Rests w.devices (first_device (config_of dev)) k.devices refl; sent = k.sent }
form_rested image index w (Time time) keeps own fine plain k = record { devices = k.devices; sent = k.sent }
form_rested image index w (Power n) keeps own fine plain k = record { devices = k.devices; sent = k.sent }
form_rested image index w (Wake n) keeps own fine plain k =
    event_rested index w n (numbered w.devices n) (Wakes w.time) refl (λ d there. waking_rests w.time d (at_device index w n d k there)) k
form_rested image index w (Migrate n) keeps own fine plain k =
    event_rested index w n (numbered w.devices n) Migrates refl (λ d there. migration_rests d (at_device index w n d k there)) k
form_rested image index w (Ask n) keeps own fine plain k =
    sends_rested index w w.server (Some n) (request_of w.server n) (asked_tame index w.server n) k
form_rested image index w Frag keeps own fine plain k =
    let p = passes w Frag fine in
    sends_rested index w (after_fragment w.server) None (result_ok (next_fragment w.server))
    (to_all_sent image index w _ (late_index index w.server.plan Frag w.section refl p.may own) (late_cut image w Frag w.section refl p.may keeps.stands)
    (fragment_to_all image w.server keeps.server)) k
form_rested image index w Status keeps own fine plain k =
    let p = passes w Status fine in
    sends_rested index w (after_status_to_all w.server) None (status_to_all w.server)
    (to_all_sent image index w _ (late_index index w.server.plan Status w.section refl p.may own) (late_cut image w Status w.section refl p.may keeps.stands)
    (status_to_each image w.server)) k
form_rested image index w (Down number n word) keeps own fine plain k =
    let p = passes w (Down number n word) fine in
    let got = payload_there n (numbered w.sent number) p.come in
    let tame = all_numbered (IsTame index) w.sent number got.0 k.sent got.1 in
    rw (got.1) (event_rested index w n (numbered w.devices n) (Receives w.time word (w.lines + 1) got.0.down) refl
    (λ d there. delivery_rests w.time word (w.lines + 1) got.0.down d tame.soft (at_device index w n d k there)) k)
form_rested image index w (Raw n port payload word) keeps own fine plain k = absurd (true≢false plain)
form_rested image index w (Air number n word) keeps own fine plain k = absurd (true≢false plain)
form_rested image index w (RawAir n bytes word) keeps own fine plain k = absurd (true≢false plain)
form_rested image index w (Up number) keeps own fine plain k = up_rested index w (numbered w.uplinks number) k
form_rested image index w End keeps own fine plain k = record { devices = k.devices; sent = k.sent }

-- ---- what a line says

alike_rests : (d e : DeviceState) → IsAlike d e → Rests d → Rests e
alike_rests d e alike rests = sym (ap (λ (x : DeviceState). x.reboot) alike) ∙ rests

-- a payload that is for others leaves a device of this campaign as it is except for its counters
pub reached_alike : (image : List ℕ) (index : ℕ) (w : WorldState) (n word : ℕ) (down : Downlink) (d : DeviceState) → Stands image index w → Rested index w
    → said_cause w (Reached n word down) ≡ None → are_for_others index (reading_of down.port Downwards down.payload) ≡ true
    → numbered w.devices n ≡ Some d → IsAlike d (event_step d (Receives w.time word (w.lines + 1) down))
reached_alike image index w n word down d stands k fine others there =
    let own : w.server.plan.index ≡ index = events_index index w.server.plan w.section (reached_passes w n word down fine).0 stands.indexed in
    counted_alone index w.time word (w.lines + 1) down d others
    (subst (λ (i : ℕ). HasNoOther i d.sessions) own (alone_at image w stands.keeps n d there)) (at_device index w n d k there)

pub said_rested : (image : List ℕ) (index : ℕ) (w : WorldState) (said : Said) → All (λ b. b < 2 ^ 8) image → Stands image index w
    → said_cause w said ≡ None → has_raw index (Ok said) ≡ false → Rested index w → Rested index (after_said w said)
said_rested image index w (Own form) bytes stands fine honest k =
    let heard = is_heard image w form bytes stands.keeps stands.keyed fine honest in
    subst (Rested index) (sym heard.same) (form_rested image index w (heard_as form) stands.keeps stands.indexed heard.fine heard.plain k)
said_rested image index w Elsewhere bytes stands fine honest k = k
said_rested image index w (Reached n word down) bytes stands fine honest k =
    event_rested index w n (numbered w.devices n) (Receives w.time word (w.lines + 1) down) refl
    (λ d there. alike_rests d (event_step d (Receives w.time word (w.lines + 1) down))
    (reached_alike image index w n word down d stands k fine (not_raw (are_for_others index (reading_of down.port Downwards down.payload)) honest) there)
    (at_device index w n d k there)) k
  where
    not_raw : (b : Bool) → not b ≡ false → b ≡ true
    not_raw true is = refl
    not_raw false is = absurd cc
