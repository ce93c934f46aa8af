-- What a form after the plan makes of a campaign, kind by kind.
use Rattle.std.proofs.Common.{◌≡◌, ℕ, true, false, cond, List, Option, None, Some, Ok, Err, is_ok, is_some, refl, sym, true≢false, ◌+◌}
use Rattle.std.specs.Result.{result_ok}
use Rattle.wire_base.specs.Numbered.{numbered}
use Rattle.wire_base.specs.declared.refusal.Direction.TheVariants.{Up as Upwards}
use Rattle.package_grammar.specs.declared.command.Command.{Command}
use Rattle.package_grammar.specs.Reading.{Reading, reading_of}
use Rattle.campaign_server.specs.Server.{ServerState, DownlinkCommand, ledger}
use Rattle.campaign_server.specs.Asking.{by_unicast, request_of}
use Rattle.campaign_server.specs.Fragments.{after_count, next_fragment, after_fragment, status_to_all, after_status_to_all}
use Rattle.campaign_server.specs.Time.{time_answer}
use Rattle.campaign_server.specs.Uplinks.{with_answers, read_uplink, uplink_step}
use Rattle.script_lines.specs.declared.forms.Form.{Form}
use Rattle.script_lines.specs.declared.forms.Form.TheVariants.{At, Wake, Migrate, Power, Ask, Frag, Status, Down, Raw, Air, RawAir, Up, End}
use Rattle.campaign_world.specs.declared.section.Section.{Section}
use Rattle.campaign_world.specs.declared.section.Section.TheVariants as section
use Rattle.campaign_world.specs.declared.numbered.NumberedUplink.{NumberedUplink}
use Rattle.campaign_world.specs.World.{WorldState}
use Rattle.campaign_world.specs.Causes.{is_event_or_end, has_begun}
use Rattle.campaign_world.specs.Making.{with_sent, with_event_of, after_answer, after_up, at_events, after_form}

-- ---- what a server keeps as it sends

pub record SendsOn (s new : ServerState) : Type 0 where
  pub image : new.image ≡ s.image
  pub plan : new.plan ≡ s.plan
  pub stages : new.stages ≡ s.stages

still : (s : ServerState) → SendsOn s s
still s = record { image = refl; plan = refl; stages = refl }

-- a count goes on where something was sent
pub fragment_sends : (s : ServerState) → SendsOn s (after_fragment s)
unfolding after_fragment
fragment_sends s = elim (is_ok (next_fragment s)) as (λ b. SendsOn s (cond b (after_count (record s { next = s.next + 1 })) s)) [
  | true ↦ record { image = refl; plan = refl; stages = refl }
  | false ↦ still s
]

pub status_sends : (s : ServerState) → SendsOn s (after_status_to_all s)
unfolding after_status_to_all
status_sends s = elim (is_some (status_to_all s)) as (λ b. SendsOn s (cond b (after_count s) s)) [
  | true ↦ record { image = refl; plan = refl; stages = refl }
  | false ↦ still s
]

-- ---- what comes after an uplink

-- the server after the commands of one, which may answer with the time
abbrev pub answered : WorldState → (dev : ℕ) → List Command → WorldState
answered w dev cs =
    at_events (with_sent (record w { server = with_answers w.server dev cs (ledger w.server dev) }) (Some dev) (by_unicast (time_answer w.time cs)))

read_by : (R : WorldState → Type 0) (w : WorldState) → R (at_events w) → ((dev : ℕ) (cs : List Command) → R (answered w dev cs))
    → (dev : ℕ) (r : Reading) → R (at_events (after_answer w dev (read_uplink w.server dev w.time r)))
unfolding read_uplink
read_by R w none some dev (Ok cs) = some dev cs
read_by R w none some dev (Err refusal) = none

pub up_by : (R : WorldState → Type 0) (w : WorldState) → R (at_events w) → ((dev : ℕ) (cs : List Command) → R (answered w dev cs))
    → (o : Option NumberedUplink) → R (at_events (after_up w o))
unfolding uplink_step
up_by R w none some None = none
up_by R w none some (Some made) = read_by R w none some made.device (reading_of made.uplink.port Upwards made.uplink.payload)

-- ---- what comes after each form

pub by_event : (R : WorldState → Type 0) (w : WorldState)
    → ((time : ℕ) (here : Section) → has_begun here ≡ true → R (record w { time = time; section = here }))
    → ((n : ℕ) (form : Form) → R (with_event_of w n form))
    → ((s : ServerState) (to : Option ℕ) (down : Option DownlinkCommand) → SendsOn w.server s → R (at_events (with_sent (record w { server = s }) to down)))
    → ((dev : ℕ) (cs : List Command) → R (answered w dev cs))
    → (form : Form) → is_event_or_end form ≡ true → R (after_form w form)
unfolding after_form
by_event R w stays happens sends answers (At time) is = stays time section.Events refl
by_event R w stays happens sends answers (Wake n) is = happens n (Wake n)
by_event R w stays happens sends answers (Migrate n) is = happens n (Migrate n)
by_event R w stays happens sends answers (Power n) is = stays w.time section.Events refl
by_event R w stays happens sends answers (Ask n) is =
    sends w.server (Some n) (request_of w.server n) (still w.server)
by_event R w stays happens sends answers Frag is = sends (after_fragment w.server) None (result_ok (next_fragment w.server)) (fragment_sends w.server)
by_event R w stays happens sends answers Status is = sends (after_status_to_all w.server) None (status_to_all w.server) (status_sends w.server)
by_event R w stays happens sends answers (Down number n word) is = happens n (Down number n word)
by_event R w stays happens sends answers (Raw n port payload word) is = happens n (Raw n port payload word)
by_event R w stays happens sends answers (Air number n word) is = happens n (Air number n word)
by_event R w stays happens sends answers (RawAir n bytes word) is = happens n (RawAir n bytes word)
by_event R w stays happens sends answers (Up number) is = up_by R w (stays w.time section.Events refl) answers (numbered w.uplinks number)
by_event R w stays happens sends answers End is = stays w.time section.Ended refl
by_event R w stays happens sends answers form is = absurd (true≢false (sym is))
