-- After the first event the plan's group stays.
use Rattle.std.proofs.Common.{◌≡◌, ℕ, ◌+◌, Bool, true, false, List, Option, None, Some, refl, sym, ap, ◌∙◌, not, true≢false}
use Rattle.package_grammar.specs.declared.command.Command.{Command}
use Rattle.device_core.specs.Device.{DeviceState}
use Rattle.device_core.specs.Events.{Event, Receives}
use Rattle.campaign_server.specs.declared.stage.Stage.{Stage}
use Rattle.campaign_server.specs.Server.{ServerState, DownlinkCommand, ledger}
use Rattle.wire_base.specs.Numbered.{numbered}
use Rattle.campaign_server.specs.Asking.{by_unicast}
use Rattle.campaign_server.specs.Time.{time_answer}
use Rattle.campaign_server.specs.Uplinks.{with_answers}
use Rattle.script_lines.specs.declared.forms.Form.{Form}
use Rattle.script_lines.specs.declared.forms.Form.TheVariants.{Air}
use Rattle.campaign_world.specs.declared.section.Section.{Section}
use Rattle.campaign_world.specs.World.{WorldState}
use Rattle.campaign_world.specs.Said.{Said, Own, Elsewhere, Reached}
use Rattle.campaign_world.specs.Causes.{is_event_or_end, is_in_order, form_cause, said_cause, has_begun}
use Rattle.campaign_world.specs.Making.{with_sent, with_device, event_of, after_event_at, with_event, with_event_of, at_events, after_form, after_said}
use Rattle.campaign_laws.proofs.HeadlineForms.{passes}
use Rattle.campaign_world.proofs.Sections.{by_section, never}
use Rattle.campaign_laws.proofs.Events.{by_event}

-- no event was yet
abbrev pub is_planning : Section → Bool
is_planning here = not (has_begun here)

pub plan_at : (here : Section) (form : Form) → is_event_or_end form ≡ false → is_in_order here form ≡ true → is_planning here ≡ true
plan_at here form plan =
    by_section (λ (x : Section). is_in_order x form ≡ true → is_planning x ≡ true) (λ may. refl) (λ may. refl) (λ may. refl) (λ may. refl) (λ may. refl)
    (λ may. refl) (λ may. absurd (let both : true ≡ false = sym may ∙ plan in cc)) never here

-- no line of a plan comes any more
pub event_over : (w : WorldState) (form : Form) → form_cause w form ≡ None → is_planning w.section ≡ false → is_event_or_end form ≡ true
event_over w form fine over = by (is_event_or_end form) refl
  where
    by : (b : Bool) → is_event_or_end form ≡ b → b ≡ true
    by true is = refl
    by false is = absurd (true≢false (sym (plan_at w.section form is (passes w form fine).may) ∙ over))

pub answers_plan : (s : ServerState) (dev : ℕ) (cs : List Command) (stage : Option Stage) → (with_answers s dev cs stage).plan ≡ s.plan
answers_plan s dev cs None = refl
answers_plan s dev cs (Some stage) = refl

-- ---- what stays

-- after an event the plan is what it was
pub record IsSettled (w v : WorldState) : Type 0 where
  pub over : is_planning v.section ≡ false
  pub plan : v.server.plan ≡ w.server.plan

abbrev same_server : (w v : WorldState) → v.server ≡ w.server → v.server.plan ≡ w.server.plan
same_server w v same = ap (λ (s : ServerState). s.plan) same

event_server : (w : WorldState) (n : ℕ) (d : Option DeviceState) (o : Option Event) → (after_event_at w n d o).server ≡ w.server
unfolding with_device
event_server w n None o = refl
event_server w n (Some d) None = refl
event_server w n (Some d) (Some e) = refl

pub given_settled : (w : WorldState) (n : ℕ) (o : Option Event) → IsSettled w (with_event w n o)
given_settled w n o =
    record { over = refl; plan = same_server w (with_event w n o) (event_server w n (numbered w.devices n) o) }

pub event_settled : (w : WorldState) (n : ℕ) (form : Form) → IsSettled w (with_event_of w n form)
event_settled w n form = given_settled w n (event_of w.server.plan.group w.sent w.time (w.lines + 1) form)

pub sends_settled : (w : WorldState) (s : ServerState) (to : Option ℕ) (down : Option DownlinkCommand) → s.plan ≡ w.server.plan
    → IsSettled w (at_events (with_sent (record w { server = s }) to down))
sends_settled w s to None same = record { over = refl; plan = same }
sends_settled w s to (Some down) same = record { over = refl; plan = same }

-- after a form that is no line of the plan
pub made_settled : (w : WorldState) (form : Form) → is_event_or_end form ≡ true → IsSettled w (after_form w form)
made_settled w =
    by_event (IsSettled w) w (λ time here late. record { over = ap not late; plan = refl }) (λ n form. event_settled w n form)
    (λ s to down sends. sends_settled w s to down sends.plan)
    (λ dev cs. sends_settled w (with_answers w.server dev cs (ledger w.server dev)) (Some dev) (by_unicast (time_answer w.time cs))
    (answers_plan w.server dev cs (ledger w.server dev)))

pub said_settled : (w : WorldState) (said : Said) → said_cause w said ≡ None → is_planning w.section ≡ false
    → IsSettled w (after_said w said)
said_settled w (Own form) fine over = made_settled w form (event_over w form fine over)
said_settled w Elsewhere fine over = record { over = over; plan = refl }
said_settled w (Reached n word down) fine over =
    given_settled w n (Some (Receives w.time word (w.lines + 1) down))

-- a frame in the air is an event
pub air_settled : (w : WorldState) (number n word : ℕ) → IsSettled w (after_form w (Air number n word))
air_settled w number n word = made_settled w (Air number n word) refl
