-- An accepted script has its devices, with a stage for each.
use Rattle.std.proofs.Common.{◌≡◌, inl, inr, ℕ, ◌+◌, ◌-◌, ◌≤◌, true, List, [], ◌∷◌, ◌++◌, length, replicate, Option, None, Some, Result, Ok, Err, IfOk, refl, sym, ap, ◌∙◌, subst, arith}
use Rattle.std.proofs.lemmas.List.{length-set, length_push, length-replicate}
use Rattle.package_grammar.specs.declared.command.Command.{Command}
use Rattle.device_core.specs.Device.{DeviceState}
use Rattle.device_core.specs.Events.{Event, Receives}
use Rattle.campaign_server.specs.declared.stage.Stage.{Stage}
use Rattle.campaign_server.specs.declared.stage.Stage.TheVariants.{At as AtRequest}
use Rattle.campaign_server.specs.declared.stage.Request.TheVariants.{Version}
use Rattle.campaign_server.specs.Plan.{Plan}
use Rattle.campaign_server.specs.Server.{ServerState, DownlinkCommand, ledger}
use Rattle.wire_base.specs.Numbered.{numbered}
use Rattle.campaign_server.specs.Uplinks.{with_answers}
use Rattle.script_lines.specs.declared.forms.Form.{Form}
use Rattle.script_lines.specs.declared.forms.Form.TheVariants.{Header, Image, Group, WindowC, WindowB, Device, Wake}
use Rattle.campaign_world.specs.declared.section.Section.{Section}
use Rattle.campaign_world.specs.declared.section.Section.TheVariants as section
use Rattle.report_lines.specs.declared.faults.LineWhy.{LineWhy}
use Rattle.report_lines.specs.declared.faults.LineFault.{LineFault}
use Rattle.campaign_world.specs.World.{WorldState, first_world}
use Rattle.campaign_world.specs.Said.{Said, Own, Elsewhere, Reached, Line}
use Rattle.campaign_world.specs.Causes.{is_event_or_end, is_in_order, takes_events, form_cause, said_cause, line_cause, cause_of, has_begun}
use Rattle.campaign_world.specs.Making.{with_sent, with_device, event_of, after_event_at, at_events, root_of, after_form, after_said, with_event}
use Rattle.campaign_world.specs.Script.{after_line, line_result, read_line, read_lines, campaign_of}
use Rattle.campaign_laws.specs.Lives.{HasItsDevices}
use Rattle.campaign_world.proofs.FormCauses.{event_at, passes}
use Rattle.campaign_laws.proofs.HeadlineForms.{reached_passes}
use Rattle.campaign_laws.proofs.HeadlineLines.{cause_by, end_is, ended}
use Rattle.campaign_world.proofs.Sections.{by_section, never}
use Rattle.campaign_laws.proofs.Events.{by_event}

-- where events may come there are devices
abbrev SomeIn : Section → ℕ → Type 0
SomeIn section.Devices n = 1 ≤ n
SomeIn section.Events n = 1 ≤ n
SomeIn section.Ended n = 1 ≤ n
SomeIn here n = Unit {0}

-- a stage for each device, and each is planned
record IsEven (server : ServerState) (devices : List DeviceState) : Type 0 where
  stages : length server.stages ≡ length devices
  planned : length server.plan.devices ≡ length devices

record IsCounted (w : WorldState) : Type 0 where
  some : SomeIn w.section (length w.devices)
  even : IsEven w.server w.devices

-- ---- an event

-- the devices are as many, and there is a stage for each
pub record IsAsMany (w v : WorldState) : Type 0 where
  pub devices : length v.devices ≡ length w.devices
  pub stages : length v.server.stages ≡ length w.server.stages
  pub planned : length v.server.plan.devices ≡ length w.server.plan.devices

as_many : (w v : WorldState) → IsEven w.server w.devices → IsAsMany w v → IsEven v.server v.devices
as_many w v k m = record {
  stages = m.stages ∙ k.stages ∙ sym m.devices;
  planned = m.planned ∙ k.planned ∙ sym m.devices;
}

sent_many : (w : WorldState) (server : ServerState) (to : Option ℕ) (down : Option DownlinkCommand)
    → length server.stages ≡ length w.server.stages → length server.plan.devices ≡ length w.server.plan.devices
    → IsAsMany w (at_events (with_sent (record w { server = server }) to down))
sent_many w server to None stages planned = record { devices = refl; stages = stages; planned = planned }
sent_many w server to (Some down) stages planned = record { devices = refl; stages = stages; planned = planned }

pub event_many : (w : WorldState) (n : ℕ) (d : Option DeviceState) (o : Option Event) → IsAsMany w (at_events (after_event_at w n d o))
unfolding with_device
event_many w n None o = record { devices = refl; stages = refl; planned = refl }
event_many w n (Some d) None = record { devices = refl; stages = refl; planned = refl }
event_many w n (Some d) (Some e) = record { devices = length-set w.devices (n - 1) _; stages = refl; planned = refl }

moved_many : (s : ServerState) (dev : ℕ) (cs : List Command) (o : Option Stage)
    → (length (with_answers s dev cs o).stages ≡ length s.stages)
    × (length (with_answers s dev cs o).plan.devices ≡ length s.plan.devices)
moved_many s dev cs None = (refl, refl)
moved_many s dev cs (Some stage) = (length-set s.stages (dev - 1) _, refl)

pub made_many : (w : WorldState) (form : Form) → is_event_or_end form ≡ true → IsAsMany w (after_form w form)
made_many w =
    by_event (IsAsMany w) w (λ time here late. record { devices = refl; stages = refl; planned = refl })
    (λ n form. event_many w n (numbered w.devices n) (event_of w.server.plan.group w.sent w.time (w.lines + 1) form))
    (λ s to down sends. sent_many w s to down (ap (λ (xs : List Stage). length xs) sends.stages) (ap (λ (p : Plan). length p.devices) sends.plan))
    (λ dev cs.
    let m = moved_many w.server dev cs (ledger w.server dev) in
    sent_many w (with_answers w.server dev cs (ledger w.server dev)) (Some dev) _ m.0 m.1)

-- ---- a form

-- an event comes where there are devices
some_there : (w : WorldState) (form : Form) → is_event_or_end form ≡ true → is_in_order w.section form ≡ true
    → SomeIn w.section (length w.devices) → 1 ≤ length w.devices
some_there w form event may k = elim (event_at w.section form event may) [
  | inl is ↦ subst (λ (s : Section). SomeIn s (length w.devices)) is k
  | inr is ↦ subst (λ (s : Section). SomeIn s (length w.devices)) is k
]

begun_some : (n : ℕ) (here : Section) → has_begun here ≡ true → 1 ≤ n → SomeIn here n
begun_some n =
    by_section (λ (here : Section). has_begun here ≡ true → 1 ≤ n → SomeIn here n) never never never never never never (λ begun some. some) (λ begun some. some)

event_counted : (w v : WorldState) (form : Form) → is_event_or_end form ≡ true → is_in_order w.section form ≡ true
    → IsCounted w → IsAsMany w v → has_begun v.section ≡ true → IsCounted v
event_counted w v form event may k m begun = record {
  some = begun_some _ v.section begun (subst (λ (n : ℕ). 1 ≤ n) (sym m.devices) (some_there w form event may k.some));
  even = as_many w v k.even m;
}

-- a plan in which as many devices are planned as there are
planned_even : (plan : Plan) (n : ℕ) → length plan.devices ≡ n
    → length (replicate (length plan.devices) (AtRequest Version)) ≡ n
planned_even plan n is = length-replicate (length plan.devices) (AtRequest Version) ∙ is

form_counted : (w : WorldState) (form : Form) → form_cause w form ≡ None → IsCounted w → IsCounted (after_form w form)
unfolding after_form
form_counted w Header fine k = record { some = tt; even = k.even }
form_counted w (Image frag_size parity index) fine k = record {
  some = tt;
  even = record { stages = planned_even w.server.plan _ k.even.planned; planned = k.even.planned };
}
form_counted w (Group id addr key min max) fine k = record {
  some = tt;
  even = record { stages = planned_even w.server.plan _ k.even.planned; planned = k.even.planned };
}
form_counted w (WindowC start timeout freq dr) fine k = record {
  some = tt;
  even = record { stages = planned_even w.server.plan _ k.even.planned; planned = k.even.planned };
}
form_counted w (WindowB start periodicity timeout freq dr) fine k = record {
  some = tt;
  even = record { stages = planned_even w.server.plan _ k.even.planned; planned = k.even.planned };
}
form_counted w (Device dev) fine k =
    let more = length_push w.devices _ in
    let planned : length (w.server.plan.devices ++ record { key = dev.key; root = root_of dev.k11 } ∷ []) ≡ _ =
    length_push w.server.plan.devices (record { key = dev.key; root = root_of dev.k11 }) ∙ ap (λ (n : ℕ). n + 1) k.even.planned ∙ sym more in
    record {
      some = omega (arith, more);
      even = record {
        stages = length-replicate (length (w.server.plan.devices ++ record { key = dev.key; root = root_of dev.k11 } ∷ [])) (AtRequest Version)
            ∙ planned;
        planned = planned;
      };
    }
form_counted w form fine k = event_counted w (after_form w form) form refl (passes w form fine).comes k (made_many w form refl) refl

-- ---- a script

-- where events may come, a line may that wakes a device
takes_wake : (here : Section) → takes_events here ≡ true → is_in_order here (Wake 1) ≡ true
takes_wake =
    by_section (λ (here : Section). takes_events here ≡ true → is_in_order here (Wake 1) ≡ true) never never never never never (λ takes. refl) (λ takes. refl) never

-- what a line says
said_counted : (w : WorldState) (said : Said) → said_cause w said ≡ None → IsCounted w → IsCounted (after_said w said)
said_counted w (Own form) fine k = form_counted w form fine k
said_counted w Elsewhere fine k = k
said_counted w (Reached n word down) fine k =
    let o : Option Event = Some (Receives w.time word (w.lines + 1) down) in
    event_counted w (with_event w n o) (Wake 1) refl
    (takes_wake w.section (reached_passes w n word down fine).0) k (event_many w n (numbered w.devices n) o) refl

lines_counted : (w : WorldState) (line : Line) → line_cause w line ≡ None → IsCounted w → IsCounted (after_line w line)
lines_counted w (Err cause) fine k = absurd cc
lines_counted w (Ok said) fine k =
    let after = said_counted w said fine k in
    record { some = after.some; even = record { stages = after.even.stages; planned = after.even.planned } }

line_counted : (w : WorldState) (line : Line) (cause : Option LineWhy) → cause_of w line ≡ cause → IsCounted w
    → IfOk (line_result w line cause) IsCounted
unfolding cause_of
line_counted w line (Some why) is k = tt
line_counted w line None is k = lines_counted w line (cause_by _ _ _ is) k

all_counted : (r : Result WorldState LineFault) (lines : List Line) → IfOk r IsCounted
    → IfOk (read_lines r lines) IsCounted
unfolding read_lines read_line
all_counted (Err fault) lines k = tt
all_counted (Ok w) [] k = k
all_counted (Ok w) (line ∷ lines) k = all_counted (read_line w line) lines (line_counted w line (cause_of w line) refl k)

counted : (image : List ℕ) (lines : List Line) (world : WorldState) → campaign_of image lines ≡ Ok world → IsCounted world
unfolding campaign_of
counted image lines world is =
    subst (λ (r : Result WorldState LineFault). IfOk r IsCounted)
    (end_is (read_lines (Ok (first_world image)) lines) world is)
    (all_counted (Ok (first_world image)) lines
    (record { some = tt; even = record { stages = refl; planned = refl } }))

section_is : (image : List ℕ) (lines : List Line) (world : WorldState) → campaign_of image lines ≡ Ok world
    → world.section ≡ section.Ended
unfolding campaign_of
section_is image lines world is = ended (read_lines (Ok (first_world image)) lines) world is

pub devices_there : HasItsDevices
devices_there image lines world is =
    let k = counted image lines world is in
    (subst (λ (s : Section). SomeIn s (length world.devices)) (section_is image lines world is) k.some, k.even.stages)
