-- In an honest campaign a frame in the air is heard as its payload is.
use Rattle.std.proofs.Common.{◌≡◌, inl, inr, ℕ, ◌+◌, ◌^◌, ◌<◌, ◌≤◌, ◌&&◌, not, Bool, true, false, cond, List, length, All, Option, None, Some, IfSome, refl, sym, ap, ◌∙◌, subst, arith, true≢false}
use Rattle.std.proofs.lemmas.Bool.{eq-eqb, lt-ltb}
use Rattle.wire_base.specs.Numbered.{numbered}
use Rattle.wire_base.specs.Payload.{max_payload}
use Rattle.wire_base.specs.declared.refusal.Direction.TheVariants.{Down as Downwards}
use Rattle.mc_group.specs.declared.group.Group.{Group}
use Rattle.mc_group.specs.Groups.{group_at, is_for}
use Rattle.package_grammar.specs.declared.command.Command.{Command}
use Rattle.package_grammar.specs.declared.downlink.To.{To}
use Rattle.package_grammar.specs.declared.downlink.To.TheVariants as to
use Rattle.package_grammar.specs.declared.downlink.Downlink.{Downlink}
use Rattle.package_grammar.specs.Grammar.{canonical}
use Rattle.package_grammar.proofs.Written.{message_of}
use Rattle.device_core.specs.declared.class_session.ClassSession.{ClassSession}
use Rattle.device_core.specs.declared.delivered.Delivered.TheVariants.{Deaf}
use Rattle.device_core.specs.Device.{DeviceState}
use Rattle.device_core.specs.ClassSessions.{hears_group, hears}
use Rattle.device_core.specs.Deliver.{Outcome, heard_delivery, delivery}
use Rattle.device_core.specs.Events.{Event, Receives, HearsBytes, event_step}
use Rattle.device_core.specs.Firmware.{after_due_reboot}
use Rattle.device_core.specs.Radio.{heard_group, brought, radio}
use Rattle.device_core.proofs.Deliveries.{counted}
use Rattle.device_core.proofs.Radio.{frame_delivered}
use Rattle.campaign_server.specs.declared.plan.PlanGroup.{PlanGroup}
use Rattle.campaign_server.specs.Server.{DownlinkCommand, port_of, downlink_of}
use Rattle.campaign_server.specs.Framing.{group_frame}
use Rattle.script_lines.specs.declared.forms.Form.{Form}
use Rattle.script_lines.specs.declared.forms.Form.TheVariants.{Header, Image, Group as GroupLine, WindowC, WindowB, Device, At, Wake, Migrate, Power, Ask, Frag, Status, Down, Raw, Air, RawAir, Up, End}
use Rattle.script_lines.specs.Ranges.{in_range}
use Rattle.report_lines.specs.declared.faults.LineWhy.{LineWhy}
use Rattle.report_lines.specs.declared.faults.LineWhy.TheVariants as why
use Rattle.campaign_world.specs.declared.section.Section.{Section}
use Rattle.campaign_world.specs.declared.numbered.SentPayload.{SentPayload}
use Rattle.campaign_world.specs.World.{WorldState}
use Rattle.campaign_world.specs.Honest.{is_raw}
use Rattle.campaign_world.specs.Causes.{is_in_order, names_device, may_reach, is_to_group, goes_out, form_cause}
use Rattle.campaign_world.specs.Making.{with_device, reception, sent_frame, hearing, with_event, at_events, after_form}
use Rattle.campaign_laws.proofs.HeadlineCommands.{Cut, cut_of, IsGood, IsSentOf, IsCut, sync_high, fragment_good, status_good}
use Rattle.campaign_laws.proofs.HeadlineForms.{passes, is_strange, late_cut}
use Rattle.campaign_laws.proofs.Items.{is_there, all_numbered}
use Rattle.campaign_laws.proofs.HeadlineWorlds.{IsPayloadOf, Keeps}
use Rattle.campaign_laws.proofs.OwnGroups.{IsOwn, HasOwn, held_group, reboot_groups, same_by}
use Rattle.campaign_laws.proofs.Keyed.{FitsGroup, IsDue, IsDueOf, IsKept}
use Rattle.campaign_laws.proofs.KeyedLines.{Keyed}
use Rattle.campaign_world.proofs.Sections.{by_section}

-- ---- a frame at a device

reboot_session : (t : ℕ) (d : DeviceState) → (after_due_reboot t d).class_session ≡ d.class_session
unfolding after_due_reboot
reboot_session t d = same_by (λ (x : DeviceState). x.class_session) _ _ d refl

-- without a group that is heard no payload to a group is
not_for : (b : Bool) (group : Option Group) (addr count : ℕ) → group ≡ None → (is_for group addr count && b) ≡ false
not_for b group addr count none = ap (λ (g : Option Group). is_for g addr count && b) none

hears_none : (m : DeviceState) (session : Option ClassSession) (t addr count : ℕ) → heard_group m.groups session ≡ None
    → hears_group m session t addr count ≡ false
hears_none m None t addr count none = refl
hears_none m (Some session) t addr count none = not_for _ (group_at m.groups session.id) addr count none

deaf_answer : (t word mark : ℕ) (down : Downlink) (m : DeviceState) → hears m t down.to ≡ false
    → (heard_delivery t word mark down m).answer ≡ Deaf
unfolding heard_delivery
deaf_answer t word mark down m off = rw (off) refl

deaf_both : (t word mark addr count port : ℕ) (payload bytes : List ℕ) (d : DeviceState) → heard_group d.groups d.class_session ≡ None
    → (radio t word mark bytes d).device
    ≡ (delivery t word mark (record { to = to.Group addr count; port = port; payload = payload }) d).device
unfolding radio brought delivery hears
deaf_both t word mark addr count port payload bytes d none =
    let down : Downlink = record { to = to.Group addr count; port = port; payload = payload } in
    let m : DeviceState = after_due_reboot t d in
    let same : heard_group m.groups m.class_session ≡ None =
    ap (λ (x : Option ClassSession). heard_group m.groups x) (reboot_session t d)
    ∙ ap (λ (g : List (Option Group)). heard_group g d.class_session) (reboot_groups t d) ∙ none in
    let off : hears m t (to.Group addr count) ≡ false = hears_none m m.class_session t addr count same in
    rw (none) (sym ((counted t word mark down d).deaf (deaf_answer t word mark down m off)))

-- with the plan's group the frame comes as its payload
radio_by : (g : PlanGroup) (t word mark addr count port : ℕ) (payload : List ℕ) (d : DeviceState) (heard : Option Group)
    → heard_group d.groups d.class_session ≡ heard → ((x : Group) → heard ≡ Some x → x ≡ held_group g) → FitsGroup g
    → IsDue g addr count → 0 < port → length payload ≤ max_payload
    → (radio t word mark (group_frame g count port payload) d).device
    ≡ (delivery t word mark (record { to = to.Group addr count; port = port; payload = payload }) d).device
radio_by g t word mark addr count port payload d None is own fits due some short =
    deaf_both t word mark addr count port payload (group_frame g count port payload) d is
radio_by g t word mark addr count port payload d (Some x) is own fits due some short =
    let same : heard_group d.groups d.class_session ≡ Some (held_group g) = is ∙ ap (λ (y : Group). Some y) (own x refl) in
    let whole = frame_delivered t word mark count port payload (held_group g) d same fits.addr short some due.from due.below due.near in
    ap (λ (o : Outcome _). o.device) whole
    ∙ ap (λ (a : ℕ). (delivery t word mark (record { to = to.Group a count; port = port; payload = payload }) d).device) (sym due.addr_is)

group_of_session : (own : Option PlanGroup) (g : PlanGroup) (d : DeviceState) (session : Option ClassSession) → own ≡ Some g
    → HasOwn own d.groups → (x : Group) → heard_group d.groups session ≡ Some x → x ≡ held_group g
group_of_session own g d None is h x there = absurd cc
group_of_session own g d (Some session) is h x there = subst (λ (o : Option PlanGroup). IsOwn o x) is (h session.id x there)

-- ---- a payload that goes out

-- a payload of the server on the port of fragments is no longer than a payload
good_short : (c : Command) → IsGood c → length (canonical c) ≤ max_payload
good_short c good = (message_of c 201 Downwards good.valid good.listed).fits

sent_short : (image : List ℕ) (cut : Cut) (down : DownlinkCommand) → All (λ b. b < 2 ^ 8) image → IsCut image cut
    → IsSentOf image cut down → (addr count : ℕ) → down.to ≡ to.Group addr count → port_of down.command ≡ 201
    → length (canonical down.command) ≤ max_payload
sent_short image cut down bytes is (inl setup) addr count far port =
    let none : to.Unicast ≡ to.Group addr count = sym setup.1 ∙ far in absurd cc
sent_short image cut down bytes is (inr (inl f)) addr count far port =
    subst (λ (c : Command). length (canonical c) ≤ max_payload) (sym f.2) (good_short _ (fragment_good image cut f.0 is f.1))
sent_short image cut down bytes is (inr (inr (inl o))) addr count far port =
    subst (λ (c : Command). length (canonical c) ≤ max_payload) (sym o.1) (good_short _ (status_good cut.index o.0 is.indexed))
sent_short image cut down bytes is (inr (inr (inr (inl p)))) addr count far port = absurd (omega (arith, p, port))
sent_short image cut down bytes is (inr (inr (inr (inr x)))) addr count far port =
    absurd (omega (arith, ap port_of x.1, sync_high x.0, port))

-- ---- in a campaign

-- what its sender knows of a sent payload to the group
record GoesOut (g : PlanGroup) (addr count : ℕ) (down : Downlink) : Type 0 where
  down_is : down ≡ record { to = to.Group addr count; port = down.port; payload = down.payload }
  due : IsDue g addr count
  some : 0 < down.port
  short : length down.payload ≤ max_payload

frame_is : (own : Option PlanGroup) (g : PlanGroup) (addr count : ℕ) (p : SentPayload) → own ≡ Some g → GoesOut g addr count p.down
    → sent_frame own (Some p) ≡ Some (group_frame g count p.down.port p.down.payload)
frame_is own g addr count p is out =
    rw (is, out.down_is, eq-eqb addr g.addr out.due.addr_is, lt-ltb 0 p.down.port out.some) refl

-- the same event, whichever way it comes
alike : (w : WorldState) (n : ℕ) (d : DeviceState) (one other : Event) → numbered w.devices n ≡ Some d
    → event_step d one ≡ event_step d other → with_event w n (Some one) ≡ with_event w n (Some other)
alike w n d one other there same =
    rw (there) (ap (λ (e : DeviceState). at_events (with_device w n e)) same)

step_alike : (own : Option PlanGroup) (g : PlanGroup) (t word line addr count : ℕ) (down : Downlink) (d : DeviceState) → own ≡ Some g
    → HasOwn own d.groups → FitsGroup g → GoesOut g addr count down
    → event_step d (HearsBytes t word line (group_frame g count down.port down.payload)) ≡ event_step d (Receives t word line down)
step_alike own g t word line addr count down d is h fits out =
    radio_by g t word line addr count down.port down.payload d (heard_group d.groups d.class_session) refl
    (group_of_session own g d d.class_session is h) fits out.due out.some out.short
    ∙ ap (λ (x : Downlink). (delivery t word line x d).device) (sym out.down_is)

air_by : (w : WorldState) (number n word addr count : ℕ) (g : PlanGroup) (d : DeviceState) (p : SentPayload)
    → w.server.plan.group ≡ Some g → HasOwn w.server.plan.group d.groups → FitsGroup g → numbered w.devices n ≡ Some d
    → numbered w.sent number ≡ Some p → GoesOut g addr count p.down
    → after_form w (Air number n word) ≡ after_form w (Down number n word)
unfolding after_form
air_by w number n word addr count g d p is h fits there got out =
    let bytes : List ℕ = group_frame g count p.down.port p.down.payload in
    let frame : sent_frame w.server.plan.group (numbered w.sent number) ≡ Some bytes =
    ap (λ (o : Option SentPayload). sent_frame w.server.plan.group o) got ∙ frame_is w.server.plan.group g addr count p is out in
    let one : Event = HearsBytes w.time word (w.lines + 1) bytes in
    let other : Event = Receives w.time word (w.lines + 1) p.down in
    ap (λ (o : Option (List ℕ)). with_event w n (hearing w.time word (w.lines + 1) o)) frame
    ∙ alike w n d one other there (step_alike w.server.plan.group g w.time word (w.lines + 1) addr count p.down d is h fits out)
    ∙ ap (λ (o : Option SentPayload). with_event w n (reception w.time word (w.lines + 1) o)) (sym got)

-- a payload to a group is to the plan's
out_by : (image : List ℕ) (w : WorldState) (down : Downlink) (addr count : ℕ) (own : Option PlanGroup) (g : PlanGroup)
    → All (λ b. b < 2 ^ 8) image → IsCut image (cut_of w.server.plan) → down.to ≡ to.Group addr count
    → (sent : DownlinkCommand) → IsSentOf image (cut_of w.server.plan) sent → down ≡ downlink_of sent → down.port ≡ 201
    → IsDue g addr count → GoesOut g addr count down
out_by image w down addr count own g bytes cut far sent is same port due =
    let to_is : sent.to ≡ to.Group addr count = ap (λ (x : Downlink). x.to) (sym same) ∙ far in
    let port_is : port_of sent.command ≡ 201 = ap (λ (x : Downlink). x.port) (sym same) ∙ port in
    record {
      down_is = ap (λ (x : To). let r : Downlink = record { to = x; port = down.port; payload = down.payload } in r) far;
      due = due;
      some = omega (arith, port);
      short = subst (λ (x : Downlink). length x.payload ≤ max_payload) (sym same)
          (sent_short image (cut_of w.server.plan) sent bytes cut is addr count to_is port_is);
    }

-- the plan's group is there
by_group : (image : List ℕ) (w : WorldState) (number n word addr count : ℕ) (own : Option PlanGroup) (d : DeviceState) (p : SentPayload)
    → All (λ b. b < 2 ^ 8) image → IsCut image (cut_of w.server.plan) → w.server.plan.group ≡ own
    → HasOwn w.server.plan.group d.groups → IfSome own FitsGroup → numbered w.devices n ≡ Some d → numbered w.sent number ≡ Some p
    → p.down.to ≡ to.Group addr count → IsDueOf own addr count → p.down.port ≡ 201
    → IsPayloadOf image (cut_of w.server.plan) p
    → after_form w (Air number n word) ≡ after_form w (Down number n word)
by_group image w number n word addr count None d p bytes cut is h fits there got far due port sent = absurd due
by_group image w number n word addr count (Some g) d p bytes cut is h fits there got far due port sent =
    air_by w number n word addr count g d p is h fits there got
    (out_by image w p.down addr count (Some g) g bytes cut far sent.0 sent.1 sent.2 port due)

by_way : (image : List ℕ) (w : WorldState) (number n word : ℕ) (way : To) (d : DeviceState) (p : SentPayload)
    → All (λ b. b < 2 ^ 8) image → IsCut image (cut_of w.server.plan) → Keyed w.lines w
    → numbered w.devices n ≡ Some d → numbered w.sent number ≡ Some p → p.down.to ≡ way → goes_out (Some p) ≡ true
    → IsPayloadOf image (cut_of w.server.plan) p
    → after_form w (Air number n word) ≡ after_form w (Down number n word)
by_way image w number n word to.Unicast d p bytes cut k there got is out sent =
    absurd (true≢false (sym out ∙ ap is_to_group is))
by_way image w number n word (to.Group addr count) d p bytes cut k there got is out sent =
    let framed = (all_numbered (IsKept w.server.plan) w.sent number p k.kept got).framed addr count is in
    by_group image w number n word addr count w.server.plan.group d p bytes cut refl (k.own n d there) k.fit.group there got is
    framed.0 framed.1 sent

-- ---- what a form is heard as

abbrev pub heard_as : Form → Form
heard_as (Air number device word) = Down number device word
heard_as form = form

-- a form that is not a stranger's is heard as one that is no frame either, and makes the same
pub record IsHeard (w : WorldState) (form : Form) : Type 0 where
  pub plain : is_strange (heard_as form) ≡ false
  pub fine : form_cause w (heard_as form) ≡ None
  pub same : after_form w form ≡ after_form w (heard_as form)

-- the causes of a frame are those of its payload, and one more
first_of : (a b : Bool) → (a && b) ≡ true → a ≡ true
first_of true b is = refl
first_of false b is = absurd cc

second_of : (a b : Bool) → (a && b) ≡ true → b ≡ true
second_of true b is = is
second_of false b is = absurd cc

pub may_alike : (here : Section) (number n word : ℕ) → is_in_order here (Air number n word) ≡ is_in_order here (Down number n word)
may_alike here number n word =
    by_section (λ (x : Section). is_in_order x (Air number n word) ≡ is_in_order x (Down number n word)) refl refl refl refl refl refl refl refl here

-- the causes up to that of what was not sent
abbrev pub up_to_sent : (may ranged names sent : Bool) → Option LineWhy
up_to_sent may ranged names sent =
    cond (not may) (Some why.Order) (cond (not ranged) (Some why.Range) (cond (not names) (Some why.Device)
    (cond (not sent) (Some why.Unsent) None)))

less_sent : (may ranged names one more : Bool) → up_to_sent may ranged names (one && more) ≡ None → up_to_sent may ranged names one ≡ None
less_sent true true true true more is = refl
less_sent true true true false more is = absurd cc
less_sent true true false one more is = absurd cc
less_sent true false names one more is = absurd cc
less_sent false ranged names one more is = absurd cc

pub down_fine : (w : WorldState) (number n word : ℕ) → form_cause w (Air number n word) ≡ None
    → form_cause w (Down number n word) ≡ None
unfolding form_cause in_range
down_fine w number n word fine =
    let ranged : Bool = in_range (Down number n word) && true in
    let names : Bool = names_device (length w.devices) (Down number n word) && true in
    let one : Bool = may_reach n (numbered w.sent number) in
    let more : Bool = goes_out (numbered w.sent number) in
    less_sent (is_in_order w.section (Down number n word)) ranged names one more
    (subst (λ (may : Bool). up_to_sent may ranged names (one && more) ≡ None) (may_alike w.section number n word) fine)

air_there : (o : Option SentPayload) (n : ℕ) → (may_reach n o && goes_out o) ≡ true → (p : SentPayload) × (o ≡ Some p) × (goes_out (Some p) ≡ true)
air_there None n is = absurd cc
air_there (Some p) n is = (p, refl, second_of (may_reach n (Some p)) (goes_out (Some p)) is)

pub air_same : (image : List ℕ) (w : WorldState) (number n word : ℕ) → All (λ b. b < 2 ^ 8) image → Keeps image w → Keyed w.lines w
    → form_cause w (Air number n word) ≡ None → after_form w (Air number n word) ≡ after_form w (Down number n word)
air_same image w number n word bytes keeps k fine =
    let p = passes w (Air number n word) fine in
    let there = (is_there w.devices n p.names).1 in
    let got = air_there (numbered w.sent number) n p.come in
    let cut = late_cut image w (Air number n word) w.section refl p.may keeps.stands in
    by_way image w number n word got.0.down.to there.0 got.0 bytes cut k there.1 got.1 refl got.2
    (all_numbered (IsPayloadOf image (cut_of w.server.plan)) w.sent number got.0 keeps.sent got.1)

pub is_heard : (image : List ℕ) (w : WorldState) (form : Form) → All (λ b. b < 2 ^ 8) image → Keeps image w → Keyed w.lines w
    → form_cause w form ≡ None → is_raw form ≡ false → IsHeard w form
is_heard image w (Air number n word) bytes keeps k fine honest =
    record { plain = refl; fine = down_fine w number n word fine; same = air_same image w number n word bytes keeps k fine }
is_heard image w (Raw n port payload word) bytes keeps k fine honest = absurd (true≢false honest)
is_heard image w (RawAir n heard word) bytes keeps k fine honest = absurd (true≢false honest)
is_heard image w Header bytes keeps k fine honest = record { plain = refl; fine = fine; same = refl }
is_heard image w (Image size parity index) bytes keeps k fine honest = record { plain = refl; fine = fine; same = refl }
is_heard image w (GroupLine id addr key min max) bytes keeps k fine honest = record { plain = refl; fine = fine; same = refl }
is_heard image w (WindowC start timeout freq dr) bytes keeps k fine honest = record { plain = refl; fine = fine; same = refl }
is_heard image w (WindowB start periodicity timeout freq dr) bytes keeps k fine honest = record { plain = refl; fine = fine; same = refl }
is_heard image w (Device dev) bytes keeps k fine honest =
    record { plain = refl; fine = fine; same = refl }
is_heard image w (At time) bytes keeps k fine honest = record { plain = refl; fine = fine; same = refl }
is_heard image w (Wake n) bytes keeps k fine honest = record { plain = refl; fine = fine; same = refl }
is_heard image w (Migrate n) bytes keeps k fine honest = record { plain = refl; fine = fine; same = refl }
is_heard image w (Power n) bytes keeps k fine honest = record { plain = refl; fine = fine; same = refl }
is_heard image w (Ask n) bytes keeps k fine honest = record { plain = refl; fine = fine; same = refl }
is_heard image w Frag bytes keeps k fine honest = record { plain = refl; fine = fine; same = refl }
is_heard image w Status bytes keeps k fine honest = record { plain = refl; fine = fine; same = refl }
is_heard image w (Down number n word) bytes keeps k fine honest = record { plain = refl; fine = fine; same = refl }
is_heard image w (Up number) bytes keeps k fine honest = record { plain = refl; fine = fine; same = refl }
is_heard image w End bytes keeps k fine honest = record { plain = refl; fine = fine; same = refl }
