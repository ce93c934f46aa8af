-- An exchange moves a device's stage, and leads on a device that suits.
use Rattle.std.proofs.Common.{◌≡◌, ℕ, ◌^◌, ◌<◌, ◌≤◌, length, Option, Some, None, refl, sym, ap, ◌∙◌, subst, arith}
use Rattle.image_slots.specs.Image.{firmware_of}
use Rattle.package_grammar.specs.declared.command.Command.{Command}
use Rattle.package_grammar.specs.declared.downlink.To.TheVariants.{Unicast}
use Rattle.device_core.specs.Device.{DeviceState}
use Rattle.campaign_server.specs.declared.plan.PlanDevice.{PlanDevice}
use Rattle.campaign_server.specs.declared.plan.PlanGroup.{PlanGroup}
use Rattle.campaign_server.specs.declared.stage.Request.{Request}
use Rattle.campaign_server.specs.declared.stage.Request.TheVariants.{Version, Group, Fragments, Window, Status, Image, Reboot, Check}
use Rattle.campaign_server.specs.declared.stage.Stage.{Stage}
use Rattle.campaign_server.specs.declared.stage.Stage.TheVariants.{At}
use Rattle.campaign_server.specs.Asking.{request_at, request_of, by_unicast, cast_of, group_request, window_request}
use Rattle.campaign_server.specs.Plan.{own_id}
use Rattle.campaign_server.specs.Server.{ServerState, DownlinkCommand, ledger}
use Rattle.campaign_server.specs.ServerInside.{GroupFits}
use Rattle.campaign_server.proofs.Plans.{plan_of_fine, asked_of}
use Rattle.wire_base.specs.Numbered.{numbered}
use Rattle.exchange_laws.specs.Exchange.{IsReached, IsAsked, after_request}
use Rattle.exchange_laws.specs.Moving.{MovesTo, HasWidths, ExchangesMove}
use Rattle.exchange_laws.specs.Suits.{Suits, stage_after_request}
use Rattle.exchange_laws.proofs.Bringing.{exchanged}
use Rattle.exchange_laws.proofs.Requests.{Leads, version_leads, check_leads, group_leads, setup_leads, window_leads, status_leads, image_leads, reboot_leads}

-- ---- what is asked

abbrev command_in : Command → Option DownlinkCommand → Command
command_in other None = other
command_in other (Some down) = down.command

one_of : (o : Option Command) (asked : Command) → by_unicast o ≡ Some (record { to = Unicast; command = asked }) → o ≡ Some asked
one_of None asked is = absurd cc
one_of (Some c) asked is = ap (λ (x : Command). Some x) (ap (command_in c) is)

-- it is the request of a device of the plan at this stage
pub record IsRequest (server : ServerState) (stage : Stage) (asked : Command) : Type 0 where
  pub planned : PlanDevice
  pub is : request_at server.plan server.image planned stage ≡ Some asked

request_by : (server : ServerState) (dev : ℕ) (stage : Stage) (asked : Command) (o : Option PlanDevice) → numbered server.plan.devices dev ≡ o
    → ledger server dev ≡ Some stage → request_of server dev ≡ Some (record { to = Unicast; command = asked }) → IsRequest server stage asked
unfolding request_of
request_by server dev stage asked None numbers stands is =
    let none : Path (Option DownlinkCommand) None (Some (record { to = Unicast; command = asked })) = rw numbers at is in
    absurd cc
request_by server dev stage asked (Some planned) numbers stands is =
    record { planned = planned; is = one_of _ asked (sym (asked_of server dev planned stage numbers stands) ∙ is) }

-- ---- a request that leads on

led : (server : ServerState) (dev came t word mark : ℕ) (device : DeviceState) (c asked : Command) (before next : Stage) → c ≡ asked
    → IsReached device t → IsAsked server dev asked → ledger server dev ≡ Some before
    → Leads server.plan server.image t word mark device c before next
    → MovesTo server dev came (after_request t word mark asked device) next
led server dev came t word mark device c asked before next is reached asks stands leads =
    let mine : IsAsked server dev c = subst (λ (x : Command). IsAsked server dev x) (sym is) asks in
    subst (λ (x : Command). MovesTo server dev came (after_request t word mark x device) next) is
    (subst (λ (s : Stage). MovesTo server dev came (after_request t word mark c device) s) leads.moves
    (exchanged server dev came t word mark device leads.made c leads.answer before reached mine leads.answers stands))

some_is : {A : Type 0} (x y : A) → Path (Option A) (Some x) (Some y) → x ≡ y
some_is x y is = cc

few_ids : (group : Option PlanGroup) → GroupFits group → own_id group ≤ 3
few_ids None fits = omega arith
few_ids (Some group) fits = omega (arith, fits.1)

group_by : (server : ServerState) (dev came t word mark : ℕ) (device : DeviceState) (asked : Command) (planned : PlanDevice) (group : Option PlanGroup)
    → server.plan.group ≡ group → own_id group ≤ 3 → own_id group < length device.groups → cast_of (λ g. group_request planned g) group ≡ Some asked
    → IsReached device t → IsAsked server dev asked → ledger server dev ≡ Some (At Group)
    → MovesTo server dev came (after_request t word mark asked device) (At Fragments)
group_by server dev came t word mark device asked planned None is few there request reached asks stands = absurd cc
group_by server dev came t word mark device asked planned (Some group) is few there request reached asks stands =
    led server dev came t word mark device _ asked (At Group) (At Fragments) (some_is _ asked request) reached asks stands
    (group_leads server.plan server.image t word mark device planned group reached.empty is few there)

leads : (server : ServerState) (dev came t word mark : ℕ) (device : DeviceState) (request : Request) (asked : Command)
    → own_id server.plan.group ≤ 3 → server.plan.index ≤ 3 → firmware_of server.image < 2 ^ 32 → HasWidths device
    → IsReached device t → IsAsked server dev asked → ledger server dev ≡ Some (At request) → Suits request server device
    → IsRequest server (At request) asked
    → MovesTo server dev came (after_request t word mark asked device) (stage_after_request server.plan request)
unfolding request_at
leads server dev came t word mark device Version asked few indexed small wide reached asks stands suits is =
    led server dev came t word mark device _ asked (At Version) _ (some_is _ asked is.is) reached asks stands
    (version_leads server.plan server.image t word mark device reached.empty wide.version wide.hw suits)
leads server dev came t word mark device Group asked few indexed small wide reached asks stands suits is =
    group_by server dev came t word mark device asked is.planned server.plan.group refl few suits is.is reached asks stands
leads server dev came t word mark device Fragments asked few indexed small wide reached asks stands suits is =
    led server dev came t word mark device _ asked (At Fragments) _ (some_is _ asked is.is) reached asks stands
    (setup_leads server.plan server.image t word mark device reached.empty indexed suits)
leads server dev came t word mark device Window asked few indexed small wide reached asks stands suits is =
    let request : cast_of (λ w. window_request (own_id server.plan.group) w) (Some suits.window) ≡ Some asked = rw suits.planned at is.is in
    led server dev came t word mark device _ asked (At Window) (At Status) (some_is _ asked request) reached asks stands
    (window_leads server.plan server.image t word mark device suits.window reached.empty
    few suits.planned suits.possible)
leads server dev came t word mark device Status asked few indexed small wide reached asks stands suits is =
    led server dev came t word mark device _ asked (At Status) (At Image) (some_is _ asked is.is) reached asks stands
    (status_leads server.plan server.image t word mark device reached.empty indexed suits suits.nothing)
leads server dev came t word mark device Image asked few indexed small wide reached asks stands suits is =
    led server dev came t word mark device _ asked (At Image) (At Reboot) (some_is _ asked is.is) reached asks stands
    (image_leads server.plan server.image t word mark device reached.empty small suits)
leads server dev came t word mark device Reboot asked few indexed small wide reached asks stands suits is =
    led server dev came t word mark device _ asked (At Reboot) (At Check) (some_is _ asked is.is) reached asks stands
    (reboot_leads server.plan server.image t word mark device reached.empty)
leads server dev came t word mark device Check asked few indexed small wide reached asks stands suits is =
    led server dev came t word mark device _ asked (At Check) _ (some_is _ asked is.is) reached asks stands
    (check_leads server.plan server.image t word mark device reached.empty wide.version wide.hw suits)

-- what the server asks is the request of the stage
pub led_on : (server : ServerState) (dev came t word mark : ℕ) (device : DeviceState) (request : Request) (asked : Command)
    → own_id server.plan.group ≤ 3 → server.plan.index ≤ 3 → firmware_of server.image < 2 ^ 32 → HasWidths device
    → IsReached device t → IsAsked server dev asked → ledger server dev ≡ Some (At request) → Suits request server device
    → MovesTo server dev came (after_request t word mark asked device) (stage_after_request server.plan request)
led_on server dev came t word mark device request asked few indexed small wide reached asks stands suits =
    leads server dev came t word mark device request asked few indexed small wide reached asks stands suits
    (request_by server dev (At request) asked (numbered server.plan.devices dev) refl stands asks.asks)

pub moving : ExchangesMove
moving = record {
  exact = exchanged;
  leads = λ server dev came t word mark device request asked fine small wide reached asks stands suits.
      (let plan = plan_of_fine (length server.image) server.plan fine in
      led_on server dev came t word mark device request asked (few_ids server.plan.group plan.group_fits) plan.indexed small wide reached asks stands suits);
}
