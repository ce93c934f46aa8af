-- What a server sends sets no reboot that lasts, and what it sends to all is a fragment or a status request of its own index.
use Rattle.std.proofs.Common.{◌≡◌, inl, inr, ℕ, ◌≤◌, true, not, ◌==◌, ◌&&◌, List, [], ◌∷◌, nat_lt, Option, Some, None, IfSome, Ok, refl, sym, ap, ◌∙◌, subst, arith, ne_eqb}
use Rattle.std.proofs.lemmas.Bool.{lt-ltb}
use Rattle.wire_base.specs.Numbered.{numbered}
use Rattle.wire_base.specs.declared.refusal.Direction.TheVariants.{Down as Downwards}
use Rattle.cast_wire.specs.declared.cmd.Cmd.TheVariants.{FragSessionStatusReq}
use Rattle.sync_wire.specs.declared.cmd.Cmd.TheVariants.{DevVersionReq, DevUpgradeImageReq, DevRebootCountdownReq}
use Rattle.package_grammar.specs.declared.command.Command.{Command}
use Rattle.package_grammar.specs.declared.command.Command.TheVariants.{Sync, Cast}
use Rattle.package_grammar.specs.declared.downlink.Downlink.{Downlink}
use Rattle.package_grammar.specs.declared.downlink.To.TheVariants.{Unicast}
use Rattle.package_grammar.specs.Grammar.{canonical}
use Rattle.package_grammar.specs.Reading.{reading_of}
use Rattle.campaign_server.specs.declared.plan.Kind.{Kind}
use Rattle.campaign_server.specs.declared.plan.Kind.TheVariants as kind
use Rattle.campaign_server.specs.declared.plan.PlanGroup.{PlanGroup}
use Rattle.campaign_server.specs.declared.plan.PlanWindow.{PlanWindow}
use Rattle.campaign_server.specs.declared.plan.PlanDevice.{PlanDevice}
use Rattle.campaign_server.specs.declared.stage.Stage.{Stage}
use Rattle.campaign_server.specs.declared.stage.Stage.TheVariants.{At, Updated, Refused}
use Rattle.campaign_server.specs.declared.stage.Request.TheVariants as request
use Rattle.campaign_server.specs.Plan.{Plan, own_id}
use Rattle.campaign_server.specs.Server.{ServerState, DownlinkCommand, port_of, downlink_of, ledger}
use Rattle.campaign_server.specs.Asking.{fragments_request, window_request_of, window_request, group_request, cast_of, request_at, command_for, by_unicast, request_of}
use Rattle.campaign_server.specs.Time.{time_answer}
use Rattle.campaign_world.specs.declared.numbered.SentPayload.{SentPayload}
use Rattle.campaign_world.specs.Honest.{is_for_others, are_for_others}
use Rattle.campaign_laws.proofs.HeadlineCommands.{Cut, IsCut, IsGood, fragment_good, status_good, good_read}
use Rattle.campaign_laws.proofs.HeadlineEnds.{IsToAll}
use Rattle.campaign_laws.proofs.Devices.{version_asked, image_asked, reboot_asked}
use Rattle.campaign_laws.proofs.Keyed.{time_port}
use Rattle.isolation_laws.proofs.Resting.{IsSoft, far_soft, one_soft}

-- ---- is read as itself

good_reads : (down : DownlinkCommand) → IsGood down.command
    → reading_of (downlink_of down).port Downwards (downlink_of down).payload ≡ Ok (down.command ∷ [])
good_reads down good =
    ap (λ (p : ℕ). reading_of p Downwards (canonical down.command)) good.port ∙ good_read down.command good

to_all_good : (image : List ℕ) (cut : Cut) (down : DownlinkCommand) → IsCut image cut → IsToAll image cut down → IsGood down.command
to_all_good image cut down is (inl f) = subst IsGood (sym f.2) (fragment_good image cut f.0 is f.1)
to_all_good image cut down is (inr o) = subst IsGood (sym o.1) (status_good cut.index o.0 is.indexed)

apart_index : (index own : ℕ) → index ≤ 3 → (own ≡ index → ⊥) → (nat_lt index 4 && not (index == own)) ≡ true
apart_index index own low other = rw (lt-ltb index 4 (omega (arith, low)), ne_eqb index own (λ same. other (sym same))) refl

to_all_others : (image : List ℕ) (cut : Cut) (down : DownlinkCommand) (own : ℕ) → IsCut image cut → (own ≡ cut.index → ⊥) → IsToAll image cut down
    → is_for_others own down.command ≡ true
to_all_others image cut down own is other (inl f) = ap (is_for_others own) f.2 ∙ apart_index cut.index own is.indexed other
to_all_others image cut down own is other (inr o) = ap (is_for_others own) o.1 ∙ apart_index cut.index own is.indexed other

-- ---- payloads

-- a payload of a campaign with this index: it sets no reboot that lasts, and is for other indexes' devices where it is for all
pub record IsTame (index : ℕ) (p : SentPayload) : Type 0 where
  pub soft : IsSoft p.down
  pub all : p.receiver ≡ None → (own : ℕ) → (own ≡ index → ⊥) → are_for_others own (reading_of p.down.port Downwards p.down.payload) ≡ true

abbrev pub sent_to : Option ℕ → DownlinkCommand → SentPayload
sent_to to down = record { receiver = to; down = downlink_of down }

good_far : (down : DownlinkCommand) → IsGood down.command → (downlink_of down).port ≡ 203 → ⊥
good_far down good is = omega (arith, good.port, is)

pub all_tame : (image : List ℕ) (cut : Cut) (to : Option ℕ) (down : DownlinkCommand) → IsCut image cut → IsToAll image cut down
    → IsTame cut.index (sent_to to down)
all_tame image cut to down is all =
    let good = to_all_good image cut down is all in
    record {
      soft = far_soft (downlink_of down) (good_far down good);
      all = λ none own other. ap (are_for_others own) (good_reads down good) ∙ to_all_others image cut down own is other all;
    }

-- to one device
to_one : (index n : ℕ) (down : DownlinkCommand) → IsSoft (downlink_of down) → IsTame index (sent_to (Some n) down)
to_one index n down soft = record { soft = soft; all = λ none. absurd cc }

abbrev asked : Command → Downlink
asked x = downlink_of (record { to = Unicast; command = x })

abbrev IsAsked : Command → Type 0
IsAsked x = IsSoft (asked x)

group_asked : (device : PlanDevice) (group : Option PlanGroup) → IfSome (cast_of (λ g. group_request device g) group) IsAsked
group_asked device None = tt
group_asked device (Some group) = far_soft (asked (Cast (group_request device group))) (λ is. omega (arith, is))

window_far : (id : ℕ) (window : PlanWindow) (k : Kind) → port_of (Cast (window_request_of id window k)) ≡ 203 → ⊥
window_far id window kind.C is = omega (arith, is)
window_far id window (kind.B periodicity) is = omega (arith, is)

window_asked : (id : ℕ) (window : Option PlanWindow) → IfSome (cast_of (λ w. window_request id w) window) IsAsked
window_asked id None = tt
window_asked id (Some window) = far_soft (asked (Cast (window_request id window))) (window_far id window window.kind)

request_asked : (plan : Plan) (image : List ℕ) (device : PlanDevice) (stage : Stage) → IfSome (request_at plan image device stage) IsAsked
unfolding request_at
request_asked plan image device (At request.Version) = one_soft (asked (Sync DevVersionReq)) (Sync DevVersionReq) version_asked (inl (refl, tt))
request_asked plan image device (At request.Group) = group_asked device plan.group
request_asked plan image device (At request.Fragments) = far_soft (asked (Cast (fragments_request plan image))) (λ is. omega (arith, is))
request_asked plan image device (At request.Window) = window_asked (own_id plan.group) plan.window
request_asked plan image device (At request.Status) = far_soft (asked (Cast (FragSessionStatusReq plan.index true))) (λ is. omega (arith, is))
request_asked plan image device (At request.Image) = one_soft (asked (Sync DevUpgradeImageReq)) (Sync DevUpgradeImageReq) image_asked (inl (refl, tt))
request_asked plan image device (At request.Reboot) = one_soft (asked (Sync (DevRebootCountdownReq 0))) (Sync (DevRebootCountdownReq 0)) reboot_asked (inr refl)
request_asked plan image device (At request.Check) = one_soft (asked (Sync DevVersionReq)) (Sync DevVersionReq) version_asked (inl (refl, tt))
request_asked plan image device Updated = tt
request_asked plan image device (Refused request bits) = tt

command_asked : (plan : Plan) (image : List ℕ) (device : Option PlanDevice) (stage : Option Stage)
    → IfSome (command_for plan image device stage) IsAsked
command_asked plan image (Some device) (Some stage) = request_asked plan image device stage
command_asked plan image (Some device) None = tt
command_asked plan image None (Some stage) = tt
command_asked plan image None None = tt

one_asked : (index n : ℕ) (o : Option Command) → IfSome o IsAsked → IfSome (by_unicast o) (λ down. IsTame index (sent_to (Some n) down))
one_asked index n None k = tt
one_asked index n (Some x) k = to_one index n (record { to = Unicast; command = x }) k

-- what it asks of a device
pub asked_tame : (index : ℕ) (s : ServerState) (n : ℕ) → IfSome (request_of s n) (λ down. IsTame index (sent_to (Some n) down))
unfolding request_of
asked_tame index s n = one_asked index n _ (command_asked s.plan s.image (numbered s.plan.devices n) (ledger s n))

ported : (o : Option Command) → IfSome o (λ y. port_of y ≡ 202) → IfSome o IsAsked
ported None port = tt
ported (Some x) port = far_soft (asked x) (λ is. omega (arith, is, port))

-- what it answers
pub answer_tame : (index n t : ℕ) (cs : List Command) → IfSome (by_unicast (time_answer t cs)) (λ down. IsTame index (sent_to (Some n) down))
answer_tame index n t cs = one_asked index n (time_answer t cs) (ported (time_answer t cs) (time_port t cs))
