-- A request comes to a device, and its one answer to the server.
use Rattle.std.proofs.Common.{◌≡◌, ℕ, ◌+◌, ◌≤◌, nat_lt, Bool, true, false, cond, [], ◌∷◌, length, Some, Ok, refl, ap, ◌∙◌, le-ltb, arith}
use Rattle.wire_base.specs.declared.refusal.Direction.{Direction}
use Rattle.wire_base.specs.declared.refusal.Direction.TheVariants.{Down, Up}
use Rattle.wire_base.specs.Rows.{IsListed}
use Rattle.package_grammar.specs.declared.command.Command.{Command}
use Rattle.package_grammar.specs.declared.downlink.To.TheVariants.{Unicast}
use Rattle.package_grammar.specs.Grammar.{row, canonical, IsValid}
use Rattle.package_grammar.specs.Reading.{reading_of}
use Rattle.package_grammar.proofs.Written.{message_of}
use Rattle.package_grammar.proofs.ReadingLaw.{read_as}
use Rattle.clock_sync.specs.Clock.{device_time}
use Rattle.device_core.specs.Answers.{DeviceStep, answer_at_once, one_answer, after_answers, uplink_of}
use Rattle.device_core.specs.Device.{DeviceState}
use Rattle.device_core.specs.Deliver.{message_delivery, read_delivery, heard_delivery, delivery}
use Rattle.device_core.specs.Firmware.{is_due, after_due_reboot}
use Rattle.device_core.specs.Step.{command_step, step, after_commands, weight, weights}
use Rattle.campaign_server.specs.declared.stage.Stage.{Stage}
use Rattle.campaign_server.specs.Answers.{stage_after, stage_after_all}
use Rattle.campaign_server.specs.Server.{ServerState, DownlinkCommand, ledger, port_of, downlink_of}
use Rattle.campaign_server.specs.Uplinks.{read_uplink, uplink_step}
use Rattle.campaign_server.proofs.LineItems.{numbered_there}
use Rattle.exchange_laws.specs.Exchange.{IsReached, IsAsked, by_request, after_request}
use Rattle.exchange_laws.specs.Moving.{MovesTo, Answers}

-- ---- a payload of one command is read as it

pub read_back : (c : Command) (port : ℕ) (direction : Direction) → IsValid c → IsListed (row c) port direction
    → reading_of port direction (canonical c) ≡ Ok (c ∷ [])
read_back c port direction valid listed = read_as port direction (canonical c) (Ok (c ∷ [])) (message_of c port direction valid listed)

-- ---- the device

-- no reboot is carried out where none is due, and one leaves the uplinks
stays : (t : ℕ) (device : DeviceState) → is_due (device_time device.clock t) device.reboot ≡ false → after_due_reboot t device ≡ device
unfolding after_due_reboot
stays t device is = rw is refl

outbox_by : (b : Bool) (one other : DeviceState) → one.outbox ≡ other.outbox → (cond {A = DeviceState} b one other).outbox ≡ other.outbox
outbox_by true one other same = same
outbox_by false one other same = refl

reboot_leaves : (t : ℕ) (device : DeviceState) → (after_due_reboot t device).outbox ≡ device.outbox
unfolding after_due_reboot
reboot_leaves t device = outbox_by (is_due (device_time device.clock t) device.reboot) _ device refl

heard : (t word mark : ℕ) (device : DeviceState) (asked : Command) → IsReached device t
    → reading_of (port_of asked) Down (canonical asked) ≡ Ok (asked ∷ []) → weight asked ≤ 8
    → (let down : DownlinkCommand = record { to = Unicast; command = asked } in (heard_delivery t word mark (downlink_of down) device).device)
    ≡ after_answers (command_step (by_request t word mark asked) device asked)
unfolding heard_delivery read_delivery message_delivery after_commands step
heard t word mark device asked reached read light =
    let none : length device.outbox ≡ 0 = ap length reached.empty in
    let few : nat_lt 8 (length device.outbox + weights (asked ∷ [])) ≡ false = le-ltb _ _ (omega (arith, none, light)) in
    rw (reached.hears, read, few) refl

brought : (t word mark : ℕ) (device : DeviceState) (asked : Command) → IsReached device t
    → reading_of (port_of asked) Down (canonical asked) ≡ Ok (asked ∷ []) → weight asked ≤ 8
    → after_request t word mark asked device ≡ after_due_reboot t (after_answers (command_step (by_request t word mark asked) device asked))
unfolding delivery
brought t word mark device asked reached read light =
    let down : DownlinkCommand = record { to = Unicast; command = asked } in
    ap (λ (m : DeviceState). after_due_reboot t (heard_delivery t word mark (downlink_of down) m).device) (stays t device reached.stays)
    ∙ ap (after_due_reboot t) (heard t word mark device asked reached read light)

answered : (t word mark : ℕ) (made : DeviceState) (asked answer : Command) → made.outbox ≡ []
    → (after_answers (one_answer (by_request t word mark asked) made answer)).outbox ≡ uplink_of (answer_at_once (by_request t word mark asked) answer) ∷ []
unfolding after_answers
answered t word mark made asked answer kept = rw kept refl

-- ---- the server

moved : (server : ServerState) (dev came port : ℕ) (answer : Command) (stage : Stage) → reading_of port Up (canonical answer) ≡ Ok (answer ∷ [])
    → ledger server dev ≡ Some stage
    → ledger (uplink_step server dev port (canonical answer) came).server dev ≡ Some (stage_after server.plan server.image stage answer)
unfolding uplink_step read_uplink stage_after_all
moved server dev came port answer stage read stands =
    rw (read, stands) (numbered_there server.stages dev stage (stage_after server.plan server.image stage answer) stands)

-- ---- both

pub exchanged : (server : ServerState) (dev came t word mark : ℕ) (device made : DeviceState) (asked answer : Command) (stage : Stage)
    → IsReached device t → IsAsked server dev asked → Answers t word mark device made asked answer → ledger server dev ≡ Some stage
    → MovesTo server dev came (after_request t word mark asked device) (stage_after server.plan server.image stage answer)
exchanged server dev came t word mark device made asked answer stage reached asks answers stands =
    let down = read_back asked (port_of asked) Down asks.receivable.valid asks.receivable.listed in
    let up = read_back answer (port_of asked) Up answers.sendable.valid answers.sendable.listed in
    record {
      uplink = uplink_of (answer_at_once (by_request t word mark asked) answer);
      holds =
          ap (λ (d : DeviceState). d.outbox) (brought t word mark device asked reached down answers.light)
          ∙ reboot_leaves t (after_answers (command_step (by_request t word mark asked) device asked))
          ∙ ap (λ (s : DeviceStep). (after_answers s).outbox) answers.makes
          ∙ answered t word mark made asked answer answers.kept;
      moved = moved server dev came (port_of asked) answer stage up stands;
    }
