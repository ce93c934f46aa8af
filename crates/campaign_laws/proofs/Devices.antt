-- A device of a seed's campaign between two lines, and what a turn makes of it.
use Rattle.std.proofs.Common.{◌≡◌, ℕ, ◌+◌, ◌^◌, ◌<◌, ◌≤◌, nat_lt, false, List, [], ◌∷◌, length, None, Some, Ok, refl, sym, ap, ◌∙◌, subst, le-ltb, arith}
use Rattle.wire_base.specs.declared.refusal.Direction.{Direction}
use Rattle.wire_base.specs.declared.refusal.Direction.TheVariants.{Down, Up}
use Rattle.wire_base.specs.Rows.{IsListed}
use Rattle.cast_wire.specs.declared.cmd.Cmd.TheVariants.{FragSessionStatusAns, FragSessionSetupAns}
use Rattle.sync_wire.specs.declared.cmd.Cmd.TheVariants.{DevVersionReq, DevVersionAns, DevUpgradeImageReq, DevUpgradeImageAns, DevRebootCountdownReq, DevRebootCountdownAns}
use Rattle.package_grammar.specs.declared.command.Command.{Command}
use Rattle.package_grammar.specs.declared.command.Command.TheVariants.{Sync, Cast}
use Rattle.package_grammar.specs.Grammar.{row, canonical, IsValid}
use Rattle.package_grammar.specs.Reading.{reading_of}
use Rattle.package_grammar.proofs.Written.{message_of}
use Rattle.package_grammar.proofs.ReadingLaw.{read_as}
use Rattle.frag_session.specs.declared.answers.Via.TheVariants as via
use Rattle.device_core.specs.declared.arrival.Arrival.{Arrival}
use Rattle.device_core.specs.declared.config.Class.TheVariants as class
use Rattle.device_core.specs.declared.uplink.Uplink.{Uplink}
use Rattle.device_core.specs.Device.{DeviceState, max_area, size_for}
use Rattle.device_core.specs.Answers.{DeviceStep, uplink_of, after_answers, one_answer}
use Rattle.device_core.specs.ClassSessions.{hears}
use Rattle.device_core.specs.Firmware.{after_due_reboot}
use Rattle.device_core.specs.Step.{command_step, step, after_commands, weight, weights}
use Rattle.device_core.specs.Deliver.{message_delivery, read_delivery, heard_delivery, delivery}
use Rattle.campaign_server.specs.declared.stage.Stage.{Stage}
use Rattle.campaign_server.specs.Plan.{Plan}
use Rattle.campaign_server.specs.Server.{port_of}
use Rattle.campaign_server.specs.Sent.{unicast_of}
use Rattle.campaign_server.specs.declared.plan.PlanDevice.{PlanDevice}
use Rattle.campaign_server.specs.Asking.{request_at}
use Rattle.campaign_server.specs.Answers.{stage_after}
use Rattle.campaign_server.specs.Time.{time_answer_to}
use Rattle.campaign_laws.proofs.Stands.{IsPlan, TakesTurn, behind}
use Rattle.device_core.specs.Configuration.{Configuration}

-- what a line of a seed's script makes of its configuration; no reboot is set, and no uplink held
pub record IsPlainConfig (c : Configuration) : Type 0 where
  pub class : c.class ≡ class.C
  pub hw : c.hw ≡ 1
  pub rows : c.rows ≡ 64
  pub descriptor : c.descriptor ≡ None
  pub sessions : c.sessions ≡ 4
  pub area : c.area ≡ max_area
  pub memory : c.held ≡ false
  pub size : c.size ≡ size_for 64

pub record IsPlain (d : DeviceState) : Type 0 where
  pub config : IsPlainConfig d.config
  pub reboot : d.reboot ≡ None
  pub outbox : d.outbox ≡ []

-- ---- a payload comes

abbrev pub at_of : (mark : ℕ) → Command → Arrival
at_of mark c = record { moment = record { t = 0; word = 0; mark = mark }; via = via.Unicast; port = port_of c }

-- no reboot is due where none is set
still : (d : DeviceState) → d.reboot ≡ None → after_due_reboot 0 d ≡ d
unfolding after_due_reboot
still d unset = rw unset refl

heard_is : (c : Command) (d : DeviceState) (mark : ℕ) → IsPlain d → reading_of (port_of c) Down (canonical c) ≡ Ok (c ∷ []) → weight c ≤ 1
    → (heard_delivery 0 0 mark (unicast_of c) d).device ≡ after_answers (command_step (at_of mark c) d c)
unfolding heard_delivery hears read_delivery message_delivery after_commands step
heard_is c d mark plain read light =
    let none : length d.outbox ≡ 0 = ap length plain.outbox in
    let few : nat_lt 8 (length d.outbox + weights (c ∷ [])) ≡ false = le-ltb _ _ (omega (arith, none, light)) in
    rw (plain.config.class, read, few) refl

-- what a command makes of it, except for a reboot that is then due
pub delivered_is : (c : Command) (d : DeviceState) (mark : ℕ) → IsPlain d → reading_of (port_of c) Down (canonical c) ≡ Ok (c ∷ []) → weight c ≤ 1
    → behind mark c d ≡ after_due_reboot 0 (after_answers (command_step (at_of mark c) d c))
unfolding delivery
delivered_is c d mark plain read light =
    ap (λ (m : DeviceState). after_due_reboot 0 (heard_delivery 0 0 mark (unicast_of c) m).device) (still d plain.reboot)
    ∙ ap (after_due_reboot 0) (heard_is c d mark plain read light)

-- the device with its answer in the outbox
abbrev pub holding : List Uplink → DeviceState → DeviceState
holding us e = record e { outbox = us; last_due = Some 0 }

answered : (c a : Command) (e : DeviceState) (mark : ℕ) → e.outbox ≡ []
    → after_answers (one_answer (at_of mark c) e a) ≡ holding (uplink_of (record { due = 0; port = port_of c; command = a }) ∷ []) e
unfolding after_answers
answered c a e mark empty = rw empty refl

-- ---- a turn that a device takes on

pub record TurnOf (image : List ℕ) (P' : DeviceState → Stage → Type 0) (d : DeviceState) (s : Stage) (c a : Command) (e f : DeviceState) : Type 0 where
  pub ask : (plan : Plan) (planned : PlanDevice) → IsPlan plan → request_at plan image planned s ≡ Some c
  pub down_read : reading_of (port_of c) Down (canonical c) ≡ Ok (c ∷ [])
  pub light : weight c ≤ 1
  pub makes : (mark : ℕ) → command_step (at_of mark c) d c ≡ one_answer (at_of mark c) e a
  pub empty : e.outbox ≡ []
  pub due : (us : List Uplink) → after_due_reboot 0 (holding us e) ≡ holding us f
  pub up_read : reading_of (port_of c) Up (canonical a) ≡ Ok (a ∷ [])
  pub silent : time_answer_to 0 a ≡ None
  pub after : (plan : Plan) → IsPlan plan → P' (holding [] f) (stage_after plan image s a)

pub still_due : (e : DeviceState) → e.reboot ≡ None → (us : List Uplink) → after_due_reboot 0 (holding us e) ≡ holding us e
still_due e unset us = still (holding us e) unset

pub takes_turn : (image : List ℕ) (P' : DeviceState → Stage → Type 0) (d : DeviceState) (s : Stage) (c a : Command) (e f : DeviceState)
    → IsPlain d → TurnOf image P' d s c a e f → TakesTurn image P' d s
takes_turn image P' d s c a e f plain t = (
  c,
  a,
  port_of c,
  record {
    ask = t.ask;
    answer = λ mark. ap (λ (z : DeviceState). z.outbox) (is mark);
    read = t.up_read;
    silent = t.silent;
    after = λ mark plan planned. subst (λ (z : DeviceState). P' (record z { outbox = [] }) (stage_after plan image s a)) (sym (is mark)) (t.after plan planned);
  },
)
  where
    is : (mark : ℕ) → behind mark c d ≡ holding (uplink_of (record { due = 0; port = port_of c; command = a }) ∷ []) f
    is mark =
        delivered_is c d mark plain t.down_read t.light
        ∙ ap (λ (x : DeviceStep). after_due_reboot 0 (after_answers x)) (t.makes mark)
        ∙ ap (after_due_reboot 0) (answered c a e mark t.empty)
        ∙ t.due (uplink_of (record { due = 0; port = port_of c; command = a }) ∷ [])

-- ---- commands that are read back

pub read_back : (c : Command) (port : ℕ) (direction : Direction) → IsValid c → IsListed (row c) port direction → reading_of port direction (canonical c) ≡ Ok (c ∷ [])
read_back c port direction valid listed = read_as port direction (canonical c) (Ok (c ∷ [])) (message_of c port direction valid listed)

pub version_asked : reading_of 203 Down (canonical (Sync DevVersionReq)) ≡ Ok (Sync DevVersionReq ∷ [])
version_asked = read_back (Sync DevVersionReq) 203 Down (record { fields = tt; whole = tt }) (record { port_is = refl; direction_is = refl })

pub version_told : (v hw : ℕ) → v < 2 ^ 32 → hw < 2 ^ 32 → reading_of 203 Up (canonical (Sync (DevVersionAns v hw))) ≡ Ok (Sync (DevVersionAns v hw) ∷ [])
version_told v hw small fits =
    read_back (Sync (DevVersionAns v hw)) 203 Up (record { fields = (small, (fits, tt)); whole = tt }) (record { port_is = refl; direction_is = refl })

pub setup_told : reading_of 201 Up (canonical (Cast (FragSessionSetupAns 0 false false false false))) ≡ Ok (Cast (FragSessionSetupAns 0 false false false false) ∷ [])
setup_told =
    read_back (Cast (FragSessionSetupAns 0 false false false false)) 201 Up
    (record { fields = ((omega arith, (omega arith, (omega arith, (omega arith, (omega arith, tt))))), tt); whole = tt }) (record { port_is = refl; direction_is = refl })

pub status_told : (received missing : ℕ) → received < 2 ^ 14 → missing < 2 ^ 8
    → reading_of 201 Up (canonical (Cast (FragSessionStatusAns 0 received missing false))) ≡ Ok (Cast (FragSessionStatusAns 0 received missing false) ∷ [])
status_told received missing few small =
    read_back (Cast (FragSessionStatusAns 0 received missing false)) 201 Up
    (record { fields = ((omega arith, (few, tt)), (small, ((omega arith, tt), tt))); whole = tt }) (record { port_is = refl; direction_is = refl })

pub image_asked : reading_of 203 Down (canonical (Sync DevUpgradeImageReq)) ≡ Ok (Sync DevUpgradeImageReq ∷ [])
image_asked = read_back (Sync DevUpgradeImageReq) 203 Down (record { fields = tt; whole = tt }) (record { port_is = refl; direction_is = refl })

pub image_told : (v : ℕ) → v < 2 ^ 32 → reading_of 203 Up (canonical (Sync (DevUpgradeImageAns 3 (Some v)))) ≡ Ok (Sync (DevUpgradeImageAns 3 (Some v)) ∷ [])
image_told v small =
    read_back (Sync (DevUpgradeImageAns 3 (Some v))) 203 Up (record { fields = ((omega arith, tt), (small, tt)); whole = refl }) (record { port_is = refl; direction_is = refl })

pub reboot_asked : reading_of 203 Down (canonical (Sync (DevRebootCountdownReq 0))) ≡ Ok (Sync (DevRebootCountdownReq 0) ∷ [])
reboot_asked = read_back (Sync (DevRebootCountdownReq 0)) 203 Down (record { fields = (omega arith, tt); whole = tt }) (record { port_is = refl; direction_is = refl })

pub reboot_told : reading_of 203 Up (canonical (Sync (DevRebootCountdownAns 0))) ≡ Ok (Sync (DevRebootCountdownAns 0) ∷ [])
reboot_told = read_back (Sync (DevRebootCountdownAns 0)) 203 Up (record { fields = (omega arith, tt); whole = tt }) (record { port_is = refl; direction_is = refl })
