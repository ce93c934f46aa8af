-- What the turns of a seed's campaign make of a device: two before the fragments, four after them.
use Rattle.std.proofs.Common.{◌≡◌, ◌⊎◌, inl, inr, ℕ, zero, suc, ◌+◌, ◌-◌, ◌%◌, ◌^◌, ◌<◌, ◌≤◌, ◌==◌, nat_lt, min, true, false, List, [], None, Some, refl, sym, ap, ◌∙◌, subst, arith}
use Rattle.frag_session.specs.declared.answers.Verdict.{Verdict as Shown}
use Rattle.frag_session.specs.declared.answers.Verdict.TheVariants as shown
use Rattle.frag_session.specs.Session.{Session, new_session, renewed, after_setup, excludes, seen_of, status_by, status_in, status_of}
use Rattle.image_slots.specs.declared.view.ImageState.TheVariants as state
use Rattle.image_slots.specs.Image.{lowest_of, highest_of, is_for, firmware_of}
use Rattle.image_slots.specs.Slots.{after_swap, without_next}
use Rattle.cast_wire.specs.declared.cmd.Cmd.TheVariants.{FragSessionStatusReq, FragSessionStatusAns, FragSessionSetupAns}
use Rattle.sync_wire.specs.declared.cmd.Cmd.TheVariants.{DevVersionReq, DevVersionAns, DevUpgradeImageReq, DevUpgradeImageAns, DevRebootCountdownReq, DevRebootCountdownAns}
use Rattle.package_grammar.specs.declared.command.Command.{Command}
use Rattle.package_grammar.specs.declared.command.Command.TheVariants.{Sync, Cast}
use Rattle.clock_sync.specs.Clock.{device_time}
use Rattle.device_core.specs.declared.uplink.Uplink.{Uplink}
use Rattle.device_core.specs.Answers.{one_answer}
use Rattle.device_core.specs.Device.{DeviceState, limits_of}
use Rattle.device_core.specs.Firmware.{version_step, upgrade_step, countdown_step, after_due_reboot}
use Rattle.device_core.specs.Fragments.{setup_step, status_step}
use Rattle.device_core.specs.Step.{command_step}
use Rattle.campaign_server.specs.declared.stage.Stage.{Stage}
use Rattle.campaign_server.specs.declared.stage.Stage.TheVariants.{At, Updated}
use Rattle.campaign_server.specs.declared.stage.Request.TheVariants as request
use Rattle.campaign_server.specs.Plan.{Plan}
use Rattle.campaign_server.specs.declared.plan.PlanDevice.{PlanDevice}
use Rattle.campaign_server.specs.Asking.{request_at}
use Rattle.campaign_server.specs.Answers.{stage_after}
use Rattle.campaign_laws.proofs.HeadlineCommands.{setup_req, setup_request, setup_good, status_good, good_read}
use Rattle.campaign_laws.proofs.Stands.{IsPlan, TakesTurn}
use Rattle.campaign_laws.proofs.Rounds.{TakesTurns}
use Rattle.campaign_laws.proofs.Devices.{IsPlain, at_of, holding, still_due, takes_turn, version_asked, version_told, setup_told, status_told, image_asked, image_told, reboot_asked, reboot_told}
use Rattle.campaign_laws.proofs.Sessions.{cut, IsOurs, something_missing, nothing_missing}
use Rattle.campaign_laws.proofs.Hearing.{IsMade, IsNew, IsReady, is_cut, no_bits}

-- its last uplink doesn't matter
plain_holding : (e : DeviceState) → IsPlain e → IsPlain (holding [] e)
plain_holding e plain = record { config = plain.config; reboot = plain.reboot; outbox = refl }

-- ---- the first two turns

abbrev pub Early : (image : List ℕ) (j : ℕ) → DeviceState → Stage → Type 0
Early image zero d s = (s ≡ At request.Version) × IsNew d
Early image (suc zero) d s = (s ≡ At request.Fragments) × IsNew d
Early image (suc (suc zero)) d s = (s ≡ At request.Status) × IsReady image d
Early image (suc (suc (suc j))) d s = ⊥

version_moves : (image : List ℕ) (plan : Plan) (v hw : ℕ) → IsPlan plan → hw ≡ 1 → lowest_of image ≡ 1 → highest_of image ≡ 1 → stage_after plan image (At request.Version) (Sync (DevVersionAns v hw)) ≡ At request.Fragments
unfolding stage_after is_for
version_moves image plan v hw is one low high = rw (one, low, high, is.group) refl

version_turn : (image : List ℕ) (d : DeviceState) (s : Stage) → IsMade image → Early image 0 d s → TakesTurn image (Early image 1) d s
unfolding request_at command_step version_step
version_turn image d s made (is, new) =
    takes_turn image (Early image 1) d s (Sync DevVersionReq) (Sync (DevVersionAns d.slots.version d.config.hw)) d d new.plain (record {
      ask = λ plan device planned. rw is refl;
      down_read = version_asked;
      light = omega arith;
      makes = λ mark. refl;
      empty = new.plain.outbox;
      due = still_due d new.plain.reboot;
      up_read = version_told d.slots.version d.config.hw (omega (arith, new.version)) (omega (arith, new.plain.config.hw));
      silent = refl;
      after = λ plan planned. (
        ap (λ (x : Stage). stage_after plan image x (Sync (DevVersionAns d.slots.version d.config.hw))) is ∙ version_moves image plan d.slots.version d.config.hw planned new.plain.config.hw made.lowest made.highest,
        record { plain = plain_holding d new.plain; session = new.session; version = new.version },
      );
    })

-- the device with its session set up
abbrev ready_by : (image : List ℕ) → DeviceState → DeviceState
ready_by image d = record d { sessions = record d.sessions { first = Some (new_session (limits_of d.config) (setup_req image cut)) } }

setup_makes : (image : List ℕ) (d : DeviceState) (mark : ℕ) → IsMade image → IsNew d
    → command_step (at_of mark (setup_request image cut)) d (setup_request image cut) ≡ one_answer (at_of mark (setup_request image cut)) (ready_by image d) (Cast (FragSessionSetupAns 0 false false false false))
unfolding command_step setup_step after_setup renewed
setup_makes image d mark made new = rw (no_bits image d made new.plain, new.session) refl

setup_asked : (image : List ℕ) (plan : Plan) (device : PlanDevice) → IsPlan plan → request_at plan image device (At request.Fragments) ≡ Some (setup_request image cut)
unfolding request_at
setup_asked image plan device is = rw (is.size, is.group, is.index) refl

setup_moves : (image : List ℕ) (plan : Plan) → IsPlan plan → stage_after plan image (At request.Fragments) (Cast (FragSessionSetupAns 0 false false false false)) ≡ At request.Status
unfolding stage_after
setup_moves image plan is = rw (is.group, is.index) refl

setup_turn : (image : List ℕ) (d : DeviceState) (s : Stage) → IsMade image → Early image 1 d s → TakesTurn image (Early image 2) d s
setup_turn image d s made (is, new) =
    let c : Command = setup_request image cut in
    let a : Command = Cast (FragSessionSetupAns 0 false false false false) in
    takes_turn image (Early image 2) d s c a (ready_by image d) (ready_by image d) new.plain (record {
      ask = λ plan device planned. ap (λ (x : Stage). request_at plan image device x) is ∙ setup_asked image plan device planned;
      down_read = good_read c (setup_good image cut made.bytes (is_cut image made));
      light = omega arith;
      makes = λ mark. setup_makes image d mark made new;
      empty = new.plain.outbox;
      due = still_due (ready_by image d) new.plain.reboot;
      up_read = setup_told;
      silent = refl;
      after = λ plan planned. (
        ap (λ (x : Stage). stage_after plan image x a) is ∙ setup_moves image plan planned,
        record {
          plain = record {
            config = new.plain.config;
            reboot = new.plain.reboot;
            outbox = refl;
          };
          session = refl;
        },
      );
    })

pub early_turns : (image : List ℕ) → IsMade image → TakesTurns image 2 (Early image)
early_turns image made zero low d s h = version_turn image d s made h
early_turns image made (suc zero) low d s h = setup_turn image d s made h
early_turns image made (suc (suc j)) low d s h = absurd (omega (arith, low))

-- ---- the last four turns

-- the stage of a device with its whole file after j turns, and what leads on from it
abbrev pub AtStage : (image : List ℕ) (j : ℕ) → DeviceState → Stage → Type 0
AtStage image zero d s = (s ≡ At request.Status) × (d.slots.next ≡ state.Valid (firmware_of image))
AtStage image (suc zero) d s = (s ≡ At request.Image) × (d.slots.next ≡ state.Valid (firmware_of image))
AtStage image (suc (suc zero)) d s = (s ≡ At request.Reboot) × (d.slots.next ≡ state.Valid (firmware_of image))
AtStage image (suc (suc (suc zero))) d s = (s ≡ At request.Check) × (d.slots.version ≡ firmware_of image)
AtStage image (suc (suc (suc (suc zero)))) d s = s ≡ Updated
AtStage image (suc (suc (suc (suc (suc j))))) d s = ⊥

-- a device that has heard all that was delivered: it still receives, and waits, or it has its file, and goes on
pub record HasHeard (image : List ℕ) (j : ℕ) (d : DeviceState) (s : Stage) (x : Session) : Type 0 where
  pub plain : IsPlain d
  pub session : d.sessions.first ≡ Some x
  pub ours : IsOurs image x
  pub how : (((seen_of x).verdict ≡ shown.Receiving) × (s ≡ At request.Status)) ⊎ ((mark : ℕ) × ((seen_of x).verdict ≡ shown.Complete mark) × AtStage image j d s)

abbrev pub Late : (image : List ℕ) (j : ℕ) → DeviceState → Stage → Type 0
Late image j d s = (x : Session) × HasHeard image j d s x

-- with its whole file it goes on
goes_on : (image : List ℕ) (j : ℕ) (e : DeviceState) (s : Stage) (x : Session) (mark : ℕ) → IsPlain e → e.sessions.first ≡ Some x → IsOurs image x
    → (seen_of x).verdict ≡ shown.Complete mark → AtStage image j (holding [] e) s → Late image j (holding [] e) s
goes_on image j e s x mark plain session ours whole at =
    (x, record { plain = plain_holding e plain; session = session; ours = ours; how = inr (mark, whole, at) })

abbrev status_answer : Session → Command
status_answer x = Cast (FragSessionStatusAns 0 (seen_of x).received (min (seen_of x).missing 255) false)

status_made : (d : DeviceState) (x : Session) (mark : ℕ) (v : Shown) → d.sessions.first ≡ Some x → (seen_of x).verdict ≡ v → (v ≡ shown.Receiving) ⊎ ((at : ℕ) × (v ≡ shown.Complete at))
    → command_step (at_of mark (Cast (FragSessionStatusReq 0 true))) d (Cast (FragSessionStatusReq 0 true)) ≡ one_answer (at_of mark (Cast (FragSessionStatusReq 0 true))) d (status_answer x)
unfolding command_step status_step status_of status_in status_by excludes
status_made d x mark v session is (inl receives) = rw (session, is, receives) refl
status_made d x mark v session is (inr whole) = rw (session, is, whole.1) refl

few_received : (x : Session) → (seen_of x).received < 2 ^ 14
unfolding seen_of
few_received x = omega arith

small_missing : (n : ℕ) → min n 255 < 2 ^ 8
small_missing n = omega arith

status_moves : (image : List ℕ) (plan : Plan) (received missing : ℕ) → IsPlan plan → missing ≡ 0 → stage_after plan image (At request.Status) (Cast (FragSessionStatusAns 0 received missing false)) ≡ At request.Image
unfolding stage_after
status_moves image plan received missing is none = rw (is.index, none) refl

status_stays : (image : List ℕ) (plan : Plan) (received missing : ℕ) → IsPlan plan → 1 ≤ missing → stage_after plan image (At request.Status) (Cast (FragSessionStatusAns 0 received missing false)) ≡ At request.Status
unfolding stage_after
status_stays image plan received missing is some = let more : (missing == 0) ≡ false = grind (arith, some) in rw (is.index, more) refl

-- a device that is asked for its status
status_turn : (image : List ℕ) (j : ℕ) (d : DeviceState) (s : Stage) (x : Session) → IsPlain d → d.sessions.first ≡ Some x → s ≡ At request.Status
    → ((seen_of x).verdict ≡ shown.Receiving) ⊎ ((at : ℕ) × ((seen_of x).verdict ≡ shown.Complete at))
    → ((plan : Plan) → IsPlan plan → Late image (j + 1) (holding [] d) (stage_after plan image (At request.Status) (status_answer x)))
    → TakesTurn image (Late image (j + 1)) d s
unfolding request_at
status_turn image j d s x plain session is decided after =
    takes_turn image (Late image (j + 1)) d s (Cast (FragSessionStatusReq 0 true)) (status_answer x) d d plain (record {
      ask = λ plan device planned. rw (is, planned.index) refl;
      down_read = good_read (Cast (FragSessionStatusReq 0 true)) (status_good 0 true (omega arith));
      light = omega arith;
      makes = λ mark. status_made d x mark (seen_of x).verdict session refl decided;
      empty = plain.outbox;
      due = still_due d plain.reboot;
      up_read = status_told (seen_of x).received (min (seen_of x).missing 255) (few_received x) (small_missing (seen_of x).missing);
      silent = refl;
      after = λ plan planned. subst (λ (y : Stage). Late image (j + 1) (holding [] d) (stage_after plan image y (status_answer x))) (sym is) (after plan planned);
    })

-- it still receives
waiting_turn : (image : List ℕ) (j : ℕ) (d : DeviceState) (s : Stage) (x : Session) → IsMade image → IsPlain d → d.sessions.first ≡ Some x → IsOurs image x
    → (seen_of x).verdict ≡ shown.Receiving → s ≡ At request.Status → TakesTurn image (Late image (j + 1)) d s
waiting_turn image j d s x made plain session ours receives is =
    let some = something_missing image cut x made.bytes ours.set receives in
    let more : 1 ≤ min (seen_of x).missing 255 = omega (arith, some) in
    status_turn image j d s x plain session is (inl receives) (λ plan planned. (
      x,
      record {
        plain = plain_holding d plain;
        session = session;
        ours = ours;
        how = inl (receives, status_stays image plan (seen_of x).received (min (seen_of x).missing 255) planned more);
      },
    ))

-- it has its file
whole_turn : (image : List ℕ) (d : DeviceState) (s : Stage) (x : Session) (mark : ℕ) → IsMade image → IsPlain d → d.sessions.first ≡ Some x → IsOurs image x
    → (seen_of x).verdict ≡ shown.Complete mark → AtStage image 0 d s → TakesTurn image (Late image 1) d s
whole_turn image d s x mark made plain session ours whole (is, next) =
    let none : min (seen_of x).missing 255 ≡ 0 = (let nothing = nothing_missing x mark whole in omega (arith, nothing)) in
    status_turn image 0 d s x plain session is (inr (mark, whole))
    (λ plan planned. goes_on image 1 d _ x mark plain session ours whole
    (status_moves image plan (seen_of x).received (min (seen_of x).missing 255) planned none, next))

image_moves : (image : List ℕ) (plan : Plan) → stage_after plan image (At request.Image) (Sync (DevUpgradeImageAns 3 (Some (firmware_of image)))) ≡ At request.Reboot
unfolding stage_after
image_moves image plan = let same : (firmware_of image == firmware_of image) ≡ true = grind arith in rw same refl

image_turn : (image : List ℕ) (d : DeviceState) (s : Stage) (x : Session) (mark : ℕ) → IsMade image → IsPlain d → d.sessions.first ≡ Some x → IsOurs image x
    → (seen_of x).verdict ≡ shown.Complete mark → AtStage image 1 d s → TakesTurn image (Late image 2) d s
unfolding request_at command_step upgrade_step
image_turn image d s x mark made plain session ours whole (is, next) =
    let a : Command = Sync (DevUpgradeImageAns 3 (Some (firmware_of image))) in
    takes_turn image (Late image 2) d s (Sync DevUpgradeImageReq) a d d plain (record {
      ask = λ plan device planned. rw is refl;
      down_read = image_asked;
      light = omega arith;
      makes = λ mark. rw next refl;
      empty = plain.outbox;
      due = still_due d plain.reboot;
      up_read = image_told (firmware_of image) made.firmware;
      silent = refl;
      after = λ plan planned.
          goes_on image 2 d _ x mark plain session ours whole (ap (λ (y : Stage). stage_after plan image y a) is ∙ image_moves image plan, next);
    })

-- the device after its reboot
abbrev rebooted : (image : List ℕ) → DeviceState → DeviceState
rebooted image d = record d {
  reboot = None;
  slots = without_next (record d.slots { version = firmware_of image; running = d.slots.next_file });
}

abbrev rebooting : DeviceState → DeviceState
rebooting d = record d { reboot = Some (device_time d.clock 0) }

reboot_due : (image : List ℕ) (d : DeviceState) → d.slots.next ≡ state.Valid (firmware_of image) → (us : List Uplink)
    → after_due_reboot 0 (holding us (rebooting d)) ≡ holding us (rebooted image d)
unfolding after_due_reboot after_swap
reboot_due image d next us =
    let now : ℕ = device_time d.clock 0 in
    let fits : now < 2 ^ 32 = omega arith in
    let due : nat_lt ((now + (2 ^ 32 - now)) % 2 ^ 32) (2 ^ 31) ≡ true = (let turn : now + (2 ^ 32 - now) ≡ 2 ^ 32 = omega (arith, fits) in rw turn refl) in
    rw (due, next) refl

reboot_turn : (image : List ℕ) (d : DeviceState) (s : Stage) (x : Session) (mark : ℕ) → IsMade image → IsPlain d → d.sessions.first ≡ Some x → IsOurs image x
    → (seen_of x).verdict ≡ shown.Complete mark → AtStage image 2 d s → TakesTurn image (Late image 3) d s
unfolding request_at command_step countdown_step stage_after
reboot_turn image d s x mark made plain session ours whole (is, next) =
    takes_turn image (Late image 3) d s (Sync (DevRebootCountdownReq 0)) (Sync (DevRebootCountdownAns 0)) (rebooting d) (rebooted image d) plain (record {
      ask = λ plan device planned. rw is refl;
      down_read = reboot_asked;
      light = omega arith;
      makes = λ mark. refl;
      empty = plain.outbox;
      due = reboot_due image d next;
      up_read = reboot_told;
      silent = refl;
      after = λ plan planned.
          goes_on image 3 (rebooted image d) _ x mark (record { config = plain.config; reboot = refl; outbox = plain.outbox }) session ours whole
          (ap (λ (y : Stage). stage_after plan image y (Sync (DevRebootCountdownAns 0))) is, refl);
    })

check_moves : (image : List ℕ) (plan : Plan) (v hw : ℕ) → v ≡ firmware_of image → stage_after plan image (At request.Check) (Sync (DevVersionAns v hw)) ≡ Updated
unfolding stage_after
check_moves image plan v hw is = let same : (v == firmware_of image) ≡ true = grind (arith, is) in rw same refl

check_turn : (image : List ℕ) (d : DeviceState) (s : Stage) (x : Session) (mark : ℕ) → IsMade image → IsPlain d → d.sessions.first ≡ Some x → IsOurs image x
    → (seen_of x).verdict ≡ shown.Complete mark → AtStage image 3 d s → TakesTurn image (Late image 4) d s
unfolding request_at command_step version_step
check_turn image d s x mark made plain session ours whole (is, runs) =
    let a : Command = Sync (DevVersionAns d.slots.version d.config.hw) in
    takes_turn image (Late image 4) d s (Sync DevVersionReq) a d d plain (record {
      ask = λ plan device planned. rw is refl;
      down_read = version_asked;
      light = omega arith;
      makes = λ mark. refl;
      empty = plain.outbox;
      due = still_due d plain.reboot;
      up_read = version_told d.slots.version d.config.hw (rw runs made.firmware) (omega (arith, plain.config.hw));
      silent = refl;
      after = λ plan planned.
          goes_on image 4 d _ x mark plain session ours whole
          (ap (λ (y : Stage). stage_after plan image y a) is ∙ check_moves image plan d.slots.version d.config.hw runs);
    })

late_by : (image : List ℕ) (j : ℕ) (d : DeviceState) (s : Stage) (x : Session) → IsMade image → j < 4 → IsPlain d → d.sessions.first ≡ Some x → IsOurs image x
    → (mark : ℕ) → (seen_of x).verdict ≡ shown.Complete mark → AtStage image j d s → TakesTurn image (Late image (j + 1)) d s
late_by image zero d s x made low plain session ours mark whole at = whole_turn image d s x mark made plain session ours whole at
late_by image (suc zero) d s x made low plain session ours mark whole at = image_turn image d s x mark made plain session ours whole at
late_by image (suc (suc zero)) d s x made low plain session ours mark whole at = reboot_turn image d s x mark made plain session ours whole at
late_by image (suc (suc (suc zero))) d s x made low plain session ours mark whole at = check_turn image d s x mark made plain session ours whole at
late_by image (suc (suc (suc (suc j)))) d s x made low plain session ours mark whole at = absurd (omega (arith, low))

pub late_turns : (image : List ℕ) → IsMade image → TakesTurns image 4 (Late image)
late_turns image made j low d s (x, h) = by h.how
  where
    by : (((seen_of x).verdict ≡ shown.Receiving) × (s ≡ At request.Status)) ⊎ ((mark : ℕ) × ((seen_of x).verdict ≡ shown.Complete mark) × AtStage image j d s) → TakesTurn image (Late image (j + 1)) d s
    by (inl (receives, is)) = waiting_turn image j d s x made h.plain h.session h.ours receives is
    by (inr (mark, whole, at)) = late_by image j d s x made low h.plain h.session h.ours mark whole at
