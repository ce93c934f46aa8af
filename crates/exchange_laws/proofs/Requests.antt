-- What a device that suits answers to each request, and what the server makes of the answer.
use Rattle.std.proofs.Common.{◌≡◌, ℕ, ◌+◌, ◌-◌, ◌^◌, ◌<◌, ◌≤◌, min, nat_le, Bool, true, false, List, [], length, Option, Some, refl, slice_set, arith}
use Rattle.std.proofs.lemmas.Bool.{lt-leb}
use Rattle.std.specs.Prelude.{◌==◌, if◌then◌else◌, is_some}
use Rattle.image_slots.specs.Image.{is_for, firmware_of}
use Rattle.image_slots.specs.declared.view.ImageState.TheVariants as state
use Rattle.cast_wire.specs.declared.cmd.Cmd.TheVariants.{McGroupSetupReq, McGroupSetupAns, FragSessionSetupAns, McClassCSessionReq, McClassCSessionAns, McClassBSessionReq, McClassBSessionAns, FragSessionStatusReq, FragSessionStatusAns}
use Rattle.sync_wire.specs.declared.cmd.Cmd.TheVariants.{DevVersionReq, DevVersionAns, DevUpgradeImageReq, DevUpgradeImageAns, DevRebootCountdownReq, DevRebootCountdownAns}
use Rattle.package_grammar.specs.declared.command.Command.{Command}
use Rattle.package_grammar.specs.declared.command.Command.TheVariants.{Sync, Cast}
use Rattle.clock_sync.specs.Clock.{device_time}
use Rattle.mc_group.specs.Groups.{group_at, group_of}
use Rattle.class_windows.specs.Sessions.{time_to_start, error_bits}
use Rattle.frag_session.specs.Session.{Session, excludes, seen_of, status_by, status_in, status_of}
use Rattle.frag_session.specs.Setup.{setup_bits}
use Rattle.device_core.specs.declared.class_session.Kind.TheVariants.{ClassC, ClassB}
use Rattle.device_core.specs.Answers.{one_answer}
use Rattle.device_core.specs.ClassSessions.{start_of, class_session_step}
use Rattle.device_core.specs.Device.{DeviceState, limits_of, room_of}
use Rattle.device_core.specs.Firmware.{version_step, upgrade_step, countdown_step}
use Rattle.device_core.specs.Fragments.{setup_step, status_step}
use Rattle.device_core.specs.Groups.{group_setup_step}
use Rattle.device_core.specs.SessionTable.{table_after_setup}
use Rattle.device_core.specs.Step.{command_step}
use Rattle.campaign_server.specs.declared.plan.PlanDevice.{PlanDevice}
use Rattle.campaign_server.specs.declared.plan.PlanGroup.{PlanGroup}
use Rattle.campaign_server.specs.declared.plan.PlanWindow.{PlanWindow}
use Rattle.campaign_server.specs.declared.plan.Kind.{Kind}
use Rattle.campaign_server.specs.declared.plan.Kind.TheVariants as kind
use Rattle.campaign_server.specs.declared.stage.Request.TheVariants as request
use Rattle.campaign_server.specs.declared.stage.Stage.{Stage}
use Rattle.campaign_server.specs.declared.stage.Stage.TheVariants.{At, Updated}
use Rattle.campaign_server.specs.Answers.{stage_after}
use Rattle.campaign_server.specs.Asking.{group_request, fragments_request, window_request_of}
use Rattle.campaign_server.specs.Plan.{Plan, own_id}
use Rattle.exchange_laws.specs.Exchange.{by_request}
use Rattle.exchange_laws.specs.Moving.{Answers}
use Rattle.exchange_laws.specs.Suits.{setup_for, HasFile}

-- a request with its answer, and the stage that this leads to
pub record Leads (plan : Plan) (image : List ℕ) (t word mark : ℕ) (device : DeviceState) (asked : Command) (before next : Stage) : Type 0 where
  pub answer : Command
  pub made : DeviceState
  pub answers : Answers t word mark device made asked answer
  pub moves : stage_after plan image before answer ≡ next

-- ---- version and check

version_answers : (t word mark : ℕ) (device : DeviceState) → device.outbox ≡ [] → device.slots.version < 2 ^ 32 → device.config.hw < 2 ^ 32
    → Answers t word mark device device (Sync DevVersionReq) (Sync (DevVersionAns device.slots.version device.config.hw))
unfolding command_step version_step
version_answers t word mark device empty small fits = record {
  light = omega arith;
  makes = refl;
  kept = empty;
  sendable = record { valid = record { fields = (small, (fits, tt)); whole = tt }; listed = record { port_is = refl; direction_is = refl } };
}

version_moves : (plan : Plan) (image : List ℕ) (v hw : ℕ) → is_for image hw ≡ true
    → stage_after plan image (At request.Version) (Sync (DevVersionAns v hw)) ≡ At (if is_some plan.group then request.Group else request.Fragments)
unfolding stage_after
version_moves plan image v hw is = rw is refl

pub version_leads : (plan : Plan) (image : List ℕ) (t word mark : ℕ) (device : DeviceState) → device.outbox ≡ []
    → device.slots.version < 2 ^ 32 → device.config.hw < 2 ^ 32 → is_for image device.config.hw ≡ true
    → Leads plan image t word mark device (Sync DevVersionReq) (At request.Version) (At (if is_some plan.group then request.Group else request.Fragments))
version_leads plan image t word mark device empty small fits is = record {
  answer = Sync (DevVersionAns device.slots.version device.config.hw);
  made = device;
  answers = version_answers t word mark device empty small fits;
  moves = version_moves plan image device.slots.version device.config.hw is;
}

check_moves : (plan : Plan) (image : List ℕ) (v hw : ℕ) → v ≡ firmware_of image
    → stage_after plan image (At request.Check) (Sync (DevVersionAns v hw)) ≡ Updated
unfolding stage_after
check_moves plan image v hw is = let same : (v == firmware_of image) ≡ true = grind (arith, is) in rw same refl

pub check_leads : (plan : Plan) (image : List ℕ) (t word mark : ℕ) (device : DeviceState) → device.outbox ≡ []
    → device.slots.version < 2 ^ 32 → device.config.hw < 2 ^ 32 → device.slots.version ≡ firmware_of image
    → Leads plan image t word mark device (Sync DevVersionReq) (At request.Check) Updated
check_leads plan image t word mark device empty small fits is = record {
  answer = Sync (DevVersionAns device.slots.version device.config.hw);
  made = device;
  answers = version_answers t word mark device empty small fits;
  moves = check_moves plan image device.slots.version device.config.hw is;
}

-- ---- the group

group_makes : (t word mark id addr min max : ℕ) (key : List ℕ) (device : DeviceState) → id < length device.groups
    → command_step (by_request t word mark (Cast (McGroupSetupReq id addr key min max))) device (Cast (McGroupSetupReq id addr key min max))
    ≡ one_answer (by_request t word mark (Cast (McGroupSetupReq id addr key min max)))
    (record device { groups = slice_set device.groups id (Some (group_of device.config.key device.config.root addr key min max)) })
    (Cast (McGroupSetupAns id false))
unfolding command_step group_setup_step
group_makes t word mark id addr min max key device there =
    let within : nat_le (length device.groups) id ≡ false = lt-leb _ _ there in
    rw within refl

group_moves : (plan : Plan) (image : List ℕ) (group : PlanGroup) → plan.group ≡ Some group
    → stage_after plan image (At request.Group) (Cast (McGroupSetupAns group.id false)) ≡ At request.Fragments
unfolding stage_after
group_moves plan image group is = let same : (group.id == group.id) ≡ true = grind arith in rw (is, same) refl

pub group_leads : (plan : Plan) (image : List ℕ) (t word mark : ℕ) (device : DeviceState) (planned : PlanDevice) (group : PlanGroup) → device.outbox ≡ []
    → plan.group ≡ Some group → group.id ≤ 3 → group.id < length device.groups
    → Leads plan image t word mark device (Cast (group_request planned group)) (At request.Group) (At request.Fragments)
group_leads plan image t word mark device planned group empty is few there = record {
  answer = Cast (McGroupSetupAns group.id false);
  made = _;
  answers = record {
    light = omega arith;
    makes = group_makes t word mark group.id group.addr group.min group.max _ device there;
    kept = empty;
    sendable = record { valid = record { fields = ((omega arith, (omega (arith, few), tt)), tt); whole = tt }; listed = record { port_is = refl; direction_is = refl } };
  };
  moves = group_moves plan image group is;
}

-- ---- the session

setup_moves : (plan : Plan) (image : List ℕ)
    → stage_after plan image (At request.Fragments) (Cast (FragSessionSetupAns plan.index false false false false)) ≡ At (if is_some plan.group then request.Window else request.Status)
unfolding stage_after
setup_moves plan image = let same : (plan.index == plan.index) ≡ true = grind arith in rw same refl

setup_makes : (plan : Plan) (image : List ℕ) (t word mark : ℕ) (device : DeviceState)
    → setup_bits (limits_of device.config) (room_of device.config) (setup_for plan image) ≡ 0
    → command_step (by_request t word mark (Cast (fragments_request plan image))) device (Cast (fragments_request plan image))
    ≡ one_answer (by_request t word mark (Cast (fragments_request plan image)))
    (record device { sessions = table_after_setup (limits_of device.config) (room_of device.config) (setup_for plan image) device.sessions })
    (Cast (FragSessionSetupAns plan.index false false false false))
unfolding command_step setup_step
setup_makes plan image t word mark device bits = rw bits refl

pub setup_leads : (plan : Plan) (image : List ℕ) (t word mark : ℕ) (device : DeviceState) → device.outbox ≡ [] → plan.index ≤ 3
    → setup_bits (limits_of device.config) (room_of device.config) (setup_for plan image) ≡ 0
    → Leads plan image t word mark device (Cast (fragments_request plan image)) (At request.Fragments) (At (if is_some plan.group then request.Window else request.Status))
setup_leads plan image t word mark device empty few bits = record {
  answer = Cast (FragSessionSetupAns plan.index false false false false);
  made = _;
  answers = record {
    light = omega arith;
    makes = setup_makes plan image t word mark device bits;
    kept = empty;
    sendable = record {
      valid = record { fields = ((omega (arith, few), (omega arith, (omega arith, (omega arith, (omega arith, tt))))), tt); whole = tt };
      listed = record { port_is = refl; direction_is = refl };
    };
  };
  moves = setup_moves plan image;
}

-- ---- the window

small_start : (b : Bool) (n : ℕ) → (if b then min n (2 ^ 24 - 1) else 0) < 2 ^ 24
small_start true n = omega arith
small_start false n = omega arith

window_c_makes : (t word mark id time timeout freq dr : ℕ) (device : DeviceState) → error_bits (is_some (group_at device.groups id)) freq dr ≡ 0
    → command_step (by_request t word mark (Cast (McClassCSessionReq id time timeout freq dr))) device (Cast (McClassCSessionReq id time timeout freq dr))
    ≡ one_answer (by_request t word mark (Cast (McClassCSessionReq id time timeout freq dr)))
    (record device { class_session = Some (record { id = id; kind = ClassC; time = time; timeout = timeout }) })
    (Cast (McClassCSessionAns id false false false (Some (time_to_start (device_time device.clock t) time))))
unfolding command_step class_session_step
window_c_makes t word mark id time timeout freq dr device bits = rw bits refl

window_b_makes : (t word mark id time periodicity timeout freq dr : ℕ) (device : DeviceState) → error_bits (is_some (group_at device.groups id)) freq dr ≡ 0
    → command_step (by_request t word mark (Cast (McClassBSessionReq id time periodicity timeout freq dr))) device (Cast (McClassBSessionReq id time periodicity timeout freq dr))
    ≡ one_answer (by_request t word mark (Cast (McClassBSessionReq id time periodicity timeout freq dr)))
    (record device { class_session = Some (record { id = id; kind = ClassB periodicity; time = time; timeout = timeout }) })
    (Cast (McClassBSessionAns id false false false (Some (time_to_start (device_time device.clock t) (start_of (ClassB periodicity) time)))))
unfolding command_step class_session_step
window_b_makes t word mark id time periodicity timeout freq dr device bits = rw bits refl

window_c_moves : (plan : Plan) (image : List ℕ) (window : PlanWindow) (start : Option ℕ) → plan.window ≡ Some window → window.kind ≡ kind.C
    → stage_after plan image (At request.Window) (Cast (McClassCSessionAns (own_id plan.group) false false false start)) ≡ At request.Status
unfolding stage_after
window_c_moves plan image window start is of = let same : (own_id plan.group == own_id plan.group) ≡ true = grind arith in rw (is, of, same) refl

window_b_moves : (plan : Plan) (image : List ℕ) (window : PlanWindow) (periodicity : ℕ) (start : Option ℕ) → plan.window ≡ Some window → window.kind ≡ kind.B periodicity
    → stage_after plan image (At request.Window) (Cast (McClassBSessionAns (own_id plan.group) false false false start)) ≡ At request.Status
unfolding stage_after
window_b_moves plan image window periodicity start is of = let same : (own_id plan.group == own_id plan.group) ≡ true = grind arith in rw (is, of, same) refl

window_of : (plan : Plan) (image : List ℕ) (t word mark : ℕ) (device : DeviceState) (window : PlanWindow) (of : Kind) → device.outbox ≡ [] → own_id plan.group ≤ 3
    → plan.window ≡ Some window → window.kind ≡ of → error_bits (is_some (group_at device.groups (own_id plan.group))) window.freq window.dr ≡ 0
    → Leads plan image t word mark device (Cast (window_request_of (own_id plan.group) window of)) (At request.Window) (At request.Status)
window_of plan image t word mark device window kind.C empty few is of bits = record {
  answer = Cast (McClassCSessionAns (own_id plan.group) false false false (Some (time_to_start (device_time device.clock t) window.start)));
  made = _;
  answers = record {
    light = omega arith;
    makes = window_c_makes t word mark (own_id plan.group) window.start window.timeout window.freq window.dr device bits;
    kept = empty;
    sendable = record {
      valid = record { fields = ((omega arith, (omega arith, (omega arith, (omega (arith, few), tt)))), (small_start _ _, tt)); whole = refl };
      listed = record { port_is = refl; direction_is = refl };
    };
  };
  moves = window_c_moves plan image window _ is of;
}
window_of plan image t word mark device window (kind.B periodicity) empty few is of bits = record {
  answer = Cast (McClassBSessionAns (own_id plan.group) false false false (Some (time_to_start (device_time device.clock t) (start_of (ClassB periodicity) window.start))));
  made = _;
  answers = record {
    light = omega arith;
    makes = window_b_makes t word mark (own_id plan.group) window.start periodicity window.timeout window.freq window.dr device bits;
    kept = empty;
    sendable = record {
      valid = record { fields = ((omega arith, (omega arith, (omega arith, (omega (arith, few), tt)))), (small_start _ _, tt)); whole = refl };
      listed = record { port_is = refl; direction_is = refl };
    };
  };
  moves = window_b_moves plan image window periodicity _ is of;
}

pub window_leads : (plan : Plan) (image : List ℕ) (t word mark : ℕ) (device : DeviceState) (window : PlanWindow) → device.outbox ≡ [] → own_id plan.group ≤ 3
    → plan.window ≡ Some window → error_bits (is_some (group_at device.groups (own_id plan.group))) window.freq window.dr ≡ 0
    → Leads plan image t word mark device (Cast (window_request_of (own_id plan.group) window window.kind)) (At request.Window) (At request.Status)
window_leads plan image t word mark device window empty few is bits =
    window_of plan image t word mark device window window.kind empty few is refl bits

-- ---- the status

few_received : (s : Session) → (seen_of s).received < 2 ^ 14
unfolding seen_of
few_received s = omega arith

status_moves : (plan : Plan) (image : List ℕ) (received missing : ℕ) → missing ≡ 0
    → stage_after plan image (At request.Status) (Cast (FragSessionStatusAns plan.index received missing false)) ≡ At request.Image
unfolding stage_after
status_moves plan image received missing none = let same : (plan.index == plan.index) ≡ true = grind arith in rw (same, none) refl

status_makes : (t word mark index : ℕ) (device : DeviceState) (has : HasFile index device)
    → command_step (by_request t word mark (Cast (FragSessionStatusReq index true))) device (Cast (FragSessionStatusReq index true))
    ≡ one_answer (by_request t word mark (Cast (FragSessionStatusReq index true))) device
    (Cast (FragSessionStatusAns index (seen_of has.session).received (min (seen_of has.session).missing 255) false))
unfolding command_step status_step status_of status_in status_by excludes
status_makes t word mark index device has = let now : t + 0 ≡ t = omega arith in rw (has.there, has.whole, now) refl

pub status_leads : (plan : Plan) (image : List ℕ) (t word mark : ℕ) (device : DeviceState) → device.outbox ≡ [] → plan.index ≤ 3
    → (has : HasFile plan.index device) → (seen_of has.session).missing ≡ 0
    → Leads plan image t word mark device (Cast (FragSessionStatusReq plan.index true)) (At request.Status) (At request.Image)
status_leads plan image t word mark device empty few has none = record {
  answer = Cast (FragSessionStatusAns plan.index (seen_of has.session).received (min (seen_of has.session).missing 255) false);
  made = device;
  answers = record {
    light = omega arith;
    makes = status_makes t word mark plan.index device has;
    kept = empty;
    sendable = record {
      valid = record { fields = ((omega (arith, few), (few_received has.session, tt)), (omega arith, ((omega arith, tt), tt))); whole = tt };
      listed = record { port_is = refl; direction_is = refl };
    };
  };
  moves = status_moves plan image _ _ (omega (arith, none));
}

-- ---- the image

image_moves : (plan : Plan) (image : List ℕ) → stage_after plan image (At request.Image) (Sync (DevUpgradeImageAns 3 (Some (firmware_of image)))) ≡ At request.Reboot
unfolding stage_after
image_moves plan image = let same : (firmware_of image == firmware_of image) ≡ true = grind arith in rw same refl

image_makes : (image : List ℕ) (t word mark : ℕ) (device : DeviceState) → device.slots.next ≡ state.Valid (firmware_of image)
    → command_step (by_request t word mark (Sync DevUpgradeImageReq)) device (Sync DevUpgradeImageReq)
    ≡ one_answer (by_request t word mark (Sync DevUpgradeImageReq)) device (Sync (DevUpgradeImageAns 3 (Some (firmware_of image))))
unfolding command_step upgrade_step
image_makes image t word mark device next = rw next refl

pub image_leads : (plan : Plan) (image : List ℕ) (t word mark : ℕ) (device : DeviceState) → device.outbox ≡ [] → firmware_of image < 2 ^ 32
    → device.slots.next ≡ state.Valid (firmware_of image)
    → Leads plan image t word mark device (Sync DevUpgradeImageReq) (At request.Image) (At request.Reboot)
image_leads plan image t word mark device empty small next = record {
  answer = Sync (DevUpgradeImageAns 3 (Some (firmware_of image)));
  made = device;
  answers = record {
    light = omega arith;
    makes = image_makes image t word mark device next;
    kept = empty;
    sendable = record { valid = record { fields = ((omega arith, tt), (small, tt)); whole = refl }; listed = record { port_is = refl; direction_is = refl } };
  };
  moves = image_moves plan image;
}

-- ---- the reboot

reboot_moves : (plan : Plan) (image : List ℕ) → stage_after plan image (At request.Reboot) (Sync (DevRebootCountdownAns 0)) ≡ At request.Check
unfolding stage_after
reboot_moves plan image = refl

reboot_makes : (t word mark : ℕ) (device : DeviceState)
    → command_step (by_request t word mark (Sync (DevRebootCountdownReq 0))) device (Sync (DevRebootCountdownReq 0))
    ≡ one_answer (by_request t word mark (Sync (DevRebootCountdownReq 0))) (record device { reboot = Some (device_time device.clock t) }) (Sync (DevRebootCountdownAns 0))
unfolding command_step countdown_step
reboot_makes t word mark device = refl

pub reboot_leads : (plan : Plan) (image : List ℕ) (t word mark : ℕ) (device : DeviceState) → device.outbox ≡ []
    → Leads plan image t word mark device (Sync (DevRebootCountdownReq 0)) (At request.Reboot) (At request.Check)
reboot_leads plan image t word mark device empty = record {
  answer = Sync (DevRebootCountdownAns 0);
  made = _;
  answers = record {
    light = omega arith;
    makes = reboot_makes t word mark device;
    kept = empty;
    sendable = record { valid = record { fields = (omega arith, tt); whole = tt }; listed = record { port_is = refl; direction_is = refl } };
  };
  moves = reboot_moves plan image;
}
