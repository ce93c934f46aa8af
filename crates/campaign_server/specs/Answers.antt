-- Where an answer leads (TS004, TS005 and TS006, 1.0.0; the stages are this project's profile). A refusal is tried before
-- what moves on, and both only for the index or id that was asked of.
use Rattle.std.specs.Prelude.{ℕ, ◌+◌, Bool, true, false, ◌==◌, if◌then◌else◌, List, [], ◌∷◌, Option, Some, None, is_some}
use Rattle.image_slots.specs.Image.{is_for, firmware_of}
use Rattle.cast_wire.specs.declared.cmd.Cmd.TheVariants.{McGroupSetupAns, FragSessionSetupAns, McClassCSessionAns, McClassBSessionAns, FragSessionStatusAns}
use Rattle.sync_wire.specs.declared.cmd.Cmd.TheVariants.{DevVersionAns, DevUpgradeImageAns, DevRebootCountdownAns}
use Rattle.wire_base.specs.Numbers.{flag_value}
use Rattle.cast_wire.specs.SetupRefusal.{refusal_bits}
use Rattle.package_grammar.specs.declared.command.Command.{Command}
use Rattle.package_grammar.specs.declared.command.Command.TheVariants.{Sync, Cast}
use Rattle.campaign_server.specs.declared.plan.PlanWindow.{PlanWindow}
use Rattle.campaign_server.specs.declared.plan.Kind.{Kind}
use Rattle.campaign_server.specs.declared.plan.Kind.TheVariants as kind
use Rattle.campaign_server.specs.declared.stage.Stage.{Stage}
use Rattle.campaign_server.specs.declared.stage.Stage.TheVariants.{At, Updated, Refused}
use Rattle.campaign_server.specs.declared.stage.Request.{Request}
use Rattle.campaign_server.specs.declared.stage.Request.TheVariants.{Version, Group, Fragments, Window, Status, Image, Reboot, Check}
use Rattle.campaign_server.specs.Plan.{Plan, own_id}

-- the stage that an answer moves to, or refused where it has bits
abbrev pub unless_refused : Request → (bits : ℕ) → Stage → Stage
unless_refused request bits moved = if bits == 0 then moved else Refused request bits

-- the stage that an answer moves to; one with another index or id moves nothing
abbrev pub where_own : (own told : ℕ) → Request → Stage → Stage
where_own own told request moved = if told == own then moved else At request

-- ---- each answer

-- 1 is hardware that the image is not for; without a group its stages are left out
abbrev pub after_version : Plan → (image : List ℕ) → (hardware : ℕ) → Stage
after_version plan image hardware =
    unless_refused Version (if is_for image hardware then 0 else 1) (At (if is_some plan.group then Group else Fragments))

-- 4 is IDerror
abbrev pub after_group : Plan → (id : ℕ) → (error : Bool) → Stage
after_group plan id error =
    where_own (own_id plan.group) id Group (unless_refused Group (flag_value error 4) (At Fragments))

-- FragSessionSetupAns for the plan's session leads to the window, or without a group to the status
abbrev pub after_setup : Plan → (index bits : ℕ) → Stage
after_setup plan index bits =
    let next = if is_some plan.group then Window else Status in
    where_own plan.index index Fragments (unless_refused Fragments bits (At next))

-- the group (16), the frequency (8) and the data rate (4) of a class session
abbrev pub window_bits : (undefined freq dr : Bool) → ℕ
window_bits undefined freq dr = flag_value undefined 16 + flag_value freq 8 + flag_value dr 4

-- only the answer of the plan's own class
abbrev pub after_window : Plan → (own : Bool) → (id bits : ℕ) → Stage
after_window plan own id bits =
    if own then where_own (own_id plan.group) id Window (unless_refused Window bits (At Status)) else At Window

-- 1 is too little memory for the matrix; with fragments missing it stays
abbrev pub after_status : Plan → (index missing : ℕ) → (norows : Bool) → Stage
after_status plan index missing norows =
    let next = if missing == 0 then Image else Status in
    where_own plan.index index Status (unless_refused Status (flag_value norows 1) (At next))

-- 1 corrupt, 2 incompatible, 3 another version; 0 stays
abbrev pub after_upgrade : (image : List ℕ) → (status : ℕ) → (next : Option ℕ) → Stage
after_upgrade image status None = unless_refused Image status (At Image)
after_upgrade image status (Some version) = if version == firmware_of image then At Reboot else Refused Image status

-- the device runs the image's version, or is asked again
abbrev pub after_check : (image : List ℕ) → (firmware : ℕ) → Stage
after_check image firmware = if firmware == firmware_of image then Updated else At Check

-- ---- the table

-- the plan has a window, of class C
abbrev pub is_class_c : Option PlanWindow → Bool
is_class_c None = false
is_class_c (Some window) = kind_is_c window.kind
  where
    kind_is_c : Kind → Bool
    kind_is_c kind.C = true
    kind_is_c (kind.B periodicity) = false

-- the plan has a window, of class B
abbrev pub is_class_b : Option PlanWindow → Bool
is_class_b None = false
is_class_b (Some window) = kind_is_b window.kind
  where
    kind_is_b : Kind → Bool
    kind_is_b kind.C = false
    kind_is_b (kind.B periodicity) = true

-- the stage after a command of an uplink: an answer moves only its own stage
unfoldable pub stage_after : Plan → (image : List ℕ) → Stage → Command → Stage
stage_after plan image (At Version) (Sync (DevVersionAns firmware hardware)) = after_version plan image hardware
stage_after plan image (At Group) (Cast (McGroupSetupAns id error)) = after_group plan id error
stage_after plan image (At Fragments) (Cast (FragSessionSetupAns index descriptor unsupported memory encoding)) =
    after_setup plan index (refusal_bits descriptor unsupported memory encoding)
stage_after plan image (At Window) (Cast (McClassCSessionAns id undefined freq dr start)) =
    after_window plan (is_class_c plan.window) id (window_bits undefined freq dr)
stage_after plan image (At Window) (Cast (McClassBSessionAns id undefined freq dr start)) =
    after_window plan (is_class_b plan.window) id (window_bits undefined freq dr)
stage_after plan image (At Status) (Cast (FragSessionStatusAns index received missing norows)) =
    after_status plan index missing norows
stage_after plan image (At Image) (Sync (DevUpgradeImageAns status next)) = after_upgrade image status next
stage_after plan image (At Reboot) (Sync (DevRebootCountdownAns count)) = At Check
stage_after plan image (At Check) (Sync (DevVersionAns firmware hardware)) = after_check image firmware
stage_after plan image stage command = stage

-- the stage after the commands of an uplink, one after another
unfoldable pub stage_after_all : Plan → (image : List ℕ) → Stage → List Command → Stage
stage_after_all plan image stage [] = stage
stage_after_all plan image stage (c ∷ cs) = stage_after_all plan image (stage_after plan image stage c) cs
