-- Steps of a server, worked out: what it asks and sends, in bytes, and where answers lead.
use Rattle.std.specs.Prelude.{◌≡◌, ℕ, ◌-◌, ◌^◌, true, false, List, [], ◌∷◌, take, replicate, Option, Some, None, Result, Ok, Err, is_ok}
use Rattle.wire_base.specs.declared.refusal.Refusal.{Refusal}
use Rattle.wire_base.specs.declared.refusal.Why.TheVariants as why
use Rattle.package_grammar.specs.declared.command.Command.TheVariants.{Cast}
use Rattle.cast_wire.specs.declared.cmd.Cmd.TheVariants.{McGroupSetupReq, DataFragment}
use Rattle.frag_encoder.specs.Encoding.{data_of}
use Rattle.package_grammar.specs.declared.downlink.Downlink.{Downlink}
use Rattle.package_grammar.specs.declared.downlink.To.TheVariants as to
use Rattle.mc_keys.specs.declared.root_kind.RootKind.TheVariants.{V10}
use Rattle.mc_keys.specs.Keys.{mc_ke_key}
use Rattle.mc_keys.specs.Roots.{root_of}
use Rattle.mc_keys.specs.WorkedKeys.{worked_key}
use Rattle.campaign_server.specs.declared.plan.Kind.TheVariants as kind
use Rattle.campaign_server.specs.declared.plan.Field.TheVariants as field
use Rattle.campaign_server.specs.declared.plan.PlanGroup.{PlanGroup}
use Rattle.campaign_server.specs.declared.plan.PlanWindow.{PlanWindow}
use Rattle.campaign_server.specs.declared.fragments.Spent.TheVariants.{Fragments as AllSent, Counts}
use Rattle.campaign_server.specs.declared.stage.Stage.{Stage}
use Rattle.campaign_server.specs.declared.stage.Stage.TheVariants.{At, Updated, Refused}
use Rattle.campaign_server.specs.declared.stage.Request.TheVariants.{Version, Group, Fragments, Window, Status, Image, Reboot, Check}
use Rattle.campaign_server.specs.Plan.{Plan, bad_field}
use Rattle.campaign_server.specs.Server.{ServerState, first_server, ledger}
use Rattle.campaign_server.specs.Asking.{group_request, request_of}
use Rattle.campaign_server.specs.Fragments.{next_fragment, after_fragment, status_to_all, after_status_to_all}
use Rattle.campaign_server.specs.Framing.{has_frame, frame_for, session_keys}
use Rattle.campaign_server.specs.Wrapping.{wrapped_key}
use Rattle.campaign_server.specs.Sent.{down_of, result_of, answer_of}
use Rattle.campaign_server.specs.Uplinks.{uplink_step}

-- ---- a campaign: an image of hardware 1 and firmware 2, 52 bytes (its digest doesn't matter here), and one device

abbrev pub image : List ℕ
image = 0x46 ∷ 0x55 ∷ 0x49 ∷ 0x4d ∷ 0x01 ∷ 0x01 ∷ 0 ∷ 0 ∷ 0 ∷ 0x02 ∷ 0 ∷ 0 ∷ 0 ∷ 0x03 ∷ 0 ∷ 0 ∷ 0 ∷ replicate 35 0

-- one of format 2, of hardware 1 to 3 and firmware 2, 56 bytes
abbrev pub ranged : List ℕ
ranged =
    0x46 ∷ 0x55 ∷ 0x49 ∷ 0x4d ∷ 0x02 ∷ 0x01 ∷ 0 ∷ 0 ∷ 0 ∷ 0x03 ∷ 0 ∷ 0 ∷ 0 ∷ 0x02 ∷ 0 ∷ 0 ∷ 0 ∷ 0x03 ∷ 0 ∷ 0 ∷ 0 ∷ replicate 35 0

abbrev pub alone : Plan
alone = record { frag_size = 13; parity = 4; index = 0; group = None; window = None; devices = record { key = replicate 16 0; root = V10 } ∷ [] }

-- a group with the frame counts 5 and 6, and its class C session
abbrev pub worked_group : PlanGroup
worked_group = record { id = 0; addr = 0x11223344; key = replicate 16 0; min = 5; max = 7 }

abbrev pub worked_window : PlanWindow
worked_window = record { kind = kind.C; start = 1000; timeout = 0; freq = 8695250; dr = 0 }

abbrev pub grouped : Plan
grouped = record alone { group = Some worked_group; window = Some worked_window }

-- a session of index 2, and a group of id 3
abbrev pub elsewhere : Plan
elsewhere = record grouped { index = 2; group = Some (record worked_group { id = 3 }) }

-- the same with a class B session
abbrev pub of_class_b : Plan
of_class_b = record grouped { window = Some (record worked_window { kind = kind.B 3 }) }

abbrev pub two_devices : Plan
two_devices = record alone { devices = record { key = replicate 16 0; root = V10 } ∷ record { key = replicate 16 1; root = V10 } ∷ [] }

-- a server whose device is at a stage
abbrev pub at_stage : Plan → Stage → ServerState
at_stage plan stage = record (first_server image plan) { stages = stage ∷ [] }

-- ---- what it asks of a device

abbrev pub asks : Plan → Stage → Option Downlink
asks plan stage = down_of (request_of (at_stage plan stage) 1)

abbrev pub by_unicast : (port : ℕ) → List ℕ → Option Downlink
by_unicast port payload = Some (record { to = to.Unicast; port = port; payload = payload })

pub record AskSteps : Type 0 where
  pub start : first_server image two_devices
      ≡ record { plan = two_devices; image = image; stages = At Version ∷ At Version ∷ []; statuses = None ∷ None ∷ []; next = 1; count = 0 }
  -- the second device is asked for the group, with the key wrapped for it
  pub own_key : request_of (record (first_server image (record grouped { devices = two_devices.devices })) { stages = At Version ∷ At Group ∷ [] }) 2
      ≡ Some (record { to = to.Unicast; command = Cast (group_request (record { key = replicate 16 1; root = V10 }) worked_group) })
  pub version : asks alone (At Version) ≡ by_unicast 203 (0x01 ∷ [])
  -- 4 fragments of 13 bytes, or 2 of 50 with 48 of padding; the descriptor is the firmware version, and a group may feed it
  pub fragments : asks alone (At Fragments) ≡ by_unicast 201 (0x02 ∷ 0x00 ∷ 0x04 ∷ 0x00 ∷ 0x0d ∷ 0x00 ∷ 0x00 ∷ 0x02 ∷ 0x00 ∷ 0x00 ∷ 0x00 ∷ [])
  pub padded : asks (record alone { frag_size = 50 }) (At Fragments)
      ≡ by_unicast 201 (0x02 ∷ 0x00 ∷ 0x02 ∷ 0x00 ∷ 0x32 ∷ 0x00 ∷ 0x30 ∷ 0x02 ∷ 0x00 ∷ 0x00 ∷ 0x00 ∷ [])
  pub of_format_2 : down_of (request_of (record (first_server ranged alone) { stages = At Fragments ∷ [] }) 1)
      ≡ by_unicast 201 (0x02 ∷ 0x00 ∷ 0x05 ∷ 0x00 ∷ 0x0d ∷ 0x00 ∷ 0x09 ∷ 0x02 ∷ 0x00 ∷ 0x00 ∷ 0x00 ∷ [])
  pub fed : asks grouped (At Fragments) ≡ by_unicast 201 (0x02 ∷ 0x01 ∷ 0x04 ∷ 0x00 ∷ 0x0d ∷ 0x00 ∷ 0x00 ∷ 0x02 ∷ 0x00 ∷ 0x00 ∷ 0x00 ∷ [])
  pub window : asks grouped (At Window) ≡ by_unicast 200 (0x04 ∷ 0x00 ∷ 0xe8 ∷ 0x03 ∷ 0x00 ∷ 0x00 ∷ 0x00 ∷ 0xd2 ∷ 0xad ∷ 0x84 ∷ 0x00 ∷ [])
  pub window_b : asks (record grouped { window = Some (record worked_window { kind = kind.B 3; timeout = 1; dr = 4 }) }) (At Window)
      ≡ by_unicast 200 (0x05 ∷ 0x00 ∷ 0xe8 ∷ 0x03 ∷ 0x00 ∷ 0x00 ∷ 0x31 ∷ 0xd2 ∷ 0xad ∷ 0x84 ∷ 0x04 ∷ [])
  pub long_window : asks (record grouped { window = Some (record worked_window { timeout = 2; dr = 5 }) }) (At Window)
      ≡ by_unicast 200 (0x04 ∷ 0x00 ∷ 0xe8 ∷ 0x03 ∷ 0x00 ∷ 0x00 ∷ 0x02 ∷ 0xd2 ∷ 0xad ∷ 0x84 ∷ 0x05 ∷ [])
  pub status : asks alone (At Status) ≡ by_unicast 201 (0x01 ∷ 0x01 ∷ [])
  pub image_ : asks alone (At Image) ≡ by_unicast 203 (0x04 ∷ [])
  pub reboot : asks alone (At Reboot) ≡ by_unicast 203 (0x03 ∷ 0x00 ∷ 0x00 ∷ 0x00 ∷ [])
  pub check : asks alone (At Check) ≡ by_unicast 203 (0x01 ∷ [])
  -- the session's index and the group's id, and the mask that has only this id's bit
  pub by_index : asks elsewhere (At Fragments)
      ≡ by_unicast 201 (0x02 ∷ 0x28 ∷ 0x04 ∷ 0x00 ∷ 0x0d ∷ 0x00 ∷ 0x00 ∷ 0x02 ∷ 0x00 ∷ 0x00 ∷ 0x00 ∷ [])
  pub by_id : request_of (at_stage elsewhere (At Group)) 1
      ≡ Some (record { to = to.Unicast; command = Cast (McGroupSetupReq 3 0x11223344 (wrapped_key (mc_ke_key (root_of V10 (replicate 16 0))) (replicate 16 0)) 5 7) })
  pub window_by_id : asks elsewhere (At Window)
      ≡ by_unicast 200 (0x04 ∷ 0x03 ∷ 0xe8 ∷ 0x03 ∷ 0x00 ∷ 0x00 ∷ 0x00 ∷ 0xd2 ∷ 0xad ∷ 0x84 ∷ 0x00 ∷ [])
  pub status_by_index : asks elsewhere (At Status) ≡ by_unicast 201 (0x01 ∷ 0x05 ∷ [])
  pub updated : asks alone Updated ≡ None
  pub refused : asks alone (Refused Version 1) ≡ None

-- ---- where an uplink leads from a stage

abbrev pub leads : Plan → Stage → (port : ℕ) → List ℕ → Option Stage
leads plan stage port payload = ledger (uplink_step (at_stage plan stage) 1 port payload 0).server 1

-- DevVersionAns
abbrev pub versions : (firmware hardware : ℕ) → List ℕ
versions firmware hardware = 0x01 ∷ firmware ∷ 0 ∷ 0 ∷ 0 ∷ hardware ∷ 0 ∷ 0 ∷ 0 ∷ []

-- where a hardware version leads with the image of format 2
abbrev pub leads_in_range : (hardware : ℕ) → Option Stage
leads_in_range hardware = ledger (uplink_step (first_server ranged alone) 1 203 (versions 0 hardware) 0).server 1

pub record AnswerSteps : Type 0 where
  pub hardware : leads alone (At Version) 203 (versions 0 1) ≡ Some (At Fragments)
  pub to_group : leads grouped (At Version) 203 (versions 0 1) ≡ Some (At Group)
  pub other_hardware : leads alone (At Version) 203 (versions 0 2) ≡ Some (Refused Version 1)
  pub other_hardware_grouped : leads grouped (At Version) 203 (versions 0 2) ≡ Some (Refused Version 1)
  pub same_firmware : leads alone (At Version) 203 (versions 2 1) ≡ Some (At Fragments)
  pub lowest : leads_in_range 1 ≡ Some (At Fragments)
  pub highest : leads_in_range 3 ≡ Some (At Fragments)
  pub below : leads_in_range 0 ≡ Some (Refused Version 1)
  pub above : leads_in_range 4 ≡ Some (Refused Version 1)
  pub group : leads grouped (At Group) 200 (0x02 ∷ 0x00 ∷ []) ≡ Some (At Fragments)
  pub group_error : leads grouped (At Group) 200 (0x02 ∷ 0x04 ∷ []) ≡ Some (Refused Group 4)
  pub other_id : leads grouped (At Group) 200 (0x02 ∷ 0x05 ∷ []) ≡ Some (At Group)
  pub set_up : leads alone (At Fragments) 201 (0x02 ∷ 0x00 ∷ []) ≡ Some (At Status)
  pub to_window : leads grouped (At Fragments) 201 (0x02 ∷ 0x00 ∷ []) ≡ Some (At Window)
  pub setup_bits : leads alone (At Fragments) 201 (0x02 ∷ 0x0a ∷ []) ≡ Some (Refused Fragments 10)
  -- each bit by itself: encoding, memory, index, descriptor
  pub encoding : leads alone (At Fragments) 201 (0x02 ∷ 0x01 ∷ []) ≡ Some (Refused Fragments 1)
  pub memory : leads alone (At Fragments) 201 (0x02 ∷ 0x02 ∷ []) ≡ Some (Refused Fragments 2)
  pub index : leads alone (At Fragments) 201 (0x02 ∷ 0x04 ∷ []) ≡ Some (Refused Fragments 4)
  pub descriptor : leads alone (At Fragments) 201 (0x02 ∷ 0x08 ∷ []) ≡ Some (Refused Fragments 8)
  pub other_index : leads alone (At Fragments) 201 (0x02 ∷ 0x42 ∷ []) ≡ Some (At Fragments)
  pub window : leads grouped (At Window) 200 (0x04 ∷ 0x00 ∷ 0x0a ∷ 0x00 ∷ 0x00 ∷ []) ≡ Some (At Status)
  pub window_bits : leads grouped (At Window) 200 (0x04 ∷ 0x1c ∷ []) ≡ Some (Refused Window 28)
  pub data_rate : leads grouped (At Window) 200 (0x04 ∷ 0x04 ∷ []) ≡ Some (Refused Window 4)
  pub frequency : leads grouped (At Window) 200 (0x04 ∷ 0x08 ∷ []) ≡ Some (Refused Window 8)
  pub undefined : leads grouped (At Window) 200 (0x04 ∷ 0x10 ∷ []) ≡ Some (Refused Window 16)
  pub window_b : leads of_class_b (At Window) 200 (0x05 ∷ 0x00 ∷ 0x0a ∷ 0x00 ∷ 0x00 ∷ []) ≡ Some (At Status)
  pub window_b_bits : leads of_class_b (At Window) 200 (0x05 ∷ 0x14 ∷ []) ≡ Some (Refused Window 20)
  pub frequency_b : leads of_class_b (At Window) 200 (0x05 ∷ 0x08 ∷ []) ≡ Some (Refused Window 8)
  pub other_group : leads grouped (At Window) 200 (0x04 ∷ 0x01 ∷ 0x0a ∷ 0x00 ∷ 0x00 ∷ []) ≡ Some (At Window)
  pub other_group_b : leads of_class_b (At Window) 200 (0x05 ∷ 0x1d ∷ []) ≡ Some (At Window)
  pub other_class_b : leads of_class_b (At Window) 200 (0x04 ∷ 0x1c ∷ []) ≡ Some (At Window)
  pub other_class : leads grouped (At Window) 200 (0x05 ∷ 0x00 ∷ 0x0a ∷ 0x00 ∷ 0x00 ∷ []) ≡ Some (At Window)
  pub whole : leads alone (At Status) 201 (0x01 ∷ 0x04 ∷ 0x00 ∷ 0x00 ∷ 0x00 ∷ []) ≡ Some (At Image)
  pub missing : leads alone (At Status) 201 (0x01 ∷ 0x04 ∷ 0x00 ∷ 0x01 ∷ 0x00 ∷ []) ≡ Some (At Status)
  pub other_session : leads alone (At Status) 201 (0x01 ∷ 0x04 ∷ 0x40 ∷ 0x00 ∷ 0x00 ∷ []) ≡ Some (At Status)
  pub no_rows : leads alone (At Status) 201 (0x01 ∷ 0x04 ∷ 0x00 ∷ 0x01 ∷ 0x01 ∷ []) ≡ Some (Refused Status 1)
  -- a refusal is tried before what moves on, and both only for the session that was asked of
  pub whole_without_rows : leads alone (At Status) 201 (0x01 ∷ 0x04 ∷ 0x00 ∷ 0x00 ∷ 0x01 ∷ []) ≡ Some (Refused Status 1)
  pub others_rows : leads alone (At Status) 201 (0x01 ∷ 0x04 ∷ 0x40 ∷ 0x01 ∷ 0x01 ∷ []) ≡ Some (At Status)
  pub valid : leads alone (At Image) 203 (0x04 ∷ 0x03 ∷ 0x02 ∷ 0x00 ∷ 0x00 ∷ 0x00 ∷ []) ≡ Some (At Reboot)
  pub other_version : leads alone (At Image) 203 (0x04 ∷ 0x03 ∷ 0x03 ∷ 0x00 ∷ 0x00 ∷ 0x00 ∷ []) ≡ Some (Refused Image 3)
  pub corrupt : leads alone (At Image) 203 (0x04 ∷ 0x01 ∷ []) ≡ Some (Refused Image 1)
  pub incompatible : leads alone (At Image) 203 (0x04 ∷ 0x02 ∷ []) ≡ Some (Refused Image 2)
  pub none : leads alone (At Image) 203 (0x04 ∷ 0x00 ∷ []) ≡ Some (At Image)
  pub reboot : leads alone (At Reboot) 203 (0x03 ∷ 0x07 ∷ 0x00 ∷ 0x00 ∷ []) ≡ Some (At Check)
  pub updated : leads alone (At Check) 203 (versions 2 1) ≡ Some Updated
  pub old_firmware : leads alone (At Check) 203 (versions 0 1) ≡ Some (At Check)
  pub updated_elsewhere : leads alone (At Check) 203 (versions 2 9) ≡ Some Updated
  -- answers for another index, or another group, move nothing
  pub own_index : leads elsewhere (At Fragments) 201 (0x02 ∷ 0x80 ∷ []) ≡ Some (At Window)
  pub index_0 : leads elsewhere (At Fragments) 201 (0x02 ∷ 0x00 ∷ []) ≡ Some (At Fragments)
  pub own_id : leads elsewhere (At Group) 200 (0x02 ∷ 0x03 ∷ []) ≡ Some (At Fragments)
  pub id_0 : leads elsewhere (At Group) 200 (0x02 ∷ 0x00 ∷ []) ≡ Some (At Group)
  pub id_error : leads elsewhere (At Group) 200 (0x02 ∷ 0x07 ∷ []) ≡ Some (Refused Group 4)
  pub id_0_error : leads elsewhere (At Group) 200 (0x02 ∷ 0x04 ∷ []) ≡ Some (At Group)
  pub index_error : leads elsewhere (At Fragments) 201 (0x02 ∷ 0x82 ∷ []) ≡ Some (Refused Fragments 2)
  pub window_elsewhere : leads elsewhere (At Window) 200 (0x04 ∷ 0x03 ∷ 0x0a ∷ 0x00 ∷ 0x00 ∷ []) ≡ Some (At Status)
  pub window_of_0 : leads elsewhere (At Window) 200 (0x04 ∷ 0x00 ∷ 0x0a ∷ 0x00 ∷ 0x00 ∷ []) ≡ Some (At Window)
  pub status_elsewhere : leads elsewhere (At Status) 201 (0x01 ∷ 0x04 ∷ 0x80 ∷ 0x00 ∷ 0x00 ∷ []) ≡ Some (At Image)
  pub status_of_0 : leads elsewhere (At Status) 201 (0x01 ∷ 0x04 ∷ 0x00 ∷ 0x00 ∷ 0x00 ∷ []) ≡ Some (At Status)
  -- an answer moves only its own stage, and a device that was refused or is updated stays so
  pub early_setup : leads alone (At Version) 201 (0x02 ∷ 0x01 ∷ []) ≡ Some (At Version)
  pub early_status : leads alone (At Fragments) 201 (0x01 ∷ 0x04 ∷ 0x00 ∷ 0x00 ∷ 0x01 ∷ []) ≡ Some (At Fragments)
  pub early_image : leads alone (At Status) 203 (0x04 ∷ 0x01 ∷ []) ≡ Some (At Status)
  pub early_reboot : leads alone (At Image) 203 (0x03 ∷ 0x00 ∷ 0x00 ∷ 0x00 ∷ []) ≡ Some (At Image)
  pub stays_refused : leads alone (Refused Version 1) 203 (versions 0 1) ≡ Some (Refused Version 1)
  pub stays_updated : leads alone Updated 203 (versions 0 1) ≡ Some Updated
  -- a repeated answer moves nothing, several in one uplink act in order, and a refused payload changes nothing
  pub repeated : leads alone (At Fragments) 203 (versions 0 1) ≡ Some (At Fragments)
  pub in_order : leads alone (At Reboot) 203 (0x03 ∷ 0x00 ∷ 0x00 ∷ 0x00 ∷ versions 2 1) ≡ Some Updated
  pub cut : uplink_step (at_stage alone (At Reboot)) 1 203 (0x03 ∷ 0x00 ∷ 0x00 ∷ 0x00 ∷ 0x01 ∷ 0x02 ∷ []) 0
      ≡ record { server = at_stage alone (At Reboot); answer = Err (record { at = 6; why = why.Short }) }
  -- a device moves its own stage
  pub second : (uplink_step (first_server image two_devices) 2 203 (versions 0 1) 0).server.stages ≡ At Version ∷ At Fragments ∷ []
  pub third : (uplink_step (first_server image two_devices) 3 203 (versions 0 1) 0).server.stages ≡ At Version ∷ At Version ∷ []

-- ---- the time: a device 5 s ahead is answered, and one that is right only where it asks for it

abbrev pub answers : (t : ℕ) → List ℕ → Result (Option Downlink) Refusal
answers t payload = answer_of (uplink_step (at_stage alone (At Version)) 1 202 payload t).answer

pub record TimeSteps : Type 0 where
  pub ahead : answers 10000 (0x01 ∷ 0x0f ∷ 0x00 ∷ 0x00 ∷ 0x00 ∷ 0x10 ∷ []) ≡ Ok (by_unicast 202 (0x01 ∷ 0xfb ∷ 0xff ∷ 0xff ∷ 0xff ∷ 0x00 ∷ []))
  pub right : answers 10000 (0x01 ∷ 0x0a ∷ 0x00 ∷ 0x00 ∷ 0x00 ∷ 0x03 ∷ []) ≡ Ok None
  pub required : answers 10999 (0x01 ∷ 0x0a ∷ 0x00 ∷ 0x00 ∷ 0x00 ∷ 0x13 ∷ []) ≡ Ok (by_unicast 202 (0x01 ∷ 0x00 ∷ 0x00 ∷ 0x00 ∷ 0x00 ∷ 0x03 ∷ []))
  -- of several requests the first that needs an answer has it
  pub first : answers 10000 (0x01 ∷ 0x0a ∷ 0x00 ∷ 0x00 ∷ 0x00 ∷ 0x03 ∷ 0x01 ∷ 0x09 ∷ 0x00 ∷ 0x00 ∷ 0x00 ∷ 0x04 ∷ 0x01 ∷ 0x08 ∷ 0x00 ∷ 0x00 ∷ 0x00 ∷ 0x05 ∷ [])
      ≡ Ok (by_unicast 202 (0x01 ∷ 0x01 ∷ 0x00 ∷ 0x00 ∷ 0x00 ∷ 0x04 ∷ []))

-- ---- what goes to all

-- a payload of a byte to a group, with the count 258
abbrev pub to_group : (addr port : ℕ) → Downlink
to_group addr port = record { to = to.Group addr 258; port = port; payload = 7 ∷ [] }

pub record SendSteps : Type 0 where
  -- the first fragment is the first 13 bytes of the image
  pub first : result_of (next_fragment (first_server image alone)) ≡ Ok (record {
    to = to.Unicast;
    port = 201;
    payload = 0x08 ∷ 0x01 ∷ 0x00 ∷ 0x46 ∷ 0x55 ∷ 0x49 ∷ 0x4d ∷ 0x01 ∷ 0x01 ∷ 0 ∷ 0 ∷ 0 ∷ 0x02 ∷ 0 ∷ 0 ∷ 0 ∷ [];
  })
  -- 4 fragments, and 4 that are coded
  pub eighth : is_ok (next_fragment (record (first_server image alone) { next = 8 })) ≡ true
  pub coded : next_fragment (record (first_server image alone) { next = 8 })
      ≡ Ok (record { to = to.Unicast; command = Cast (DataFragment 0 8 (data_of image 13 8)) })
  pub indexed : next_fragment (record (first_server image elsewhere) { next = 8 })
      ≡ Ok (record { to = to.Group 0x11223344 5; command = Cast (DataFragment 2 8 (data_of image 13 8)) })
  pub spent : next_fragment (record (first_server image alone) { next = 9 }) ≡ Err AllSent
  -- to the group with its next count, which ends before its MAX
  pub moves : after_fragment (first_server image grouped) ≡ record (first_server image grouped) { next = 2; count = 6 }
  pub last_count : is_ok (next_fragment (record (first_server image grouped) { count = 6 })) ≡ true
  pub counts : next_fragment (record (first_server image grouped) { count = 7 }) ≡ Err Counts
  pub spent_first : next_fragment (record (first_server image grouped) { next = 9; count = 7 }) ≡ Err AllSent
  pub stays : after_fragment (record (first_server image grouped) { count = 7 }) ≡ record (first_server image grouped) { count = 7 }
  pub status : down_of (status_to_all (first_server image grouped))
      ≡ Some (record { to = to.Group 0x11223344 5; port = 201; payload = 0x01 ∷ 0x00 ∷ [] })
  -- without a group by unicast
  pub to_any : down_of (status_to_all (first_server image alone)) ≡ by_unicast 201 (0x01 ∷ 0x00 ∷ [])
  pub uncounted : after_status_to_all (first_server image alone) ≡ first_server image alone
  pub counted : after_status_to_all (first_server image grouped) ≡ record (first_server image grouped) { count = 6 }
  pub no_status : status_to_all (record (first_server image grouped) { count = 7 }) ≡ None
  pub status_indexed : down_of (status_to_all (first_server image elsewhere))
      ≡ Some (record { to = to.Group 0x11223344 5; port = 201; payload = 0x01 ∷ 0x04 ∷ [] })
  -- what has a frame: a payload to the plan's group, on a port that is not 0
  pub framed : has_frame (Some worked_group) (to_group 0x11223344 1) ≡ true
  pub other_group : has_frame (Some worked_group) (to_group 0x11223345 201) ≡ false
  pub of_no_port : has_frame (Some worked_group) (to_group 0x11223344 0) ≡ false
  pub of_no_group : has_frame None (to_group 0x11223344 201) ≡ false
  pub to_one : has_frame (Some worked_group) (record { to = to.Unicast; port = 201; payload = [] }) ≡ false
  -- its head: MHDR, the address, FCtrl 00, the low bytes of the count, and the port
  pub headed : take 9 (frame_for (Some worked_group) (to_group 0x11223344 201))
      ≡ 0x60 ∷ 0x44 ∷ 0x33 ∷ 0x22 ∷ 0x11 ∷ 0x00 ∷ 0x02 ∷ 0x01 ∷ 0xc9 ∷ []
  pub unframed : frame_for (Some worked_group) (record { to = to.Unicast; port = 201; payload = 7 ∷ [] }) ≡ []
  -- frames to the group are encrypted under McAppSKey, and signed under McNetSKey
  pub keyed : session_keys (record worked_group { key = worked_key }) ≡ record {
    app_s = 0x10 ∷ 0x76 ∷ 0xbb ∷ 0xc2 ∷ 0xea ∷ 0x64 ∷ 0xf6 ∷ 0xe7 ∷ 0x58 ∷ 0x05 ∷ 0x68 ∷ 0x87 ∷ 0x98 ∷ 0x92 ∷ 0x8a ∷ 0xba ∷ [];
    net_s = 0x9f ∷ 0x04 ∷ 0x20 ∷ 0xfe ∷ 0xdd ∷ 0xea ∷ 0x37 ∷ 0xd9 ∷ 0xf0 ∷ 0x57 ∷ 0xe1 ∷ 0xa2 ∷ 0x1f ∷ 0x2c ∷ 0xd4 ∷ 0xca ∷ [];
  }

-- ---- which field of a plan is wrong, for a file of so many bytes: the first

pub record PlanSteps : Type 0 where
  pub fine : bad_field 52 grouped ≡ None
  pub frag_size : bad_field 52 (record alone { frag_size = 0 }) ≡ Some field.FragSize
  pub widest : bad_field 52 (record grouped {
    window = Some (record {
      kind = kind.B 7;
      start = 2 ^ 32 - 1;
      timeout = 15;
      freq = 2 ^ 24 - 1;
      dr = 255;
    });
  }) ≡ None
  pub one_count : bad_field 52 (record grouped { group = Some (record worked_group { min = 6 }) }) ≡ None
  -- the group before its window, and the window before the devices
  pub group_first : bad_field 52 (record grouped { group = Some (record worked_group { min = 7 }); window = None })
      ≡ Some field.Group
  pub window_first : bad_field 52 (record grouped { window = None; devices = [] }) ≡ Some field.Window
  pub parity_first : bad_field 52 (record alone { parity = 513; window = Some worked_window }) ≡ Some field.Parity
  pub large : bad_field 52 (record alone { frag_size = 240; parity = 513 }) ≡ Some field.FragSize
  pub largest : bad_field 52 (record alone { frag_size = 239 }) ≡ None
  pub pieces : bad_field 4096 (record alone { frag_size = 1 }) ≡ None
  pub more_pieces : bad_field 4097 (record alone { frag_size = 1 }) ≡ Some field.FragSize
  pub most : bad_field 52 (record alone { parity = 512 }) ≡ None
  pub parity : bad_field 52 (record alone { parity = 513 }) ≡ Some field.Parity
  pub last_index : bad_field 52 (record alone { index = 3 }) ≡ None
  pub index : bad_field 52 (record alone { index = 4 }) ≡ Some field.Index
  -- after the parity, and before the group
  pub index_second : bad_field 52 (record alone { parity = 513; index = 4 }) ≡ Some field.Parity
  pub index_first : bad_field 52 (record grouped { index = 4; group = Some (record worked_group { min = 7 }) }) ≡ Some field.Index
  pub last_id : bad_field 52 (record grouped { group = Some (record worked_group { id = 3 }) }) ≡ None
  pub id : bad_field 52 (record grouped { group = Some (record worked_group { id = 4 }) }) ≡ Some field.Group
  pub group : bad_field 52 (record grouped { group = Some (record worked_group { min = 7 }) }) ≡ Some field.Group
  pub no_window : bad_field 52 (record grouped { window = None }) ≡ Some field.Window
  pub no_group : bad_field 52 (record grouped { group = None }) ≡ Some field.Window
  pub start : bad_field 52 (record grouped { window = Some (record worked_window { start = 2 ^ 32 }) }) ≡ Some field.Window
  pub freq : bad_field 52 (record grouped { window = Some (record worked_window { freq = 2 ^ 24 }) }) ≡ Some field.Window
  pub data_rate : bad_field 52 (record grouped { window = Some (record worked_window { dr = 256 }) }) ≡ Some field.Window
  pub timeout : bad_field 52 (record grouped { window = Some (record worked_window { timeout = 16 }) }) ≡ Some field.Window
  pub periodicity : bad_field 52 (record grouped { window = Some (record worked_window { kind = kind.B 8 }) }) ≡ Some field.Window
  pub no_devices : bad_field 52 (record alone { devices = [] }) ≡ Some field.Devices
  pub devices : bad_field 52 (record alone { devices = replicate 64 (record { key = replicate 16 0; root = V10 }) }) ≡ None
  pub more_devices : bad_field 52 (record alone { devices = replicate 65 (record { key = replicate 16 0; root = V10 }) }) ≡ Some field.Devices
