-- Steps of a device, worked out: what comes to it, in bytes, and what it then sends and holds.
use Rattle.std.specs.Prelude.{◌≡◌, ℕ, ◌-◌, ◌^◌, true, false, List, [], ◌∷◌, ◌++◌, length, map, drop, Option, Some, None, Ok, Err, replicate}
use Rattle.wire_base.specs.declared.refusal.Why.TheVariants as why
use Rattle.package_grammar.specs.declared.downlink.To.TheVariants.{Unicast, Group}
use Rattle.mc_keys.specs.declared.root_kind.RootKind.TheVariants.{V11}
use Rattle.mc_keys.specs.WorkedKeys.{worked_gen_app_key, worked_wrapped, worked_key}
use Rattle.frag_session.specs.declared.answers.Via.TheVariants as via
use Rattle.frag_session.specs.declared.answers.StatusAns.{StatusAns}
use Rattle.frag_session.specs.Session.{Session}
use Rattle.session_store.specs.declared.state.CompleteFlags.{CompleteFlags}
use Rattle.session_store.specs.CompleteFlags.{none_complete}
use Rattle.device_core.specs.SessionTable.{SessionTable, no_sessions}
use Rattle.image_slots.specs.declared.view.ImageState.{ImageState}
use Rattle.image_slots.specs.declared.view.ImageState.TheVariants as image
use Rattle.mc_frames.specs.declared.fault.FrameFault.TheVariants.{Short, Long, Header, Address}
use Rattle.device_core.specs.Radio.{session_keys, heard_group, payload_to, brought_to, radio}
use Rattle.device_core.specs.Power.{after_power}
use Rattle.device_core.specs.declared.arrival.Arrival.{Arrival}
use Rattle.device_core.specs.declared.class_session.ClassSession.{ClassSession}
use Rattle.device_core.specs.declared.class_session.Kind.TheVariants.{ClassC, ClassB}
use Rattle.device_core.specs.declared.config.Class.TheVariants.{A, C}
use Rattle.device_core.specs.declared.uplink.Uplink.{Uplink}
use Rattle.device_core.specs.declared.delivered.Delivered.{Delivered}
use Rattle.device_core.specs.declared.delivered.Delivered.TheVariants.{Deaf, Refused, OutboxFull, Done}
use Rattle.device_core.specs.declared.delivered.Aired.{Aired}
use Rattle.device_core.specs.declared.delivered.Aired.TheVariants.{Foreign}
use Rattle.device_core.specs.Device.{DeviceState, first_device, max_moment, is_config, counter_after, after_deaf, with_counts}
use Rattle.device_core.specs.HeldDevice.{can_reserve}
use Rattle.device_core.specs.declared.uplink.Answer.{Answer}
use Rattle.sync_wire.specs.declared.cmd.Cmd.TheVariants.{PackageVersionAns}
use Rattle.package_grammar.specs.declared.command.Command.TheVariants.{Sync}
use Rattle.device_core.specs.WorkedConfig.{worked_config}
use Rattle.device_core.specs.Answers.{uplink_of, after_answers}
use Rattle.device_core.specs.Fragments.{setup_of, answer_delay, status_answers}
use Rattle.class_windows.specs.Open.{is_open_b}
use Rattle.device_core.specs.ClassSessions.{is_open}
use Rattle.device_core.specs.Firmware.{is_reached, after_migration}
use Rattle.device_core.specs.Deliver.{Outcome, delivery, waking, taking}

-- ---- a device, and what comes to it

-- one of class C, whose clock is right
abbrev pub fresh : DeviceState
fresh = first_device (worked_config C 0)

-- after a payload by unicast at t ms, with the random word 0, at line 1
abbrev pub received : (t port : ℕ) → List ℕ → DeviceState → Outcome Delivered
received t port payload device = delivery t 0 1 (record { to = Unicast; port = port; payload = payload }) device

abbrev pub after : (t port : ℕ) → List ℕ → DeviceState → DeviceState
after t port payload device = (received t port payload device).device

abbrev pub answer : (t port : ℕ) → List ℕ → DeviceState → Delivered
answer t port payload device = (received t port payload device).answer

abbrev pub payload_of : Uplink → List ℕ
payload_of uplink = uplink.payload

-- what its outbox holds, in bytes
abbrev pub payloads : DeviceState → List (List ℕ)
payloads device = map payload_of device.outbox

abbrev pub taken : DeviceState → DeviceState
taken device = record device { outbox = [] }

-- what a device with an empty outbox sends where a payload comes
abbrev pub sends : (t port : ℕ) → List ℕ → DeviceState → List (List ℕ)
sends t port payload device = payloads (after t port payload (taken device))

-- ---- uplinks

-- a device that holds eight uplinks, the first an answer on the port of clock synchronization
abbrev pub eight_held : DeviceState
eight_held = after 0 202 (0x00 ∷ 0x03 ∷ 0x07 ∷ []) fresh

-- an answer that is due at a moment
abbrev pub version_due : (due : ℕ) → Answer
version_due due = record { due = due; port = 202; command = Sync (PackageVersionAns 1 1) }

pub record UplinkSteps : Type 0 where
  -- each package names itself, with version 1
  pub groups : sends 0 200 (0x00 ∷ []) fresh ≡ (0x00 ∷ 0x02 ∷ 0x01 ∷ []) ∷ []
  pub fragments : sends 0 201 (0x00 ∷ []) fresh ≡ (0x00 ∷ 0x03 ∷ 0x01 ∷ []) ∷ []
  pub clock : sends 0 202 (0x00 ∷ []) fresh ≡ (0x00 ∷ 0x01 ∷ 0x01 ∷ []) ∷ []
  pub firmware : sends 0 203 (0x00 ∷ []) fresh ≡ (0x00 ∷ 0x04 ∷ 0x01 ∷ []) ∷ []
  -- an answer is due at once, on the port of the request
  pub at_once : (after 7 203 (0x00 ∷ []) fresh).outbox ≡ record { due = 7; port = 203; payload = 0x00 ∷ 0x04 ∷ 0x01 ∷ [] } ∷ []
  pub last_due : (after 7 202 (0x00 ∷ []) fresh).last_due ≡ Some 7
  -- of several the moment of the one that was made last counts, even where another is due later
  pub made_last : (after_answers (record { device = fresh; answers = version_due 9 ∷ version_due 5 ∷ [] })).last_due
      ≡ Some 5
  -- eight uplinks are held, oldest first; a ninth refuses its whole payload
  pub eight : answer 0 202 (0x03 ∷ 0x07 ∷ 0x00 ∷ []) fresh ≡ Done
  pub oldest : (taking eight_held).answer ≡ Some (record { due = 0; port = 202; payload = 0x00 ∷ 0x01 ∷ 0x01 ∷ [] })
  pub seven_left : length (taking eight_held).device.outbox ≡ 7
  -- taking one changes nothing else
  pub taken_alone : (taking eight_held).device
      ≡ record eight_held { outbox = (taking eight_held).device.outbox }
  pub nine : answer 0 202 (0x03 ∷ 0x07 ∷ 0x00 ∷ 0x00 ∷ []) fresh ≡ OutboxFull 9
  pub nothing_acted : payloads (after 0 202 (0x03 ∷ 0x07 ∷ 0x00 ∷ 0x00 ∷ []) fresh) ≡ []
  -- those that are held count, and a command that makes no answer still acts
  pub held : answer 0 202 (0x00 ∷ []) eight_held ≡ OutboxFull 9
  -- a device that wakes asks for the time where there is room
  pub no_room_to_wake : (waking 7 eight_held).device ≡ eight_held
  pub room_to_wake : length (waking 7 (taking eight_held).device).device.outbox ≡ 8
  pub time_answer : answer 0 202 (0x01 ∷ 0x00 ∷ 0x00 ∷ 0x00 ∷ 0x00 ∷ 0x00 ∷ []) eight_held ≡ Done
  pub fragment : answer 0 201 (0x08 ∷ 0x01 ∷ 0x00 ∷ 0x07 ∷ []) eight_held ≡ Done
  -- what is read before the first command that is unknown does not act
  pub unknown : answer 0 202 (0x00 ∷ 0x7f ∷ []) fresh ≡ Refused (record { at = 1; why = why.UnknownCommand })
  pub unread : payloads (after 0 202 (0x00 ∷ 0x7f ∷ []) fresh) ≡ []
  -- each is counted, to the end of its counter
  pub full : (after 0 202 (0x03 ∷ 0x07 ∷ 0x00 ∷ 0x00 ∷ []) fresh).counts ≡ record { deaf = 0; refused = 0; full = 1; dropped = 0 }
  pub refused : (after 0 202 (0x7f ∷ []) fresh).counts ≡ record { deaf = 0; refused = 1; full = 0; dropped = 0 }
  pub deaf : (after 0 202 [] (first_device (worked_config A 0))).counts ≡ record { deaf = 1; refused = 0; full = 0; dropped = 0 }
  pub dropped : (after 0 201 (0x08 ∷ 0x01 ∷ 0x00 ∷ 0x07 ∷ []) fresh).counts ≡ record { deaf = 0; refused = 0; full = 0; dropped = 1 }
  pub end : counter_after (2 ^ 64 - 1) ≡ 2 ^ 64 - 1

-- ---- the clock: 5 s ahead, and corrected once

abbrev pub ahead : DeviceState
ahead = first_device (worked_config C 5)

abbrev pub mended : DeviceState
mended = after 10000 202 (0x01 ∷ 0xfb ∷ 0xff ∷ 0xff ∷ 0xff ∷ 0x00 ∷ []) ahead

pub record ClockSteps : Type 0 where
  -- it asks for the time on waking, with AnsRequired, and by ForceDeviceResyncReq without
  pub wakes : (waking 10000 ahead).device.outbox
      ≡ record { due = 10000; port = 202; payload = 0x01 ∷ 0x0f ∷ 0x00 ∷ 0x00 ∷ 0x00 ∷ 0x10 ∷ [] } ∷ []
  -- that request is the uplink that it made last
  pub woken : (waking 7 fresh).device.last_due ≡ Some 7
  pub resyncs : sends 10000 202 (0x03 ∷ 0x02 ∷ []) ahead
      ≡ (0x01 ∷ 0x0f ∷ 0x00 ∷ 0x00 ∷ 0x00 ∷ 0x00 ∷ []) ∷ (0x01 ∷ 0x0f ∷ 0x00 ∷ 0x00 ∷ 0x00 ∷ 0x00 ∷ []) ∷ []
  pub none : after 0 202 (0x03 ∷ 0x00 ∷ []) fresh ≡ fresh
  pub mends : mended.clock ≡ record { offset = 0; token = 1 }
  pub other_token : after 10000 202 (0x01 ∷ 0xfb ∷ 0xff ∷ 0xff ∷ 0xff ∷ 0x00 ∷ []) mended ≡ mended
  -- the next request has the next token
  pub next_token : sends 10000 202 (0x03 ∷ 0x01 ∷ []) mended
      ≡ (0x01 ∷ 0x0a ∷ 0x00 ∷ 0x00 ∷ 0x00 ∷ 0x01 ∷ []) ∷ []
  -- a period is not supported
  pub periodicity : sends 10000 202 (0x02 ∷ 0x05 ∷ []) ahead ≡ (0x02 ∷ 0x01 ∷ 0x0f ∷ 0x00 ∷ 0x00 ∷ 0x00 ∷ []) ∷ []

-- ---- sessions of fragments

-- a setup of index 1 for group 0: 4 fragments of 13 bytes, and BlockAckDelay 2
abbrev pub setup_request : List ℕ
setup_request = 0x02 ∷ 0x11 ∷ 0x04 ∷ 0x00 ∷ 0x0d ∷ 0x02 ∷ 0x00 ∷ 0x05 ∷ 0x00 ∷ 0x00 ∷ 0x00 ∷ []

abbrev pub set_up : DeviceState
set_up = taken (after 0 201 setup_request fresh)

-- a payload comes by unicast on the port of fragments, at once
abbrev pub here_201 : Arrival
here_201 = record { moment = record { t = 0; word = 0; mark = 1 }; via = via.Unicast; port = 201 }

-- how a device answers the status of the session of index 1, as bytes, where it does
abbrev pub told_status : Option StatusAns → List (List ℕ)
told_status status =
    map payload_of (map uplink_of (status_answers here_201 1 status))

-- a session of index 1 without a group, for one fragment of one byte
abbrev pub small : DeviceState
small =
    taken (after 0 201 (0x02 ∷ 0x10 ∷ 0x01 ∷ 0x00 ∷ 0x01 ∷ 0x00 ∷ 0x00 ∷ 0x00 ∷ 0x00 ∷ 0x00 ∷ 0x00 ∷ []) fresh)

-- that fragment
abbrev pub hears_small : DeviceState → DeviceState
hears_small device = after 0 201 (0x08 ∷ 0x01 ∷ 0x40 ∷ 0x07 ∷ []) device

-- a device with only a session of index 2
abbrev pub at_2 : DeviceState
at_2 = after 0 201 (0x02 ∷ 0x20 ∷ 0x01 ∷ 0x00 ∷ 0x01 ∷ 0x00 ∷ 0x00 ∷ 0x00 ∷ 0x00 ∷ 0x00 ∷ 0x00 ∷ []) fresh

-- what a session that heard fragments answers: here the one that there is, three times
pub record StatusSteps : Type 0 where
  pub three : sends 0 201 (0x01 ∷ 0x03 ∷ []) (hears_small (hears_small (hears_small small)))
      ≡ (0x01 ∷ 0x03 ∷ 0x40 ∷ 0x00 ∷ 0x00 ∷ []) ∷ []
  -- where nothing is missing only a request of all is answered
  pub nothing_missing : sends 0 201 (0x01 ∷ 0x02 ∷ []) (hears_small small) ≡ []

pub record SessionSteps : Type 0 where
  pub setup : sends 0 201 setup_request fresh ≡ (0x02 ∷ 0x40 ∷ []) ∷ []
  -- it is asked for its state: all, or where a fragment is missing; at another index there is no answer
  pub status : sends 0 201 (0x01 ∷ 0x03 ∷ []) set_up ≡ (0x01 ∷ 0x00 ∷ 0x40 ∷ 0x04 ∷ 0x00 ∷ []) ∷ []
  pub missing : sends 0 201 (0x01 ∷ 0x02 ∷ []) set_up ≡ (0x01 ∷ 0x00 ∷ 0x40 ∷ 0x04 ∷ 0x00 ∷ []) ∷ []
  pub other_index : sends 0 201 (0x01 ∷ 0x01 ∷ []) set_up ≡ []
  -- it answers how many fragments it received and how many are missing, and whether its rows sufficed
  pub many : told_status (Some (record { received = 259; missing = 7; norows = true; delay = 2 }))
      ≡ (0x01 ∷ 0x03 ∷ 0x41 ∷ 0x07 ∷ 0x01 ∷ []) ∷ []
  -- sessions of different indices are different
  pub at_3 : sends 0 201 (0x03 ∷ 0x03 ∷ 0x03 ∷ 0x02 ∷ []) at_2 ≡ (0x03 ∷ 0x07 ∷ []) ∷ (0x03 ∷ 0x02 ∷ []) ∷ []
  -- by unicast the answer is due at once
  pub undelayed : answer_delay via.Unicast 109 2 ≡ 0
  -- by a group it waits so many seconds of the random word as BlockAckDelay says, from 16 to 2,048
  pub least_delay : answer_delay (via.Group 0) 2157 0 ≡ 13000
  pub most_delay : answer_delay (via.Group 0) 2157 7 ≡ 109000
  -- it is deleted once
  pub deleted : sends 0 201 (0x03 ∷ 0x01 ∷ 0x03 ∷ 0x01 ∷ []) set_up ≡ (0x03 ∷ 0x01 ∷ []) ∷ (0x03 ∷ 0x05 ∷ []) ∷ []
  -- setups that are refused: no fragments, all padding, too many, another coding, an index or a descriptor that is not accepted
  pub no_fragments : sends 0 201 (0x02 ∷ 0x00 ∷ 0x00 ∷ 0x00 ∷ 0x01 ∷ 0x00 ∷ 0x00 ∷ 0x00 ∷ 0x00 ∷ 0x00 ∷ 0x00 ∷ []) fresh ≡ (0x02 ∷ 0x01 ∷ []) ∷ []
  pub all_padding : sends 0 201 (0x02 ∷ 0x00 ∷ 0x04 ∷ 0x00 ∷ 0x01 ∷ 0x00 ∷ 0x01 ∷ 0x00 ∷ 0x00 ∷ 0x00 ∷ 0x00 ∷ []) fresh ≡ (0x02 ∷ 0x01 ∷ []) ∷ []
  pub over_area : sends 0 201 (0x02 ∷ 0x00 ∷ 0x01 ∷ 0x04 ∷ 0x01 ∷ 0x00 ∷ 0x00 ∷ 0x00 ∷ 0x00 ∷ 0x00 ∷ 0x00 ∷ []) fresh ≡ (0x02 ∷ 0x00 ∷ []) ∷ []
  pub too_many : sends 0 201 (0x02 ∷ 0x00 ∷ 0x01 ∷ 0x10 ∷ 0x01 ∷ 0x00 ∷ 0x00 ∷ 0x00 ∷ 0x00 ∷ 0x00 ∷ 0x00 ∷ []) fresh ≡ (0x02 ∷ 0x02 ∷ []) ∷ []
  pub largest : sends 0 201 (0x02 ∷ 0x00 ∷ 0x00 ∷ 0x10 ∷ 0x40 ∷ 0x00 ∷ 0x00 ∷ 0x00 ∷ 0x00 ∷ 0x00 ∷ 0x00 ∷ []) fresh ≡ (0x02 ∷ 0x00 ∷ []) ∷ []
  pub too_large : sends 0 201 (0x02 ∷ 0x00 ∷ 0x01 ∷ 0x10 ∷ 0x40 ∷ 0x00 ∷ 0x00 ∷ 0x00 ∷ 0x00 ∷ 0x00 ∷ 0x00 ∷ []) fresh ≡ (0x02 ∷ 0x02 ∷ []) ∷ []
  pub coding : sends 0 201 (0x02 ∷ 0x30 ∷ 0x04 ∷ 0x00 ∷ 0x01 ∷ 0x08 ∷ 0x00 ∷ 0x00 ∷ 0x00 ∷ 0x00 ∷ 0x00 ∷ []) fresh ≡ (0x02 ∷ 0xc1 ∷ []) ∷ []
  pub index : sends 0 201 setup_request (first_device (record (worked_config C 0) { sessions = 1 })) ≡ (0x02 ∷ 0x44 ∷ []) ∷ []
  pub descriptor : sends 0 201 setup_request (first_device (record (worked_config C 0) { descriptor = Some 6 })) ≡ (0x02 ∷ 0x48 ∷ []) ∷ []
  -- a fragment is heard with its number, its bytes and its line, by the session of its index
  pub rows : set_up.sessions.second ≡ Some (record {
    setup = record { index = 1; mask = 1; nb_frag = 4; frag_size = 13; algo = 0; delay = 2; padding = 0; descriptor = 5 };
    rows = 2;
    heard = [];
  })
  pub heard : (after 0 201 (0x08 ∷ 0x03 ∷ 0x40 ∷ replicate 13 7) set_up).sessions.second ≡ Some (record {
    setup = record { index = 1; mask = 1; nb_frag = 4; frag_size = 13; algo = 0; delay = 2; padding = 0; descriptor = 5 };
    rows = 2;
    heard = record { number = 3; part = replicate 13 7; mark = 1 } ∷ [];
  })

-- ---- groups: id 0 with address 11223344 and id 2 with 55667788, for the frame counts 0 to 9

abbrev pub group_setup : (id a b c d : ℕ) → List ℕ
group_setup id a b c d = 0x02 ∷ id ∷ a ∷ b ∷ c ∷ d ∷ replicate 16 0 ++ replicate 4 0 ++ 0x0a ∷ 0x00 ∷ 0x00 ∷ 0x00 ∷ []

abbrev pub grouped : DeviceState
grouped = taken (after 0 200 (group_setup 2 0x88 0x77 0x66 0x55 ++ group_setup 0 0x44 0x33 0x22 0x11) fresh)

-- the same key as it is sent to a device of LoRaWAN 1.1 with the same 16 bytes as its AppKey
abbrev pub worked_wrapped_1_1 : List ℕ
worked_wrapped_1_1 = 0xb6 ∷ 0xb7 ∷ 0x15 ∷ 0xe2 ∷ 0x1b ∷ 0x8c ∷ 0x23 ∷ 0x12 ∷ 0xc3 ∷ 0xbb ∷ 0xe8 ∷ 0x86 ∷ 0xce ∷ 0xba ∷ 0xb6 ∷ 0x46 ∷ []

-- the group's key is unwrapped under the device's own
pub record KeySteps : Type 0 where
  pub key : (after 0 200 (0x02 ∷ 0x00 ∷ 0x44 ∷ 0x33 ∷ 0x22 ∷ 0x11 ∷ worked_wrapped ++ 0x03 ∷ 0x00 ∷ 0x00 ∷ 0x00 ∷ 0x0a ∷ 0x00 ∷ 0x00 ∷ 0x00 ∷ [])
      (first_device (record (worked_config C 0) { key = worked_gen_app_key; groups = 1 }))).groups
      ≡ Some (record { addr = 0x11223344; key = worked_key; min = 3; max = 10 }) ∷ []
  -- of LoRaWAN 1.1 under its AppKey
  pub key_1_1 : (after 0 200 (0x02 ∷ 0x00 ∷ 0x44 ∷ 0x33 ∷ 0x22 ∷ 0x11 ∷ worked_wrapped_1_1 ++ 0x03 ∷ 0x00 ∷ 0x00 ∷ 0x00 ∷ 0x0a ∷ 0x00 ∷ 0x00 ∷ 0x00 ∷ [])
      (first_device (record (worked_config C 0) { key = worked_gen_app_key; root = V11; groups = 1 }))).groups
      ≡ Some (record { addr = 0x11223344; key = worked_key; min = 3; max = 10 }) ∷ []
  -- frames to the group are decrypted under McAppSKey, and checked under McNetSKey
  pub sessions : session_keys (record { addr = 0x11223344; key = worked_key; min = 3; max = 10 }) ≡ record {
    app_s = 0x10 ∷ 0x76 ∷ 0xbb ∷ 0xc2 ∷ 0xea ∷ 0x64 ∷ 0xf6 ∷ 0xe7 ∷ 0x58 ∷ 0x05 ∷ 0x68 ∷ 0x87 ∷ 0x98 ∷ 0x92 ∷ 0x8a ∷ 0xba ∷ [];
    net_s = 0x9f ∷ 0x04 ∷ 0x20 ∷ 0xfe ∷ 0xdd ∷ 0xea ∷ 0x37 ∷ 0xd9 ∷ 0xf0 ∷ 0x57 ∷ 0xe1 ∷ 0xa2 ∷ 0x1f ∷ 0x2c ∷ 0xd4 ∷ 0xca ∷ [];
  }

-- a class C session of group 0 is asked for at 1,000 s: for one second from 1,010 s on
abbrev pub session_request : List ℕ
session_request = 0x04 ∷ 0x00 ∷ 0xf2 ∷ 0x03 ∷ 0x00 ∷ 0x00 ∷ 0x00 ∷ 0x28 ∷ 0x76 ∷ 0x84 ∷ 0x00 ∷ []

abbrev pub with_session : DeviceState
with_session = taken (after 1000000 200 session_request grouped)

-- and one of group 2, for four seconds, with the highest data rate
abbrev pub with_session_2 : DeviceState
with_session_2 =
    taken (after 1000000 200 (0x04 ∷ 0x02 ∷ 0xf2 ∷ 0x03 ∷ 0x00 ∷ 0x00 ∷ 0x02 ∷ 0x28 ∷ 0x76 ∷ 0x84 ∷ 0x05 ∷ []) grouped)

-- a class B session of group 2, with periodicity 3 and TimeOut 1
abbrev pub class_b_request : List ℕ
class_b_request = 0x05 ∷ 0x02 ∷ 0xf2 ∷ 0x03 ∷ 0x00 ∷ 0x00 ∷ 0x31 ∷ 0x28 ∷ 0x76 ∷ 0x84 ∷ 0x05 ∷ []

-- a class C session of a group, with a frequency (its bytes) and a data rate
abbrev pub request_with : (id f g h dr : ℕ) → List ℕ
request_with id f g h dr = 0x04 ∷ id ∷ 0xf2 ∷ 0x03 ∷ 0x00 ∷ 0x00 ∷ 0x00 ∷ f ∷ g ∷ h ∷ dr ∷ []

-- one of class B
abbrev pub request_b_with : (id f g h dr : ℕ) → List ℕ
request_b_with id f g h dr = 0x05 ∷ id ∷ 0xf2 ∷ 0x03 ∷ 0x00 ∷ 0x00 ∷ 0x00 ∷ f ∷ g ∷ h ∷ dr ∷ []

-- each request of the four packages makes one uplink: eight have room
pub record WeightSteps : Type 0 where
  pub firmware : answer 0 203
      (0x00 ∷ 0x00 ∷ 0x01 ∷ 0x02 ∷ 0x0f ∷ 0x00 ∷ 0x00 ∷ 0x00 ∷ 0x03 ∷ 0x0a ∷ 0x00 ∷ 0x00 ∷ 0x04 ∷ 0x04
      ∷ 0x05 ∷ 0x00 ∷ 0x00 ∷ 0x00 ∷ 0x00 ∷ []) fresh ≡ Done
  pub clocks : answer 0 202
      (0x00 ∷ 0x02 ∷ 0x00 ∷ 0x02 ∷ 0x00 ∷ 0x02 ∷ 0x00 ∷ 0x03 ∷ 0x04 ∷ []) fresh ≡ Done
  pub fragments : answer 0 201
      (0x00 ∷ 0x00 ∷ 0x00 ∷ 0x01 ∷ 0x01 ∷ 0x01 ∷ 0x01 ∷ 0x03 ∷ 0x00 ∷ 0x03 ∷ 0x01 ∷ setup_request) fresh ≡ Done
  pub groups : answer 0 200
      (0x00 ∷ 0x00 ∷ 0x01 ∷ 0x0f ∷ 0x03 ∷ 0x00 ∷ group_setup 0 0x44 0x33 0x22 0x11 ++ 0x03 ∷ 0x01
      ∷ session_request ++ class_b_request) fresh ≡ Done

-- a payload to the group with address 11223344, with the random word 109
abbrev pub from_group : (t count : ℕ) → List ℕ → DeviceState → Outcome Delivered
from_group t count payload device = delivery t 109 1 (record { to = Group 0x11223344 count; port = 201; payload = payload }) device

pub record GroupSteps : Type 0 where
  pub set_up : sends 0 200 (group_setup 2 0x88 0x77 0x66 0x55) fresh ≡ (0x02 ∷ 0x02 ∷ []) ∷ []
  pub told : sends 0 200 (0x01 ∷ 0x0f ∷ []) grouped
      ≡ (0x01 ∷ 0x25 ∷ 0x00 ∷ 0x44 ∷ 0x33 ∷ 0x22 ∷ 0x11 ∷ 0x02 ∷ 0x88 ∷ 0x77 ∷ 0x66 ∷ 0x55 ∷ []) ∷ []
  pub asked_for : sends 0 200 (0x01 ∷ 0x0e ∷ []) grouped ≡ (0x01 ∷ 0x24 ∷ 0x02 ∷ 0x88 ∷ 0x77 ∷ 0x66 ∷ 0x55 ∷ []) ∷ []
  pub no_group : sends 0 200 (0x03 ∷ 0x01 ∷ []) fresh ≡ (0x03 ∷ 0x05 ∷ []) ∷ []
  pub deleted : sends 0 200 (0x03 ∷ 0x00 ∷ 0x03 ∷ 0x00 ∷ []) grouped ≡ (0x03 ∷ 0x00 ∷ []) ∷ (0x03 ∷ 0x04 ∷ []) ∷ []
  -- a group that is set up anew replaces what its id had
  pub anew : sends 0 200 (group_setup 2 0x0d 0x0c 0x0b 0x0a ++ 0x01 ∷ 0x04 ∷ []) grouped
      ≡ (0x02 ∷ 0x02 ∷ []) ∷ (0x01 ∷ 0x24 ∷ 0x02 ∷ 0x0d ∷ 0x0c ∷ 0x0b ∷ 0x0a ∷ []) ∷ []
  pub id_error : sends 0 200 (group_setup 3 0 0 0 0) (first_device (record (worked_config C 0) { groups = 2 })) ≡ (0x02 ∷ 0x07 ∷ []) ∷ []
  pub next_id : sends 0 200 (group_setup 2 0 0 0 0) (first_device (record (worked_config C 0) { groups = 2 }))
      ≡ (0x02 ∷ 0x06 ∷ []) ∷ []
  -- a class session starts in 10 s, or is refused with all its bits
  pub start : sends 1000000 200 session_request grouped ≡ (0x04 ∷ 0x00 ∷ 0x0a ∷ 0x00 ∷ 0x00 ∷ []) ∷ []
  pub to_start : sends 1000000 200 session_request (record grouped { clock = record { offset = 7; token = 0 } })
      ≡ (0x04 ∷ 0x00 ∷ 0x03 ∷ 0x00 ∷ 0x00 ∷ []) ∷ []
  pub errors : sends 1000000 200 (0x04 ∷ 0x00 ∷ 0xf2 ∷ 0x03 ∷ 0x00 ∷ 0x00 ∷ 0x00 ∷ 0x00 ∷ 0x00 ∷ 0x00 ∷ 0x06 ∷ []) fresh ≡ (0x04 ∷ 0x1c ∷ []) ∷ []
  -- one bit by itself: no such group, the frequency, the data rate
  pub undefined : sends 1000000 200 (request_with 1 0x28 0x76 0x84 5) grouped ≡ (0x04 ∷ 0x11 ∷ []) ∷ []
  pub freq_error : sends 1000000 200 (request_with 2 0x00 0x00 0x00 5) grouped ≡ (0x04 ∷ 0x0a ∷ []) ∷ []
  pub dr_error : sends 1000000 200 (request_with 2 0x28 0x76 0x84 6) grouped ≡ (0x04 ∷ 0x06 ∷ []) ∷ []
  pub undefined_b : sends 1000000 200 (request_b_with 1 0x28 0x76 0x84 5) grouped ≡ (0x05 ∷ 0x11 ∷ []) ∷ []
  pub no_frequency : sends 1000000 200 (request_b_with 2 0x00 0x00 0x00 5) grouped ≡ (0x05 ∷ 0x0a ∷ []) ∷ []
  pub dr_error_b : sends 1000000 200 (request_b_with 2 0x28 0x76 0x84 6) grouped ≡ (0x05 ∷ 0x06 ∷ []) ∷ []
  -- it is held as it was asked for
  pub requested : with_session_2.class_session
      ≡ Some (record { id = 2; kind = ClassC; time = 1010; timeout = 2 })
  pub requested_b : (after 1000000 200 class_b_request grouped).class_session
      ≡ Some (record { id = 2; kind = ClassB 3; time = 1010; timeout = 1 })
  -- it replaces the one that there was, and one that is refused does not
  pub replaced : (after 1000000 200 (0x04 ∷ 0x00 ∷ 0xf3 ∷ 0x03 ∷ 0x00 ∷ 0x00 ∷ 0x00 ∷ 0x28 ∷ 0x76 ∷ 0x84 ∷ 0x00 ∷ []) with_session).class_session
      ≡ Some (record { id = 0; kind = ClassC; time = 1011; timeout = 0 })
  pub refused : (after 1000000 200 (0x04 ∷ 0x00 ∷ 0xf3 ∷ 0x03 ∷ 0x00 ∷ 0x00 ∷ 0x00 ∷ 0x00 ∷ 0x00 ∷ 0x00 ∷ 0x06 ∷ []) with_session).class_session
      ≡ with_session.class_session
  -- a class B session begins at the beacon before: 1,010 s are rounded down to 896 s, which is past
  pub beacon : sends 1000000 200 (0x05 ∷ 0x00 ∷ 0xf2 ∷ 0x03 ∷ 0x00 ∷ 0x00 ∷ 0x00 ∷ 0x28 ∷ 0x76 ∷ 0x84 ∷ 0x00 ∷ []) grouped
      ≡ (0x05 ∷ 0x00 ∷ 0x00 ∷ 0x00 ∷ 0x00 ∷ []) ∷ []
  -- 1,030 s are rounded down to 1,024 s
  pub next_beacon : sends 1000000 200 (0x05 ∷ 0x00 ∷ 0x06 ∷ 0x04 ∷ 0x00 ∷ 0x00 ∷ 0x00 ∷ 0x28 ∷ 0x76 ∷ 0x84 ∷ 0x00 ∷ []) grouped
      ≡ (0x05 ∷ 0x00 ∷ 0x18 ∷ 0x00 ∷ 0x00 ∷ []) ∷ []
  -- it ends only with its group
  pub ends : (after 0 200 (0x03 ∷ 0x00 ∷ []) with_session).class_session ≡ None
  pub stays : (after 0 200 (0x03 ∷ 0x02 ∷ []) with_session).class_session ≡ with_session.class_session
  -- and stays where its group is set up anew
  pub set_up_anew : (after 0 200 (group_setup 0 0x44 0x33 0x22 0x11) with_session).class_session
      ≡ with_session.class_session

-- a class B session of group 0: from the beacon at 1,024 s on, for 256 s
abbrev pub class_b : ClassSession
class_b = record { id = 0; kind = ClassB 0; time = 1030; timeout = 1 }

-- a device after a payload on a port by the group of its class session
abbrev pub by_group : (port : ℕ) → List ℕ → DeviceState
by_group port payload =
    (delivery 1010000 109 1 (record { to = Group 0x11223344 0; port = port; payload = payload }) with_session).device

-- a payload to the group with address 55667788
abbrev pub from_group_2 : (t port : ℕ) → List ℕ → DeviceState → Outcome Delivered
from_group_2 t port payload device =
    delivery t 0 1 (record { to = Group 0x55667788 0; port = port; payload = payload }) device

-- the fragments that are dropped where one comes by group 2 for the session of index 1, whose mask is in this byte
abbrev pub dropped_by_2 : (index_and_mask : ℕ) → ℕ
dropped_by_2 index_and_mask =
    (from_group_2 1010000 201 (0x08 ∷ 0x03 ∷ 0x40 ∷ replicate 13 7)
    (after 1000000 201 (0x02 ∷ index_and_mask ∷ 0x04 ∷ 0x00 ∷ 0x0d ∷ 0x02 ∷ replicate 5 0x00) with_session_2)).device.counts.dropped

-- what is heard
pub record HearingSteps : Type 0 where
  -- of the group: in its window, and with a count below its MAX
  pub before : (from_group 1009999 0 [] with_session).answer ≡ Deaf
  pub first : (from_group 1010000 0 [] with_session).answer ≡ Done
  pub last : (from_group 1010999 9 [] with_session).answer ≡ Done
  pub behind : (from_group 1011000 0 [] with_session).answer ≡ Deaf
  -- a session with TimeOut 2 is heard for four seconds
  pub fourth_second : (from_group_2 1013999 201 [] with_session_2).answer ≡ Done
  pub fifth_second : (from_group_2 1014000 201 [] with_session_2).answer ≡ Deaf
  pub max_count : (from_group 1010000 10 [] with_session).answer ≡ Deaf
  pub other_group : (delivery 1010000 0 1 (record { to = Group 0x55667788 0; port = 201; payload = [] }) with_session).answer ≡ Deaf
  pub own_clock : (from_group 1005000 0 [] (record with_session { clock = record { offset = 5; token = 0 } })).answer ≡ Done
  pub no_session : (from_group 1010000 0 [] grouped).answer ≡ Deaf
  -- by the group only fragments and status requests act, and the answer is due 109 modulo 2^(2 + 4) s later
  pub skipped : payloads (from_group 1010000 0 (0x00 ∷ 0x03 ∷ 0x01 ∷ []) with_session).device ≡ []
  pub no_reboot : by_group 203 (0x03 ∷ 0x00 ∷ 0x00 ∷ 0x00 ∷ []) ≡ with_session
  pub no_resync : by_group 202 (0x03 ∷ 0x01 ∷ []) ≡ with_session
  pub no_delete : by_group 200 (0x03 ∷ 0x00 ∷ []) ≡ with_session
  -- what is skipped has its weight too
  pub skipped_weight : (delivery 1010000 0 1
      (record { to = Group 0x11223344 0; port = 202; payload = 0x03 ∷ 0x07 ∷ 0x00 ∷ 0x00 ∷ [] }) with_session).answer
      ≡ OutboxFull 9
  -- what comes by a group comes by the class session's: it feeds the sessions whose mask has that one
  pub of_group_2 : dropped_by_2 0x14 ≡ 0
  pub of_no_other : dropped_by_2 0x1b ≡ 1
  pub answered : (from_group 1010000 0 (0x01 ∷ 0x03 ∷ []) (record with_session { sessions = set_up.sessions })).device.outbox
      ≡ record { due = 1055000; port = 201; payload = 0x01 ∷ 0x00 ∷ 0x40 ∷ 0x04 ∷ 0x00 ∷ [] } ∷ []
  -- of a class B session, in its ping slots
  pub slot : (from_group 1026810 0 [] (record grouped { class_session = Some class_b })).answer ≡ Done
  pub own_slots : (session : ClassSession) (periodicity device_ms addr : ℕ)
      → is_open session (ClassB periodicity) device_ms addr
      ≡ is_open_b session.time periodicity session.timeout device_ms addr
  pub no_slot : (from_group 1026840 0 [] (record grouped { class_session = Some class_b })).answer ≡ Deaf
  -- by unicast: class A only after its own uplinks
  pub a_none : answer 6000 201 [] (first_device (worked_config A 0)) ≡ Deaf
  pub a_5999 : answer 5999 201 [] (record (first_device (worked_config A 0)) { last_due = Some 5000 }) ≡ Deaf
  pub a_6000 : answer 6000 201 [] (record (first_device (worked_config A 0)) { last_due = Some 5000 }) ≡ Done
  pub a_6100 : answer 6100 201 [] (record (first_device (worked_config A 0)) { last_due = Some 5000 }) ≡ Deaf
  pub a_woken : answer 1007 201 [] (waking 7 (first_device (worked_config A 0))).device ≡ Done
  pub a_7000 : answer 7000 201 [] (record (first_device (worked_config A 0)) { last_due = Some 5000 }) ≡ Done

-- ---- firmware

-- a device that has this image next
abbrev pub with_next : ImageState → DeviceState
with_next next = record fresh { slots = record { formats = 2; version = 0; running = []; next = next; next_file = 0x07 ∷ [] } }

abbrev pub ready : DeviceState
ready = with_next (image.Valid 2)

pub record FirmwareSteps : Type 0 where
  pub version : sends 0 203 (0x01 ∷ []) ready ≡ (0x01 ∷ 0x00 ∷ 0x00 ∷ 0x00 ∷ 0x00 ∷ 0x01 ∷ 0x00 ∷ 0x00 ∷ 0x00 ∷ []) ∷ []
  pub no_next : sends 0 203 (0x04 ∷ []) fresh ≡ (0x04 ∷ 0x00 ∷ []) ∷ []
  pub corrupt : sends 0 203 (0x04 ∷ []) (with_next image.Corrupt) ≡ (0x04 ∷ 0x01 ∷ []) ∷ []
  pub incompatible : sends 0 203 (0x04 ∷ []) (with_next image.Incompatible) ≡ (0x04 ∷ 0x02 ∷ []) ∷ []
  pub valid : sends 0 203 (0x04 ∷ []) ready ≡ (0x04 ∷ 0x03 ∷ 0x02 ∷ 0x00 ∷ 0x00 ∷ 0x00 ∷ []) ∷ []
  -- another version is not deleted; its own is, once
  pub other : sends 0 203 (0x05 ∷ 0x03 ∷ 0x00 ∷ 0x00 ∷ 0x00 ∷ []) ready ≡ (0x05 ∷ 0x02 ∷ []) ∷ []
  pub deleted : sends 0 203 (0x05 ∷ 0x02 ∷ 0x00 ∷ 0x00 ∷ 0x00 ∷ 0x05 ∷ 0x02 ∷ 0x00 ∷ 0x00 ∷ 0x00 ∷ []) ready ≡ (0x05 ∷ 0x00 ∷ []) ∷ (0x05 ∷ 0x01 ∷ []) ∷ []
  pub gone : (after 0 203 (0x05 ∷ 0x02 ∷ 0x00 ∷ 0x00 ∷ 0x00 ∷ []) ready).slots ≡ fresh.slots
  -- a reboot at a time, or in so many seconds; all ones cancel it, and 0 is now
  pub time : (after 5000 203 (0x02 ∷ 0x0f ∷ 0x00 ∷ 0x00 ∷ 0x00 ∷ []) ready).reboot ≡ Some 15
  pub same : sends 5000 203 (0x02 ∷ 0x0f ∷ 0x00 ∷ 0x00 ∷ 0x00 ∷ []) ready
      ≡ (0x02 ∷ 0x0f ∷ 0x00 ∷ 0x00 ∷ 0x00 ∷ []) ∷ []
  pub now : (after 2147483648000 203 (0x02 ∷ 0x00 ∷ 0x00 ∷ 0x00 ∷ 0x00 ∷ []) ready).slots.version ≡ 2
  pub countdown : (after 5000 203 (0x03 ∷ 0x0a ∷ 0x00 ∷ 0x00 ∷ []) ready).reboot ≡ Some 15
  pub same_count : sends 5000 203 (0x03 ∷ 0x0a ∷ 0x00 ∷ 0x00 ∷ []) ready ≡ (0x03 ∷ 0x0a ∷ 0x00 ∷ 0x00 ∷ []) ∷ []
  pub round : (after 5000 203 (0x03 ∷ 0x0a ∷ 0x00 ∷ 0x00 ∷ []) (record ready { clock = record { offset = 2 ^ 32 - 6; token = 0 } })).reboot ≡ Some 9
  pub cancelled : (after 5000 203 (0x02 ∷ 0xff ∷ 0xff ∷ 0xff ∷ 0xff ∷ []) (record ready { reboot = Some 15 })).reboot ≡ None
  pub uncounted : (after 5000 203 (0x03 ∷ 0xff ∷ 0xff ∷ 0xff ∷ []) (record ready { reboot = Some 15 })).reboot ≡ None
  pub at_once : (after 0 203 (0x03 ∷ 0x00 ∷ 0x00 ∷ 0x00 ∷ []) ready).slots ≡ record { formats = 2; version = 2; running = 0x07 ∷ []; next = image.None; next_file = [] }
  -- a reboot that a command makes due is carried out after the payload: the version after it is still the old one
  pub old_version : sends 0 203 (0x03 ∷ 0x00 ∷ 0x00 ∷ 0x00 ∷ 0x01 ∷ []) ready
      ≡ (0x03 ∷ 0x00 ∷ 0x00 ∷ 0x00 ∷ []) ∷ (0x01 ∷ 0x00 ∷ 0x00 ∷ 0x00 ∷ 0x00 ∷ 0x01 ∷ 0x00 ∷ 0x00 ∷ 0x00 ∷ []) ∷ []
  -- and one that is due before the payload: the version after it is the new one
  pub new_version : sends 15000 203 (0x01 ∷ []) (record ready { reboot = Some 15 }) ≡ (0x01 ∷ 0x02 ∷ 0x00 ∷ 0x00 ∷ 0x00 ∷ 0x01 ∷ 0x00 ∷ 0x00 ∷ 0x00 ∷ []) ∷ []
  -- at first the formats of the configuration are known
  pub first_formats : (first_device (record (worked_config C 0) { formats = 1 })).slots.formats ≡ 1
  -- both formats are known from now on; next is read again, but not where it is none, and no reboot is carried out
  pub migrated : (after_migration (record ready { slots = record ready.slots { formats = 1 }; reboot = Some 0 })).slots
      ≡ record { formats = 2; version = 0; running = []; next = image.Corrupt; next_file = 0x07 ∷ [] }
  pub reboot_stays : (after_migration (record ready { reboot = Some 15 })).reboot ≡ Some 15
  pub none_migrated : (after_migration fresh).slots ≡ fresh.slots
  pub due : (waking 15000 (record ready { reboot = Some 15 })).device.slots.version ≡ 2
  -- its moment is one of the device's clock, and is cleared, whatever next is
  pub own_clock : (waking 10000 (record ready { reboot = Some 15; clock = record { offset = 5; token = 0 } })).device.slots.version ≡ 2
  pub cleared : (waking 15000 (record ready { reboot = Some 15 })).device.reboot ≡ None
  pub cleared_of_none : (waking 15000 (record fresh { reboot = Some 15 })).device.reboot ≡ None
  pub early : (waking 14999 (record ready { reboot = Some 15 })).device.slots.version ≡ 0
  -- a payload that is not heard, one that is refused, and bytes that are no frame let a reboot that is due be carried out
  pub due_unheard : (after 15000 203 [] (record (first_device (worked_config A 0)) { slots = ready.slots; reboot = Some 15 })).slots.version
      ≡ 2
  pub due_refused : (after 15000 203 (0x7f ∷ []) (record ready { reboot = Some 15 })).slots.version ≡ 2
  pub due_by_bytes : (radio 15000 0 1 [] (record ready { reboot = Some 15 })).device.slots.version ≡ 2
  -- a moment is reached at itself and less than 2^31 s after it, modulo 2^32
  pub behind : is_reached (2 ^ 31 - 2) (2 ^ 32 - 1) ≡ true
  pub too_far : is_reached (2 ^ 31 - 1) (2 ^ 32 - 1) ≡ false
  pub ahead : is_reached 14 15 ≡ false

-- ---- power: which files became whole while it was away

-- a session of an index for one fragment of one byte, that heard it, so that this byte is its file
abbrev pub whole_session : (index byte : ℕ) → Option Session
whole_session index byte = Some (record {
  setup = setup_of index 0 1 1 0 0 0 0;
  rows = 0;
  heard = record { number = 1; part = byte ∷ []; mark = 1 } ∷ [];
})

-- one that heard nothing
abbrev pub receiving_session : (index : ℕ) → Option Session
receiving_session index = Some (record { setup = setup_of index 0 1 1 0 0 0 0; rows = 0; heard = [] })

-- of index 1 and 2, whose files are 8 and 9
abbrev pub two_whole : SessionTable
two_whole = record no_sessions { second = whole_session 1 8; third = whole_session 2 9 }

-- what is next where power finds these sessions, and it was 7
abbrev pub next_of : CompleteFlags → SessionTable → List ℕ
next_of whole table = (after_power whole table (with_next image.Corrupt)).slots.next_file

pub record PowerSteps : Type 0 where
  -- files that became whole are offered by rising index, so that the last of them is next
  pub first_two : next_of none_complete (record no_sessions { first = whole_session 0 8; second = whole_session 1 9 }) ≡ 9 ∷ []
  pub middle_two : next_of none_complete two_whole ≡ 9 ∷ []
  pub last_two : next_of none_complete (record no_sessions { third = whole_session 2 8; fourth = whole_session 3 9 }) ≡ 9 ∷ []
  -- one that was whole is not offered again
  pub was_whole : next_of (record none_complete { third = true }) two_whole ≡ 8 ∷ []
  -- nothing is offered where no file became whole
  pub none : (after_power none_complete (record no_sessions { first = receiving_session 0 }) (with_next image.Corrupt)).slots
      ≡ (with_next image.Corrupt).slots
  -- the sessions that were found are there
  pub found : (after_power none_complete two_whole (with_next image.Corrupt)).sessions ≡ two_whole

-- ---- bytes from the radio where no group is heard

-- a frame of 13 bytes, to the address 11223344
abbrev pub other_frame : List ℕ
other_frame = 0x60 ∷ 0x44 ∷ 0x33 ∷ 0x22 ∷ 0x11 ∷ 0x00 ∷ 0x01 ∷ 0x00 ∷ 0xc9 ∷ 0x5a ∷ 0xa8 ∷ 0xb9 ∷ 0x4b ∷ []

-- what a device without a class session answers to bytes
abbrev pub heard_alone : List ℕ → Aired
heard_alone bytes = (radio 0 0 1 bytes fresh).answer

-- a class session for group 0
abbrev pub first_session : ClassSession
first_session = record { id = 0; kind = ClassC; time = 0; timeout = 0 }

pub record RadioSteps : Type 0 where
  -- the first fault of the bytes, and of a frame without another its address
  pub short : heard_alone (replicate 12 0x60) ≡ Foreign Short
  pub long : heard_alone (replicate 256 0x60) ≡ Foreign Long
  pub header : heard_alone (0x40 ∷ drop 1 other_frame) ≡ Foreign Header
  pub address : heard_alone other_frame ≡ Foreign Address
  -- so it is where the group of the class session is not there
  pub no_group : brought_to (heard_group fresh.groups (Some first_session)) other_frame ≡ Err Address
  -- a frame of the group is a payload to it, with its whole count
  pub opened : payload_to 0x11223344 (Ok (record { count = 65537; port = 201; payload = 7 ∷ 8 ∷ [] }))
      ≡ Ok (record { to = Group 0x11223344 65537; port = 201; payload = 7 ∷ 8 ∷ [] })
  pub closed : payload_to 0x11223344 (Err Header) ≡ Err Header
  -- it counts as not heard
  pub counted : (radio 0 0 1 other_frame fresh).device ≡ with_counts after_deaf fresh

-- ---- what a configuration may be

pub record ConfigSteps : Type 0 where
  pub formats : is_config (record (worked_config C 0) { formats = 3 }) ≡ false
  pub no_format : is_config (record (worked_config C 0) { formats = 0 }) ≡ false
  pub most : is_config (record (worked_config C 0) { rows = 256 }) ≡ true
  pub rows : is_config (record (worked_config C 0) { rows = 257 }) ≡ false
  pub sessions : is_config (record (worked_config C 0) { sessions = 5 }) ≡ false
  pub no_session : is_config (record (worked_config C 0) { sessions = 0 }) ≡ false
  pub groups : is_config (record (worked_config C 0) { groups = 5 }) ≡ false
  pub no_group : is_config (record (worked_config C 0) { groups = 0 }) ≡ false
  pub no_area : is_config (record (worked_config C 0) { area = 0 }) ≡ false
  pub least : is_config (record (worked_config A 0) { formats = 1; rows = 0; sessions = 1; groups = 1; area = 1 }) ≡ true
  pub area : is_config (record (worked_config C 0) { area = 262383 }) ≡ false
  pub last_moment : max_moment ≡ 4294967295999
  pub unheld : can_reserve (record (worked_config C 0) { span = 1 }) 0 ≡ true
  -- what is not held needs no flash; what is held needs four ranges, each of 24,640 bytes at least
  pub memory : can_reserve (worked_config C 0) 0 ≡ true
  pub flash : can_reserve (record (worked_config C 0) { held = true; span = 24640 }) 98560 ≡ true
  pub short_flash : can_reserve (record (worked_config C 0) { held = true; span = 24640 }) 98559 ≡ false
  pub short_span : can_reserve (record (worked_config C 0) { held = true; span = 24639 }) 98560 ≡ false

-- ---- all of them

pub record WorkedSteps : Type 0 where
  -- uplinks as they are made, held and taken, and what is counted
  pub uplinks : UplinkSteps
  -- each request of the four packages makes one uplink
  pub weights : WeightSteps
  -- a clock that is corrected, and what asks for it
  pub clock : ClockSteps
  -- what a session that heard fragments answers
  pub statuses : StatusSteps
  -- sessions that are set up, heard, asked and deleted
  pub sessions : SessionSteps
  -- the group's key is unwrapped under the device's own
  pub keys : KeySteps
  -- groups, and the class sessions in which they are heard
  pub groups : GroupSteps
  -- what is heard, and when
  pub hearing : HearingSteps
  -- versions, images and reboots
  pub firmware : FirmwareSteps
  -- which file is next after power
  pub power : PowerSteps
  -- why bytes from the radio are no frame for a device without a group
  pub alone : RadioSteps
  -- the bounds of a configuration
  pub configs : ConfigSteps
