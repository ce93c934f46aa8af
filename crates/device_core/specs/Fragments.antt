-- Fragmented data blocks on the device (TS004-1.0.0). What a session is, hears and shows is frag_session's.
use Rattle.std.specs.Prelude.{ℕ, ◌+◌, ◌*◌, ◌%◌, ◌^◌, Bool, false, if◌then◌else◌, List, [], ◌∷◌, Option, Some, None, is_none}
use Rattle.cast_wire.specs.SetupRefusal.{setup_answer}
use Rattle.package_grammar.specs.declared.command.Command.TheVariants.{Cast}
use Rattle.cast_wire.specs.declared.cmd.Cmd.TheVariants.{FragSessionStatusAns, FragSessionDeleteAns}
use Rattle.frag_session.specs.declared.setups.SetupReq.{SetupReq}
use Rattle.frag_session.specs.declared.answers.Via.{Via}
use Rattle.frag_session.specs.declared.answers.Via.TheVariants as via
use Rattle.frag_session.specs.declared.answers.StatusAns.{StatusAns}
use Rattle.frag_session.specs.Setup.{setup_bits}
use Rattle.frag_session.specs.Session.{Seen, drop_cause, status_of, view_of}
-- the verdict is that the file is whole, and a session has it so
pub use Rattle.session_store.specs.CompleteFlags.{is_complete, is_whole}
use Rattle.device_core.specs.SessionTable.{session_at, with_session, table_after_setup, table_after_fragment}
use Rattle.image_slots.specs.Slots.{Slots, after_offer}
use Rattle.device_core.specs.Device.{DeviceState, room_of, limits_of, after_dropped, with_counts}
use Rattle.device_core.specs.declared.arrival.Arrival.{Arrival}
use Rattle.device_core.specs.declared.uplink.Answer.{Answer}
use Rattle.device_core.specs.Answers.{DeviceStep, no_answer, one_answer}

-- ---- FragSessionSetupReq

-- the fields of the request
abbrev pub setup_of : (index mask nb_frag frag_size algo delay padding descriptor : ℕ) → SetupReq
setup_of index mask nb_frag frag_size algo delay padding descriptor = record {
  index = index;
  mask = mask;
  nb_frag = nb_frag;
  frag_size = frag_size;
  algo = algo;
  delay = delay;
  padding = padding;
  descriptor = descriptor;
}

-- answered with all refusal bits that apply; without one the session at that index is kept or replaced, with one nothing
-- changes
unfoldable pub setup_step : Arrival → DeviceState → SetupReq → DeviceStep
setup_step here device req =
    let limits = limits_of device.config in
    let room = room_of device.config in
    one_answer here (record device { sessions = table_after_setup limits room req device.sessions })
    (Cast (setup_answer req.index (setup_bits limits room req)))

-- ---- FragSessionDeleteReq

-- FragSessionDeleteReq: the session goes, and where there is none the answer says so
unfoldable pub delete_step : Arrival → DeviceState → (index : ℕ) → DeviceStep
delete_step here device index =
    one_answer here (record device { sessions = with_session device.sessions index None })
    (Cast (FragSessionDeleteAns index (is_none (session_at device.sessions index))))

-- ---- FragSessionStatusReq

-- ms until the answer: none by unicast, and by multicast so many s as the random word says, below 2^(BlockAckDelay + 4)
-- (this project's profile)
abbrev pub answer_delay : Via → (word delay : ℕ) → ℕ
answer_delay via.Unicast word delay = 0
answer_delay (via.Group g) word delay = 1000 * (word % 2 ^ (delay + 4))

-- its answer, if it does
abbrev pub status_answers : Arrival → (index : ℕ) → Option StatusAns → List Answer
status_answers here index None = []
status_answers here index (Some status) = record {
  due = here.moment.t + answer_delay here.via here.moment.word status.delay;
  port = here.port;
  command = Cast (FragSessionStatusAns index status.received status.missing status.norows);
} ∷ []

-- FragSessionStatusReq is answered where the session has something to say to whoever asked
unfoldable pub status_step : Arrival → DeviceState → (index : ℕ) → (all : Bool) → DeviceStep
status_step here device index all =
    let status = status_of (session_at device.sessions index) here.via all in
    record { device = device; answers = status_answers here index status }

-- ---- DataFragment

-- a session that has its file whole has that file
abbrev pub whole_file : Option Seen → Option (List ℕ)
whole_file None = None
whole_file (Some seen) = if is_complete seen.verdict then Some seen.file else None

-- the file of a session that was not whole is offered to the next slot
abbrev pub slots_after : (hw : ℕ) → (was_whole : Bool) → (file : Option (List ℕ)) → Slots → Slots
slots_after hw false (Some file) slots = after_offer hw file slots
slots_after hw was_whole file slots = slots

-- a session hears a fragment; the one that makes its file whole brings it to the next slot
unfoldable pub heard_step : Arrival → DeviceState → (index n : ℕ) → List ℕ → DeviceState
heard_step here device index n part =
    let sessions = table_after_fragment index here.via n part here.moment.mark device.sessions in
    let before = view_of (session_at device.sessions index) in
    let after = view_of (session_at sessions index) in
    record device {
      sessions = sessions;
      slots = slots_after device.config.hw (is_whole before) (whole_file after) device.slots;
    }

-- and one that is dropped is counted
unfoldable pub fragment_step : Arrival → DeviceState → (index n : ℕ) → List ℕ → DeviceStep
fragment_step here device index n part =
    no_answer (if is_none (drop_cause (session_at device.sessions index) here.via n part)
    then heard_step here device index n part
    else with_counts after_dropped device)
