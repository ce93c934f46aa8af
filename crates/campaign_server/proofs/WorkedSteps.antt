-- The worked steps of a server, each by computing.
use Rattle.wire_base.specs.Numbers.{number_at}
use Rattle.cast_wire.specs.Tests as cast
use Rattle.sync_wire.specs.Tests as sync
use Rattle.sync_wire.specs.Reading.{clock_up, firmware_up}
use Rattle.cast_wire.specs.Reading.{fragment_up, group_up}
use Rattle.image_slots.specs.Image.{is_for, lowest_of, highest_of, further, format_of, firmware_of}
use Rattle.package_grammar.specs.Reading.{named_at, command_at, is_known, stop_at, read_from, reading_of}
use Rattle.frag_model.specs.Fragments.{line_of, pieces_at, xor_bytes, xor_all}
use Rattle.frag_encoder.specs.Encoding.{pieces_of, data_of}
use Rattle.mc_frames.specs.Frames.{message_of, frame_of}
use Rattle.campaign_server.specs.Plan.{bad_field}
use Rattle.campaign_server.specs.Asking.{request_at, request_of}
use Rattle.campaign_server.specs.Answers.{stage_after, stage_after_all}
use Rattle.campaign_server.specs.Fragments.{next_fragment, after_fragment, status_to_all, after_status_to_all}
use Rattle.campaign_server.specs.Time.{time_answer}
use Rattle.campaign_server.specs.Uplinks.{read_uplink, uplink_step}
use Rattle.mc_keys.proofs.WorkedKeys.{session_keys as group_keys}
use Rattle.campaign_server.specs.WorkedSteps.{AskSteps, AnswerSteps, TimeSteps, SendSteps, PlanSteps}

pub asking : AskSteps
unfolding request_of request_at is_for lowest_of highest_of further format_of firmware_of number_at
asking = search

pub answers : AnswerSteps
unfolding reading_of read_from command_at named_at stop_at is_known sync.is_known sync.samples cast.is_known cast.samples clock_up firmware_up fragment_up group_up uplink_step read_uplink stage_after_all stage_after time_answer is_for lowest_of highest_of further format_of firmware_of number_at
answers = search

pub times : TimeSteps
unfolding reading_of read_from command_at named_at stop_at is_known sync.is_known sync.samples cast.is_known cast.samples clock_up firmware_up fragment_up group_up uplink_step read_uplink stage_after_all stage_after time_answer is_for lowest_of highest_of further format_of firmware_of number_at
times = search

pub sending : SendSteps
unfolding next_fragment after_fragment status_to_all after_status_to_all data_of pieces_of line_of pieces_at xor_bytes xor_all message_of frame_of
sending = search group_keys

pub plans : PlanSteps
unfolding bad_field
plans = search
