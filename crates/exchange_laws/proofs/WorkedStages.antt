-- The worked stages come out so.
use Rattle.wire_base.specs.Numbers.{number_at}
use Rattle.cast_wire.specs.Tests as cast
use Rattle.cast_wire.specs.Reading.{fragment_down, fragment_up, group_down, group_up}
use Rattle.sync_wire.specs.Tests as sync
use Rattle.sync_wire.specs.Reading.{clock_down, clock_up, firmware_down, firmware_up}
use Rattle.image_slots.specs.Image.{format_of, further, lowest_of, highest_of, is_for, firmware_of}
use Rattle.image_slots.specs.Slots.{after_swap}
use Rattle.package_grammar.specs.Reading.{named_at, command_at, is_known, stop_at, read_from, reading_of}
use Rattle.row_elimination.specs.Room.{has_room, words_for}
use Rattle.frag_session.specs.Setup.{setup_bits, wrong_coding, too_large, other_descriptor, same_setup, lives}
use Rattle.frag_session.specs.Session.{new_session, renewed, after_setup, excludes, cause_of as session_cause, drop_cause, followed, after_fragment as session_after_fragment, shape_of, view_of}
use Rattle.device_core.specs.Answers.{after_answers}
use Rattle.device_core.specs.ClassSessions.{hears}
use Rattle.device_core.specs.Firmware.{version_step, after_due_reboot}
use Rattle.device_core.specs.Fragments.{setup_step, fragment_step, heard_step}
use Rattle.device_core.specs.Step.{command_step, step, after_commands}
use Rattle.device_core.specs.Deliver.{message_delivery, read_delivery, heard_delivery, delivery}
use Rattle.campaign_server.specs.Asking.{request_at, request_of}
use Rattle.campaign_server.specs.Answers.{stage_after, stage_after_all}
use Rattle.campaign_server.specs.Fragments.{next_fragment, after_fragment}
use Rattle.campaign_server.specs.Time.{time_answer}
use Rattle.campaign_server.specs.Uplinks.{read_uplink, uplink_step}
use Rattle.script_lines.specs.Ranges.{in_range}
use Rattle.campaign_world.specs.Causes.{form_cause, cause_of}
use Rattle.campaign_world.specs.Making.{with_device, after_form}
use Rattle.campaign_world.specs.Script.{read_line, read_lines}
use Rattle.exchange_laws.specs.WorkedStages.{WorkedStages}

pub worked_stages : WorkedStages
unfolding read_lines read_line cause_of form_cause in_range after_form with_device next_fragment after_fragment request_of request_at is_for lowest_of highest_of further format_of firmware_of number_at uplink_step read_uplink reading_of read_from command_at named_at stop_at is_known sync.is_known sync.samples cast.is_known cast.samples clock_up clock_down firmware_up firmware_down fragment_up fragment_down group_up group_down stage_after_all stage_after time_answer delivery heard_delivery read_delivery message_delivery after_due_reboot hears after_commands step command_step after_answers version_step view_of after_swap shape_of setup_bits wrong_coding too_large other_descriptor has_room words_for new_session renewed after_setup same_setup lives excludes session_cause drop_cause followed session_after_fragment setup_step fragment_step heard_step
worked_stages = search
