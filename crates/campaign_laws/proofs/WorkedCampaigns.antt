-- The worked campaigns come out so.
use Rattle.std.specs.Fmt.{digits}
use Rattle.std.specs.Int.{int_wrap}
use Rattle.hex.specs.Hex.{decode_pairs}
use Rattle.wire_base.specs.Numbers.{number_at}
use Rattle.cast_wire.specs.Tests as cast
use Rattle.cast_wire.specs.Reading.{fragment_down, fragment_up, group_down, group_up}
use Rattle.sync_wire.specs.Tests as sync
use Rattle.sync_wire.specs.Reading.{clock_down, clock_up, firmware_down, firmware_up}
use Rattle.image_slots.specs.Image.{format_of, further, lowest_of, highest_of, is_for, firmware_of}
use Rattle.image_slots.specs.Slots.{after_swap, after_raise}
use Rattle.package_grammar.specs.Reading.{named_at, command_at, is_known, stop_at, read_from, reading_of}
use Rattle.class_windows.specs.Open.{is_after_uplink}
use Rattle.frag_session.specs.Session.{view_of}
use Rattle.device_core.specs.Answers.{after_answers}
use Rattle.device_core.specs.Clock.{answer_step}
use Rattle.device_core.specs.ClassSessions.{hears}
use Rattle.device_core.specs.Firmware.{version_step, after_due_reboot, after_migration}
use Rattle.device_core.specs.Step.{command_step, step, after_commands}
use Rattle.device_core.specs.Deliver.{message_delivery, read_delivery, heard_delivery, time_asking, delivery, waking}
use Rattle.campaign_server.specs.Asking.{request_at, request_of}
use Rattle.campaign_server.specs.Answers.{stage_after, stage_after_all}
use Rattle.campaign_server.specs.Fragments.{next_fragment, after_fragment, status_to_all, after_status_to_all}
use Rattle.campaign_server.specs.Time.{time_answer}
use Rattle.campaign_server.specs.Uplinks.{read_uplink, uplink_step}
use Rattle.script_lines.specs.Lines.{lines_of, words_of, word}
use Rattle.script_lines.specs.Numbers.{decimal_of, key_of, hex_number_of, hex_bytes_of}
use Rattle.script_lines.specs.Forms.{form_of}
use Rattle.script_lines.specs.Ranges.{in_range}
use Rattle.campaign_world.specs.Causes.{form_cause, cause_of}
use Rattle.campaign_world.specs.Making.{with_device, after_form}
use Rattle.campaign_world.specs.Script.{read_line, read_lines, campaign_of}
use Rattle.campaign_world.specs.Report.{device_parts, report_of}
use Rattle.row_elimination.specs.Room.{has_room, words_for}
use Rattle.frag_model.specs.Verdict.{verdict, missing}
use Rattle.frag_session.specs.Setup.{setup_bits, wrong_coding, too_large, other_descriptor, same_setup, lives}
use Rattle.frag_session.specs.Session.{new_session, renewed, after_setup, excludes, cause_of as session_cause, drop_cause, followed, after_fragment as session_after_fragment, shape_of, shown_verdict, shown_file, seen_of}
use Rattle.device_core.specs.Fragments.{setup_step, fragment_step, heard_step}
use Rattle.device_core.specs.Radio.{brought, radio}
use Rattle.mc_frames.specs.Opening.{fault_without_group}
use Rattle.campaign_world.specs.Summary.{with_device as with_counted, totals_from}
use Rattle.campaign_laws.specs.WorkedCampaigns.{AreReported, AreRefused, AreCauses, AreSessions, AreCounted, ArePlanned, AreEvents}

pub refused_so : AreRefused
unfolding campaign_of read_lines read_line cause_of form_cause in_range after_form with_device lines_of words_of word decimal_of key_of hex_number_of hex_bytes_of decode_pairs form_of next_fragment after_fragment status_to_all after_status_to_all request_of request_at radio brought fault_without_group after_due_reboot
refused_so = search

pub reported_so : AreReported
unfolding digits int_wrap campaign_of read_lines read_line cause_of form_cause in_range after_form with_device report_of device_parts view_of lines_of words_of word decimal_of key_of hex_number_of hex_bytes_of decode_pairs form_of next_fragment after_fragment status_to_all after_status_to_all request_of request_at is_for lowest_of highest_of further format_of firmware_of number_at uplink_step read_uplink reading_of read_from command_at named_at stop_at is_known sync.is_known sync.samples cast.is_known cast.samples clock_up clock_down firmware_up firmware_down fragment_up fragment_down group_up group_down stage_after_all stage_after time_answer delivery heard_delivery read_delivery message_delivery after_due_reboot after_migration after_raise after_swap hears is_after_uplink after_commands step command_step after_answers answer_step version_step waking time_asking radio brought fault_without_group
reported_so = search

pub causes_so : AreCauses
unfolding campaign_of read_lines read_line cause_of form_cause in_range after_form with_device lines_of words_of word decimal_of key_of hex_number_of hex_bytes_of decode_pairs form_of next_fragment after_fragment status_to_all after_status_to_all request_of request_at
causes_so = search

pub sessions_so : AreSessions
unfolding digits int_wrap campaign_of read_lines read_line cause_of form_cause in_range after_form with_device report_of device_parts view_of lines_of words_of word decimal_of key_of hex_number_of hex_bytes_of decode_pairs form_of next_fragment after_fragment status_to_all after_status_to_all request_of request_at is_for lowest_of highest_of further format_of firmware_of number_at uplink_step read_uplink reading_of read_from command_at named_at stop_at is_known sync.is_known sync.samples cast.is_known cast.samples clock_up clock_down firmware_up firmware_down fragment_up fragment_down group_up group_down stage_after_all stage_after time_answer delivery heard_delivery read_delivery message_delivery after_due_reboot after_migration after_raise after_swap hears is_after_uplink after_commands step command_step after_answers answer_step version_step waking time_asking verdict missing shape_of shown_verdict shown_file seen_of setup_bits wrong_coding too_large other_descriptor has_room words_for new_session renewed after_setup same_setup lives excludes session_cause drop_cause followed session_after_fragment setup_step fragment_step heard_step
sessions_so = search

pub counted_so : AreCounted
unfolding digits totals_from with_counted seen_of view_of
counted_so = search

pub planned_so : ArePlanned
unfolding after_form
planned_so = search

pub events_so : AreEvents
events_so = search
