-- The worked steps of a device, each by computing.
use Rattle.std.proofs.Common.{[], ◌∷◌, Some, refl, ap}
use Rattle.mc_group.specs.declared.group.Group.{Group}
use Rattle.std.specs.Int.{int_wrap}
use Rattle.wire_base.specs.Numbers.{number_at}
use Rattle.sync_wire.specs.Tests as sync
use Rattle.cast_wire.specs.Tests as cast
use Rattle.sync_wire.specs.Reading.{clock_down, firmware_down}
use Rattle.cast_wire.specs.Reading.{group_down, fragment_down}
use Rattle.package_grammar.specs.Reading.{named_at, command_at, is_known, stop_at, read_from, reading_of}
use Rattle.row_elimination.specs.Room.{has_room, words_for}
use Rattle.frag_model.specs.Fragments.{file_of, line_of, equation_of, pieces_at, xor_bytes, xor_all, fits}
use Rattle.frag_model.specs.Gain.{sums, is_sum, gain_of_lines, gain_of, direct_of, numbers_of, gain, direct, excess}
use Rattle.frag_model.specs.Verdict.{all_lists, all_blocks, fitting_blocks, verdict_from, verdict_now, first_verdict, verdict, lacking, missing_now, missing_next, missing}
use Rattle.frag_session.specs.Setup.{setup_bits, wrong_coding, too_large, other_descriptor, same_setup}
use Rattle.frag_session.specs.Session.{new_session, renewed, after_setup, excludes, cause_of, drop_cause, followed, after_fragment, shape_of, shown_verdict, shown_file, seen_of, view_of, status_by, status_in, status_of}
use Rattle.image_slots.specs.Image.{format_of, further, is_image, is_unknown, image_state}
use Rattle.image_slots.specs.Slots.{after_offer, after_swap, after_delete, after_raise}
use Rattle.class_windows.specs.Open.{is_after_uplink, is_running}
use Rattle.class_windows.proofs.WorkedWindows.{ping_slot, no_ping_slot}
use Rattle.mc_group.proofs.WorkedGroups.{setup}
use Rattle.mc_keys.proofs.WorkedKeys.{session_keys as group_keys}
use Rattle.device_core.proofs.WorkedRoots.{setup_1_1}
use Rattle.device_core.specs.Answers.{after_answers}
use Rattle.device_core.specs.Clock.{answer_step, periodicity_step, resync_step}
use Rattle.device_core.specs.Fragments.{setup_step, delete_step, status_step, heard_step, fragment_step}
use Rattle.device_core.specs.Groups.{groups_step, group_setup_step, group_delete_step}
use Rattle.device_core.specs.ClassSessions.{hears, class_session_step}
use Rattle.device_core.specs.Firmware.{version_step, upgrade_step, delete_image_step, reboot_time_step, countdown_step, after_due_reboot, after_migration}
use Rattle.mc_frames.specs.Opening.{fault_without_group}
use Rattle.device_core.specs.Power.{after_power}
use Rattle.device_core.specs.Radio.{brought, radio}
use Rattle.device_core.specs.Step.{command_step, step, after_commands}
use Rattle.device_core.specs.Deliver.{message_delivery, read_delivery, heard_delivery, delivery, time_asking, waking}
use Rattle.device_core.specs.WorkedSteps.{UplinkSteps, WeightSteps, ClockSteps, StatusSteps, SessionSteps, KeySteps, GroupSteps, HearingSteps, FirmwareSteps, PowerSteps, RadioSteps, ConfigSteps, WorkedSteps}

pub uplinks : UplinkSteps
unfolding int_wrap delivery heard_delivery read_delivery message_delivery after_due_reboot after_swap after_delete hears is_after_uplink is_running reading_of read_from command_at named_at is_known stop_at sync.is_known sync.samples cast.is_known cast.samples number_at clock_down firmware_down group_down fragment_down after_commands step command_step after_answers answer_step periodicity_step resync_step waking time_asking groups_step group_setup_step group_delete_step class_session_step version_step upgrade_step delete_image_step reboot_time_step countdown_step setup_step delete_step status_step fragment_step heard_step setup_bits wrong_coding too_large other_descriptor has_room words_for new_session after_setup renewed same_setup excludes cause_of drop_cause followed after_fragment shape_of shown_verdict seen_of status_by status_in status_of verdict missing
uplinks = search

pub clock : ClockSteps
unfolding int_wrap delivery heard_delivery read_delivery message_delivery after_due_reboot after_swap after_delete hears is_after_uplink is_running reading_of read_from command_at named_at is_known stop_at sync.is_known sync.samples cast.is_known cast.samples number_at clock_down firmware_down group_down fragment_down after_commands step command_step after_answers answer_step periodicity_step resync_step waking time_asking groups_step group_setup_step group_delete_step class_session_step version_step upgrade_step delete_image_step reboot_time_step countdown_step setup_step delete_step status_step fragment_step heard_step setup_bits wrong_coding too_large other_descriptor has_room words_for new_session after_setup renewed same_setup excludes cause_of drop_cause followed after_fragment shape_of shown_verdict seen_of status_by status_in status_of verdict missing
clock = search

pub statuses : StatusSteps
unfolding int_wrap delivery heard_delivery read_delivery message_delivery after_due_reboot after_swap after_delete hears is_after_uplink is_running reading_of read_from command_at named_at is_known stop_at sync.is_known sync.samples cast.is_known cast.samples number_at clock_down firmware_down group_down fragment_down after_commands step command_step after_answers answer_step periodicity_step resync_step waking time_asking groups_step group_setup_step group_delete_step class_session_step version_step upgrade_step delete_image_step reboot_time_step countdown_step setup_step delete_step status_step fragment_step heard_step setup_bits wrong_coding too_large other_descriptor has_room words_for new_session after_setup renewed same_setup excludes cause_of drop_cause followed after_fragment shape_of shown_verdict seen_of status_by status_in status_of verdict missing verdict_now verdict_from first_verdict fitting_blocks all_blocks all_lists lacking missing_now missing_next gain excess direct gain_of direct_of numbers_of gain_of_lines is_sum sums fits equation_of line_of pieces_at xor_all xor_bytes
statuses = search

pub weights : WeightSteps
unfolding int_wrap delivery heard_delivery read_delivery message_delivery after_due_reboot after_swap after_delete hears is_after_uplink is_running reading_of read_from command_at named_at is_known stop_at sync.is_known sync.samples cast.is_known cast.samples number_at clock_down firmware_down group_down fragment_down after_commands step command_step after_answers answer_step periodicity_step resync_step waking time_asking groups_step group_setup_step group_delete_step class_session_step version_step upgrade_step delete_image_step reboot_time_step countdown_step setup_step delete_step status_step fragment_step heard_step setup_bits wrong_coding too_large other_descriptor has_room words_for new_session after_setup renewed same_setup excludes cause_of drop_cause followed after_fragment shape_of shown_verdict seen_of status_by status_in status_of verdict missing
weights = search

pub sessions : SessionSteps
unfolding int_wrap delivery heard_delivery read_delivery message_delivery after_due_reboot after_swap after_delete hears is_after_uplink is_running reading_of read_from command_at named_at is_known stop_at sync.is_known sync.samples cast.is_known cast.samples number_at clock_down firmware_down group_down fragment_down after_commands step command_step after_answers answer_step periodicity_step resync_step waking time_asking groups_step group_setup_step group_delete_step class_session_step version_step upgrade_step delete_image_step reboot_time_step countdown_step setup_step delete_step status_step fragment_step heard_step setup_bits wrong_coding too_large other_descriptor has_room words_for new_session after_setup renewed same_setup excludes cause_of drop_cause followed after_fragment shape_of shown_verdict seen_of status_by status_in status_of verdict missing
sessions = search

pub keys : KeySteps
unfolding int_wrap delivery heard_delivery read_delivery message_delivery after_due_reboot after_swap after_delete hears is_after_uplink is_running reading_of read_from command_at named_at is_known stop_at sync.is_known sync.samples cast.is_known cast.samples number_at clock_down firmware_down group_down fragment_down after_commands step command_step after_answers answer_step periodicity_step resync_step waking time_asking groups_step group_setup_step group_delete_step class_session_step version_step upgrade_step delete_image_step reboot_time_step countdown_step setup_step delete_step status_step fragment_step heard_step setup_bits wrong_coding too_large other_descriptor has_room words_for new_session after_setup renewed same_setup excludes cause_of drop_cause followed after_fragment shape_of shown_verdict seen_of status_by status_in status_of verdict missing
keys = record {
  key = ap (λ (group : Group). Some group ∷ []) setup.key;
  key_1_1 = ap (λ (group : Group). Some group ∷ []) setup_1_1;
  sessions = rw (group_keys.app_s_key, group_keys.net_s_key) refl;
}

pub groups : GroupSteps
unfolding int_wrap delivery heard_delivery read_delivery message_delivery after_due_reboot after_swap after_delete hears is_after_uplink is_running reading_of read_from command_at named_at is_known stop_at sync.is_known sync.samples cast.is_known cast.samples number_at clock_down firmware_down group_down fragment_down after_commands step command_step after_answers answer_step periodicity_step resync_step waking time_asking groups_step group_setup_step group_delete_step class_session_step version_step upgrade_step delete_image_step reboot_time_step countdown_step setup_step delete_step status_step fragment_step heard_step setup_bits wrong_coding too_large other_descriptor has_room words_for new_session after_setup renewed same_setup excludes cause_of drop_cause followed after_fragment shape_of shown_verdict seen_of status_by status_in status_of verdict missing
groups = search

pub hearing : HearingSteps
unfolding int_wrap delivery heard_delivery read_delivery message_delivery after_due_reboot after_swap after_delete hears is_after_uplink is_running reading_of read_from command_at named_at is_known stop_at sync.is_known sync.samples cast.is_known cast.samples number_at clock_down firmware_down group_down fragment_down after_commands step command_step after_answers answer_step periodicity_step resync_step waking time_asking groups_step group_setup_step group_delete_step class_session_step version_step upgrade_step delete_image_step reboot_time_step countdown_step setup_step delete_step status_step fragment_step heard_step setup_bits wrong_coding too_large other_descriptor has_room words_for new_session after_setup renewed same_setup excludes cause_of drop_cause followed after_fragment shape_of shown_verdict seen_of status_by status_in status_of verdict missing
hearing = search (ping_slot, no_ping_slot)

pub firmware : FirmwareSteps
unfolding after_migration after_raise image_state is_image is_unknown format_of further int_wrap delivery heard_delivery read_delivery message_delivery after_due_reboot after_swap after_delete hears is_after_uplink is_running reading_of read_from command_at named_at is_known stop_at sync.is_known sync.samples cast.is_known cast.samples number_at clock_down firmware_down group_down fragment_down after_commands step command_step after_answers answer_step periodicity_step resync_step waking time_asking groups_step group_setup_step group_delete_step class_session_step version_step upgrade_step delete_image_step reboot_time_step countdown_step setup_step delete_step status_step fragment_step heard_step setup_bits wrong_coding too_large other_descriptor has_room words_for new_session after_setup renewed same_setup excludes cause_of drop_cause followed after_fragment shape_of shown_verdict seen_of status_by status_in status_of verdict missing radio brought fault_without_group
firmware = search

pub power : PowerSteps
unfolding after_power after_offer view_of seen_of shape_of shown_verdict shown_file verdict verdict_now verdict_from first_verdict fitting_blocks all_blocks all_lists excess direct gain_of direct_of numbers_of gain_of_lines is_sum sums fits equation_of line_of pieces_at xor_all xor_bytes file_of gain
power = search

pub alone : RadioSteps
unfolding radio brought fault_without_group after_due_reboot
alone = search

pub configs : ConfigSteps
configs = search

pub worked_steps : WorkedSteps
worked_steps = search (uplinks, weights, clock, statuses, sessions, keys, groups, hearing, firmware, power, alone, configs)
