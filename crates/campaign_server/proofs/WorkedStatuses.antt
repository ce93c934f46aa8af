-- The worked statuses, each by computing.
use Rattle.wire_base.specs.Numbers.{number_at}
use Rattle.cast_wire.specs.Tests as cast
use Rattle.sync_wire.specs.Tests as sync
use Rattle.sync_wire.specs.Reading.{clock_up, firmware_up}
use Rattle.cast_wire.specs.Reading.{fragment_up, group_up}
use Rattle.image_slots.specs.Image.{is_for, lowest_of, highest_of, further, format_of, firmware_of}
use Rattle.package_grammar.specs.Reading.{named_at, command_at, is_known, stop_at, read_from, reading_of}
use Rattle.campaign_server.specs.Answers.{stage_after, stage_after_all}
use Rattle.campaign_server.specs.Statuses.{status_after_all}
use Rattle.campaign_server.specs.Time.{time_answer}
use Rattle.campaign_server.specs.Uplinks.{read_uplink, uplink_step}
use Rattle.campaign_server.specs.WorkedStatuses.{StatusSteps}

pub statuses : StatusSteps
unfolding reading_of read_from command_at named_at stop_at is_known sync.is_known sync.samples cast.is_known cast.samples clock_up firmware_up fragment_up group_up uplink_step read_uplink stage_after_all stage_after status_after_all time_answer is_for lowest_of highest_of further format_of firmware_of number_at
statuses = search
