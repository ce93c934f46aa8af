-- The worked payloads, by computing.
use lib.Count.{ones}
use Rattle.std.specs.Int.{int_wrap}
use Rattle.wire_base.specs.Numbers.{number_at}
use Rattle.cast_wire.specs.Reading.{fragment_down, fragment_up, groups_at, group_down, group_up}
use Rattle.cast_wire.specs.Tests as cast
use Rattle.sync_wire.specs.Reading.{clock_down, clock_up, firmware_down, firmware_up}
use Rattle.sync_wire.specs.Tests as sync
use Rattle.package_grammar.specs.Reading.{named_at, command_at, is_known, stop_at, read_from, reading_of}
use Rattle.package_grammar.specs.WorkedPayloads.{ReservedBits, WorkedMessages}

pub reserved : ReservedBits
unfolding ones int_wrap reading_of read_from command_at named_at number_at stop_at is_known sync.is_known sync.samples cast.is_known cast.samples clock_down clock_up firmware_down firmware_up fragment_down fragment_up groups_at group_down group_up
reserved = search

pub messages : WorkedMessages
unfolding ones int_wrap reading_of read_from command_at named_at number_at stop_at is_known sync.is_known sync.samples cast.is_known cast.samples clock_down clock_up firmware_down firmware_up fragment_down fragment_up groups_at group_down group_up
messages = search
