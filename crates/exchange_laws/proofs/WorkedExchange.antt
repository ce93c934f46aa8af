-- The worked exchange is one.
use Rattle.std.proofs.Common.{List, [], ◌∷◌, ◌++◌, Ok, refl}
use Rattle.cast_wire.specs.Tests as cast
use Rattle.cast_wire.specs.Reading.{fragment_down, fragment_up, group_down, group_up}
use Rattle.sync_wire.specs.Tests as sync
use Rattle.sync_wire.specs.Reading.{clock_down, clock_up, firmware_down, firmware_up}
use Rattle.wire_base.specs.Numbers.{number_at}
use Rattle.image_slots.specs.Image.{format_of, further, lowest_of, highest_of, is_for, firmware_of}
use Rattle.image_slots.specs.WorkedImages.{worked_image}
use Rattle.package_grammar.specs.Reading.{named_at, command_at, is_known, stop_at, read_from, reading_of}
use Rattle.device_core.specs.Answers.{after_answers}
use Rattle.device_core.specs.ClassSessions.{hears}
use Rattle.device_core.specs.Firmware.{version_step, after_due_reboot}
use Rattle.device_core.specs.Step.{command_step, step, after_commands}
use Rattle.device_core.specs.Deliver.{message_delivery, read_delivery, heard_delivery, delivery}
use Rattle.campaign_server.specs.Asking.{request_at, request_of}
use Rattle.campaign_server.specs.Answers.{stage_after, stage_after_all}
use Rattle.campaign_server.specs.Fragments.{next_fragment, after_fragment}
use Rattle.campaign_server.specs.Time.{time_answer}
use Rattle.campaign_server.specs.Uplinks.{read_uplink, uplink_step}
use Rattle.script_lines.specs.Ranges.{in_range}
use Rattle.script_lines.specs.declared.forms.Form.TheVariants.{Ask, Frag, Down, Up}
use Rattle.campaign_world.specs.Causes.{form_cause, cause_of}
use Rattle.campaign_world.specs.Making.{with_device, after_form}
use Rattle.campaign_world.specs.Script.{read_line, read_lines}
use Rattle.campaign_world.specs.World.{WorldState, first_world}
use Rattle.campaign_world.specs.Said.{Own, Line}
use Rattle.exchange_laws.specs.WorkedExchange.{worked_plan, after_lines, WorkedExchange}

asked_lines : List Line
asked_lines = worked_plan ++ Ok (Own (Ask 1)) ∷ []

brought_lines : List Line
brought_lines = Ok (Own (Ask 1)) ∷ Ok (Own Frag) ∷ Ok (Own (Down 1 1 0)) ∷ []

answered_lines : List Line
answered_lines = Ok (Own (Down 2 1 7)) ∷ Ok (Own Frag) ∷ []

pub worked_exchange : WorkedExchange
unfolding asked_lines brought_lines answered_lines read_lines read_line cause_of form_cause in_range after_form with_device next_fragment after_fragment request_of request_at is_for lowest_of highest_of further format_of firmware_of number_at uplink_step read_uplink reading_of read_from command_at named_at stop_at is_known sync.is_known sync.samples cast.is_known cast.samples clock_up clock_down firmware_up firmware_down fragment_up fragment_down group_up group_down stage_after_all stage_after time_answer delivery heard_delivery read_delivery message_delivery after_due_reboot hears after_commands step command_step after_answers version_step
worked_exchange =
    let asked : WorldState = after_lines (first_world worked_image) asked_lines in
    let brought : WorldState = after_lines asked brought_lines in
    let answered : WorldState = after_lines brought answered_lines in
    record {
      after = after_lines answered (Ok (Own (Up 2)) ∷ []);
      one = record {
        first = asked_lines;
        second = Ok (Own Frag) ∷ Ok (Own (Down 1 1 0)) ∷ [];
        third = Ok (Own Frag) ∷ [];
        word = 7;
        asked = asked;
        brought = brought;
        answered = answered;
        lines_are = refl;
        before_it = refl;
        sent = refl;
        reached = refl;
        came = refl;
        something = refl;
        device = _;
        there = refl;
        hears_it = refl;
        whole = λ at. absurd cc;
      };
    }
