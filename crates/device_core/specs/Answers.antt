-- How a payload comes to a device, and what a command makes there: the device after it, and its answers.
use Rattle.std.specs.Prelude.{ℕ, List, [], ◌∷◌, ◌++◌, map, Option, Some}
use Rattle.device_core.specs.declared.arrival.Arrival.{Arrival}
use Rattle.package_grammar.specs.declared.command.Command.{Command}
use Rattle.package_grammar.specs.Grammar.{canonical}
use Rattle.device_core.specs.declared.uplink.Uplink.{Uplink}
use Rattle.device_core.specs.declared.uplink.Answer.{Answer}
use Rattle.device_core.specs.Device.{DeviceState}

-- the device after a command, and its answers
pub record DeviceStep : Type 0 where
  pub device : DeviceState
  pub answers : List Answer

-- it goes without an answer
abbrev pub no_answer : DeviceState → DeviceStep
no_answer device = record { device = device; answers = [] }

-- the answer to a command: at once, on the port that it came on
abbrev pub answer_at_once : Arrival → Command → Answer
answer_at_once here command = record { due = here.moment.t; port = here.port; command = command }

-- it goes with one answer, at once
abbrev pub one_answer : Arrival → DeviceState → Command → DeviceStep
one_answer here device command = record { device = device; answers = answer_at_once here command ∷ [] }

-- ---- the outbox

-- an answer as it is sent: its bytes, with reserved bits 0
abbrev pub uplink_of : Answer → Uplink
uplink_of answer = record { due = answer.due; port = answer.port; payload = canonical answer.command }

-- when the uplink made last is due: of several answers, the last one
abbrev pub due_after : Option ℕ → List Answer → Option ℕ
due_after last [] = last
due_after last (answer ∷ answers) = due_after (Some answer.due) answers

-- the answers are in the outbox after what was there
unfoldable pub after_answers : DeviceStep → DeviceState
after_answers step = record step.device {
  outbox = step.device.outbox ++ map uplink_of step.answers;
  last_due = due_after step.device.last_due step.answers;
}
