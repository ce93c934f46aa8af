-- An uplink comes to the server.
use Rattle.std.specs.Prelude.{ℕ, ◌-◌, List, slice_set, Option, Some, None, Result, Ok, Err}
use Rattle.wire_base.specs.declared.refusal.Direction.TheVariants.{Up}
use Rattle.wire_base.specs.declared.refusal.Refusal.{Refusal}
use Rattle.package_grammar.specs.declared.command.Command.{Command}
use Rattle.package_grammar.specs.Reading.{Reading, reading_of}
use Rattle.campaign_server.specs.declared.stage.LastStatus.{LastStatus}
use Rattle.campaign_server.specs.declared.stage.Stage.{Stage}
use Rattle.campaign_server.specs.Server.{ServerState, DownlinkCommand, ledger, last_status}
use Rattle.campaign_server.specs.Asking.{by_unicast}
use Rattle.campaign_server.specs.Answers.{stage_after_all}
use Rattle.campaign_server.specs.Statuses.{status_after_all}
use Rattle.campaign_server.specs.Time.{time_answer}

-- the server after an uplink, and what it answers
pub record UplinkStep : Type 0 where
  pub server : ServerState
  pub answer : Result (Option DownlinkCommand) Refusal

-- what a device said; nothing of one that is not there
abbrev pub told_or_none : Option (Option LastStatus) → Option LastStatus
told_or_none None = None
told_or_none (Some told) = told

-- the device's stage after the commands, and what it said last
abbrev pub with_answers : ServerState → (dev : ℕ) → List Command → Option Stage → ServerState
with_answers server dev cs None = server
with_answers server dev cs (Some stage) =
    let told = told_or_none (last_status server dev) in
    record server {
      stages = slice_set server.stages (dev - 1) (stage_after_all server.plan server.image stage cs);
      statuses = slice_set server.statuses (dev - 1) (status_after_all server.plan told cs);
    }

-- commands move the device's stage, and ask for the time; a refused payload changes nothing
unfoldable pub read_uplink : ServerState → (dev t : ℕ) → Reading → UplinkStep
read_uplink server dev t (Ok cs) =
    record { server = with_answers server dev cs (ledger server dev); answer = Ok (by_unicast (time_answer t cs)) }
read_uplink server dev t (Err refusal) = record { server = server; answer = Err refusal }

-- an uplink: a payload that is no message changes nothing
unfoldable pub uplink_step : ServerState → (dev port : ℕ) → List ℕ → (t : ℕ) → UplinkStep
uplink_step server dev port payload t = read_uplink server dev t (reading_of port Up payload)
