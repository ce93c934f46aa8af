-- A server's fields, read from any bytes.
use Rattle.std.specs.Prelude.{ℕ, ◌+◌, ◌-◌, ◌*◌, Bool, ◌&&◌, ◌==◌, nat_le, nat_lt, if◌then◌else◌, List, length, map, slice_index, Option, Some, None}
use Rattle.std.specs.List.{range_with_len}
use Rattle.campaign_server.specs.declared.plan.PlanGroup.{PlanGroup}
use Rattle.campaign_server.specs.declared.server.ServerError.{ServerError}
use Rattle.campaign_server.specs.declared.server.ServerError.TheVariants as new
use Rattle.campaign_server.specs.declared.saving.RestoreError.{RestoreError}
use Rattle.campaign_server.specs.declared.saving.RestoreError.TheVariants as restored
use Rattle.campaign_server.specs.declared.stage.LastStatus.{LastStatus}
use Rattle.campaign_server.specs.declared.stage.Stage.{Stage}
use Rattle.campaign_server.specs.declared.stage.Stage.TheVariants.{At, Updated, Refused}
use Rattle.campaign_server.specs.declared.stage.Request.{Request}
use Rattle.campaign_server.specs.declared.stage.Request.TheVariants.{Version, Group, Fragments, Window, Status, Image, Reboot, Check}
use Rattle.wire_base.specs.Numbers.{number_at}
use Rattle.campaign_server.specs.Server.{ServerState}
use Rattle.campaign_server.specs.Fragments.{last_fragment}

-- the error of restore, from that of new
abbrev pub restore_error : ServerError → RestoreError
restore_error new.Memory = restored.Memory
restore_error (new.BadPlan field) = restored.BadPlan field

abbrev pub request_of : (byte : ℕ) → Request
request_of byte =
    if byte == 0 then Version
    else if byte == 1 then Group
    else if byte == 2 then Fragments
    else if byte == 3 then Window
    else if byte == 4 then Status
    else if byte == 5 then Image
    else if byte == 6 then Reboot
    else Check

-- the stage that these two bytes spell; of any others some stage
abbrev pub stage_of : (byte bits : ℕ) → Stage
stage_of byte bits =
    if nat_lt byte 8 then At (request_of byte)
    else if nat_lt byte 16 then Updated
    else Refused (request_of (byte - 16)) bits

-- that of device k, counted from 0
unfoldable pub stage_at : List ℕ → (k : ℕ) → Stage
stage_at bytes k = stage_of (slice_index bytes (12 + 2 * k)) (slice_index bytes (13 + 2 * k))

-- those of so many devices
abbrev pub stages_in : List ℕ → (number : ℕ) → List Stage
stages_in bytes number = map (λ k. stage_at bytes k) (range_with_len 0 number)

-- the status that these four bytes spell; of any others some status
abbrev pub status_of : (flags low high missing : ℕ) → Option LastStatus
status_of flags low high missing =
    if flags == 0 then None
    else Some (record { received = low + 256 * high; missing = missing; norows = nat_lt 1 flags })

-- that of device k, counted from 0, of so many
unfoldable pub status_at : List ℕ → (number k : ℕ) → Option LastStatus
status_at bytes number k =
    let at = 12 + 2 * number + 4 * k in
    status_of (slice_index bytes at) (slice_index bytes (at + 1)) (slice_index bytes (at + 2)) (slice_index bytes (at + 3))

abbrev pub statuses_in : List ℕ → (number : ℕ) → List (Option LastStatus)
statuses_in bytes number = map (λ k. status_at bytes number k) (range_with_len 0 number)

-- the group's next frame count can be this
abbrev pub is_count : Option PlanGroup → (count : ℕ) → Bool
is_count None count = count == 0
is_count (Some group) count = nat_le group.min count && nat_le count group.max

-- the fields are there, and the numbers within what a server's are
abbrev pub fits : ServerState → List ℕ → Bool
fits server bytes =
    nat_le (12 + 6 * length server.stages) (length bytes)
    && nat_le 1 (number_at bytes 5 2) && nat_le (number_at bytes 5 2) (last_fragment server + 1)
    && is_count server.plan.group (number_at bytes 7 4)

-- the server with the fields
abbrev pub told_of : ServerState → List ℕ → ServerState
told_of server bytes = record server {
  stages = stages_in bytes (length server.stages);
  statuses = statuses_in bytes (length server.stages);
  next = number_at bytes 5 2;
  count = number_at bytes 7 4;
}
