-- What the server sends to all devices: fragments, and status requests (TS004-1.0.0; this project's profile).
use Rattle.std.specs.Prelude.{ℕ, ◌+◌, Bool, false, ◌==◌, nat_lt, if◌then◌else◌, length, Option, Some, None, Result, Ok, Err, is_some, is_ok}
use Rattle.frag_encoder.specs.Encoding.{nb_frag_of, data_of}
use Rattle.cast_wire.specs.declared.cmd.Cmd.TheVariants.{DataFragment, FragSessionStatusReq}
use Rattle.package_grammar.specs.declared.command.Command.TheVariants.{Cast}
use Rattle.package_grammar.specs.declared.downlink.To.{To}
use Rattle.package_grammar.specs.declared.downlink.To.TheVariants as to
use Rattle.campaign_server.specs.declared.plan.PlanGroup.{PlanGroup}
use Rattle.campaign_server.specs.declared.fragments.Spent.{Spent}
use Rattle.campaign_server.specs.declared.fragments.Spent.TheVariants.{Fragments, Counts}
use Rattle.campaign_server.specs.Server.{ServerState, DownlinkCommand}

-- ---- to whom

-- the group, with the next count; without one as unicast, to any device
abbrev pub receivers : Option PlanGroup → (count : ℕ) → To
receivers None count = to.Unicast
receivers (Some group) count = to.Group group.addr count

-- the group's counts end before its MAX
abbrev pub has_no_count : Option PlanGroup → (count : ℕ) → Bool
has_no_count None count = false
has_no_count (Some group) count = count == group.max

-- a group's payload takes a frame count
abbrev pub next_count : Option PlanGroup → (count : ℕ) → ℕ
next_count None count = count
next_count (Some group) count = count + 1

-- the server after a payload to all
abbrev pub after_count : ServerState → ServerState
after_count server = record server { count = next_count server.plan.group server.count }

-- ---- fragments

-- 1 to M, and as many coded ones as the plan says
abbrev pub last_fragment : ServerState → ℕ
last_fragment server = nb_frag_of (length server.image) server.plan.frag_size + server.plan.parity

-- the next fragment: none is left, no count is left, or it goes to the group, or to whom the caller brings it
unfoldable pub next_fragment : ServerState → Result DownlinkCommand Spent
next_fragment server =
    if nat_lt (last_fragment server) server.next then Err Fragments
    else if has_no_count server.plan.group server.count then Err Counts
    else Ok (record {
      to = receivers server.plan.group server.count;
      command = Cast (DataFragment server.plan.index server.next
          (data_of server.image server.plan.frag_size server.next));
    })

-- neither its number nor its count is used again
unfoldable pub after_fragment : ServerState → ServerState
after_fragment server = if is_ok (next_fragment server) then after_count (record server { next = server.next + 1 }) else server

-- ---- status requests, answered by devices that miss a fragment

-- FragSessionStatusReq to all devices of the group, as long as a count is left
unfoldable pub status_to_all : ServerState → Option DownlinkCommand
status_to_all server =
    if has_no_count server.plan.group server.count then None
    else Some (record {
      to = receivers server.plan.group server.count;
      command = Cast (FragSessionStatusReq server.plan.index false);
    })

unfoldable pub after_status_to_all : ServerState → ServerState
after_status_to_all server = if is_some (status_to_all server) then after_count server else server
