-- What a device said last of the campaign's session (TS004-1.0.0, FragSessionStatusAns).
use Rattle.std.specs.Prelude.{◌==◌, if◌then◌else◌, List, [], ◌∷◌, Option, Some}
use Rattle.cast_wire.specs.declared.cmd.Cmd.TheVariants.{FragSessionStatusAns}
use Rattle.package_grammar.specs.declared.command.Command.{Command}
use Rattle.package_grammar.specs.declared.command.Command.TheVariants.{Cast}
use Rattle.campaign_server.specs.declared.stage.LastStatus.{LastStatus}
use Rattle.campaign_server.specs.Plan.{Plan}

-- an answer for the plan's session is kept, at whichever stage; any other command changes nothing
abbrev pub status_after : Plan → Option LastStatus → Command → Option LastStatus
status_after plan status (Cast (FragSessionStatusAns index received missing norows)) =
    if index == plan.index then Some (record { received = received; missing = missing; norows = norows }) else status
status_after plan status command = status

-- after the commands of an uplink, one after another
unfoldable pub status_after_all : Plan → Option LastStatus → List Command → Option LastStatus
status_after_all plan status [] = status
status_after_all plan status (c ∷ cs) = status_after_all plan (status_after plan status c) cs
