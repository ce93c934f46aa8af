-- An answer moves its own stage, and only once: ranks of stages, and which answers are past.
use Rattle.std.specs.Prelude.{◌≡◌, ◌≢◌, ℕ, ◌^◌, ◌<◌, true, List, [], ◌∷◌, All, Some, Ok}
use Rattle.wire_base.specs.declared.refusal.Direction.TheVariants.{Up as Upwards}
use Rattle.image_slots.specs.Image.{is_image}
use Rattle.cast_wire.specs.declared.cmd.Cmd.TheVariants.{McGroupSetupAns, FragSessionSetupAns, McClassCSessionAns, McClassBSessionAns, FragSessionStatusAns}
use Rattle.sync_wire.specs.declared.cmd.Cmd.TheVariants.{DevVersionAns, DevUpgradeImageAns, DevRebootCountdownAns}
use Rattle.package_grammar.specs.declared.command.Command.{Command}
use Rattle.package_grammar.specs.declared.command.Command.TheVariants.{Sync, Cast}
use Rattle.package_grammar.specs.Reading.{reading_of}
use Rattle.campaign_server.specs.declared.stage.Stage.{Stage}
use Rattle.campaign_server.specs.declared.stage.Stage.TheVariants.{At, Updated, Refused}
use Rattle.campaign_server.specs.Plan.{Plan}
use Rattle.wire_base.specs.Numbered.{numbered}
use Rattle.campaign_server.specs.Asking.{request_rank}
use Rattle.campaign_server.specs.Answers.{stage_after}
use Rattle.script_lines.specs.declared.forms.Form.TheVariants.{Up}
use Rattle.campaign_world.specs.declared.numbered.NumberedUplink.{NumberedUplink}
use Rattle.campaign_world.specs.World.{WorldState, first_world}
use Rattle.campaign_world.specs.Said.{Own, Line}
use Rattle.campaign_world.specs.Honest.{AreHonest}
use Rattle.campaign_world.specs.Making.{after_up}
use Rattle.campaign_world.specs.Script.{read_lines}
use Rattle.campaign_laws.specs.Fields.{AllFit}

-- how far a device is: its request's place in the order of a campaign
abbrev pub rank : Stage → ℕ
rank (At request) = request_rank request
rank Updated = 8
rank (Refused request bits) = 8

-- how far the last stage is that an answer can move: that of DevVersionAns is past once check is
abbrev pub last_moved : Command → ℕ
last_moved (Sync (DevVersionAns firmware hardware)) = 7
last_moved (Cast (McGroupSetupAns id error)) = 1
last_moved (Cast (FragSessionSetupAns index descriptor unsupported memory encoding)) = 2
last_moved (Cast (McClassCSessionAns id undefined freq dr start)) = 3
last_moved (Cast (McClassBSessionAns id undefined freq dr start)) = 3
last_moved (Cast (FragSessionStatusAns index received missing norows)) = 4
last_moved (Sync (DevUpgradeImageAns status next)) = 5
last_moved (Sync (DevRebootCountdownAns count)) = 6
last_moved command = 0

-- an answer to a past stage moves none
abbrev pub PastMovesNone : Type 0
PastMovesNone = (plan : Plan) (image : List ℕ) (stage : Stage) (command : Command) → last_moved command < rank stage
    → stage_after plan image stage command ≡ stage

-- an uplink of one command that has moved a stage moves none when it comes again, whatever lines came between; the lines before
-- it are honest
abbrev pub MovesOnce : Type 0
MovesOnce = (image : List ℕ) (line : Line) (before between : List Line) (number : ℕ) (world later : WorldState) (made : NumberedUplink) (command : Command)
    → All (λ b. b < 2 ^ 8) image → is_image image ≡ true
    → AllFit world.server.plan.index before → AreHonest world.server.plan.index before → read_lines (Ok (first_world image)) before ≡ Ok world → line ≡ Ok (Own (Up number))
    → read_lines (Ok world) (line ∷ between) ≡ Ok later → numbered world.uplinks number ≡ Some made
    → reading_of made.uplink.port Upwards made.uplink.payload ≡ Ok (command ∷ [])
    → (after_up world (numbered world.uplinks number)).server.stages ≢ world.server.stages
    → (after_up later (numbered later.uplinks number)).server.stages ≡ later.server.stages
