-- An exchange moves a device's stage as its answer says, and a device that suits is led on (this project's profile).
use Rattle.std.specs.Prelude.{◌≡◌, ℕ, ◌^◌, ◌<◌, ◌≤◌, [], ◌∷◌, length, Some, None}
use Rattle.image_slots.specs.Image.{firmware_of}
use Rattle.package_grammar.specs.declared.command.Command.{Command}
use Rattle.device_core.specs.declared.uplink.Uplink.{Uplink}
use Rattle.device_core.specs.Answers.{one_answer}
use Rattle.device_core.specs.Device.{DeviceState, outbox_size}
use Rattle.device_core.specs.Sendable.{IsSendable}
use Rattle.device_core.specs.Step.{command_step, weight}
use Rattle.campaign_server.specs.declared.stage.Request.{Request}
use Rattle.campaign_server.specs.declared.stage.Stage.{Stage}
use Rattle.campaign_server.specs.declared.stage.Stage.TheVariants.{At}
use Rattle.campaign_server.specs.Answers.{stage_after}
use Rattle.campaign_server.specs.Plan.{bad_field}
use Rattle.campaign_server.specs.Server.{ServerState, ledger, port_of}
use Rattle.exchange_laws.specs.Exchange.{IsReached, IsAsked, by_request, after_request, after_uplink}
use Rattle.exchange_laws.specs.Suits.{Suits, stage_after_request}

-- after the request the device holds one uplink, and the server that takes it is at this stage with the device
pub record MovesTo (server : ServerState) (dev came : ℕ) (after : DeviceState) (stage : Stage) : Type 0 where
  pub uplink : Uplink
  pub holds : after.outbox ≡ uplink ∷ []
  pub moved : ledger (after_uplink server dev came uplink) dev ≡ Some stage

-- a device that takes a command with this one valid answer
pub record Answers (t word mark : ℕ) (device made : DeviceState) (asked answer : Command) : Type 0 where
  pub light : weight asked ≤ outbox_size
  pub makes : command_step (by_request t word mark asked) device asked
      ≡ one_answer (by_request t word mark asked) made answer
  pub kept : made.outbox ≡ []
  pub sendable : IsSendable (port_of asked) answer

-- the numbers of a device are of their widths, as those of `Device` are
pub record HasWidths (device : DeviceState) : Type 0 where
  pub hw : device.config.hw < 2 ^ 32
  pub version : device.slots.version < 2 ^ 32

pub record ExchangesMove : Type 0 where
  -- the stage after an exchange is what the answer makes of the stage before: another one, the same, or refused with its bits
  pub exact : (server : ServerState) (dev came t word mark : ℕ) (device made : DeviceState) (asked answer : Command)
      (stage : Stage) → IsReached device t → IsAsked server dev asked → Answers t word mark device made asked answer
      → ledger server dev ≡ Some stage
      → MovesTo server dev came (after_request t word mark asked device)
      (stage_after server.plan server.image stage answer)
  -- a device that suits the request is led on
  pub leads : (server : ServerState) (dev came t word mark : ℕ) (device : DeviceState) (request : Request) (asked : Command)
      → bad_field (length server.image) server.plan ≡ None → firmware_of server.image < 2 ^ 32 → HasWidths device
      → IsReached device t → IsAsked server dev asked → ledger server dev ≡ Some (At request) → Suits request server device
      → MovesTo server dev came (after_request t word mark asked device) (stage_after_request server.plan request)
