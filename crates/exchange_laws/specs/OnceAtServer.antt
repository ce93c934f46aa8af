-- An uplink that has moved a device's stage moves none when it comes again: of a server alone, whatever calls come between (this
-- project's profile).
use Rattle.std.specs.Prelude.{◌≡◌, ◌≢◌, ℕ, List, Some}
use Rattle.image_slots.specs.Image.{firmware_of}
use Rattle.sync_wire.specs.declared.cmd.Cmd.TheVariants.{DevVersionAns}
use Rattle.package_grammar.specs.declared.command.Command.TheVariants.{Sync}
use Rattle.device_core.specs.declared.uplink.Uplink.{Uplink}
use Rattle.device_core.specs.Sendable.{IsUplink}
use Rattle.campaign_server.specs.declared.stage.Request.TheVariants.{Version}
use Rattle.campaign_server.specs.declared.stage.Stage.TheVariants.{At}
use Rattle.campaign_server.specs.Counts.{Call}
use Rattle.campaign_server.specs.Restarts.{after_calls}
use Rattle.campaign_server.specs.Server.{ServerState, ledger}
use Rattle.exchange_laws.specs.Exchange.{after_uplink}

-- a device whose version is asked for first does not tell that of the image: else the same words tell it twice, first what it ran
-- and at the check what it runs
abbrev pub TellsAnother : ServerState → (dev : ℕ) → (uplink : Uplink) → IsUplink uplink → Type 0
TellsAnother server dev uplink is = ledger server dev ≡ Some (At Version) → (hardware : ℕ)
    → is.command ≡ Sync (DevVersionAns (firmware_of server.image) hardware) → ⊥

-- for any server, any uplink that a device makes, and any calls between
abbrev pub MovesOnceAtServer : Type 0
MovesOnceAtServer = (server : ServerState) (dev came again : ℕ) (uplink : Uplink) (calls : List Call) (is : IsUplink uplink)
    → TellsAnother server dev uplink is → (after_uplink server dev came uplink).stages ≢ server.stages
    → let later = after_calls (after_uplink server dev came uplink) calls in
    (after_uplink later dev again uplink).stages ≡ later.stages
