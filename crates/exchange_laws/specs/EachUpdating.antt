-- A device of either of two campaigns that share a script, which suits and answers what it is asked (this project's profile): what
-- holds of one campaign holds of each, over what the lines say to it.
use Rattle.std.specs.Prelude.{◌≡◌, ℕ, true, List, Some}
use Rattle.wire_base.specs.Numbered.{numbered}
use Rattle.image_slots.specs.Image.{is_image}
use Rattle.device_core.specs.Device.{DeviceState}
use Rattle.campaign_server.specs.declared.stage.Stage.TheVariants.{Updated}
use Rattle.campaign_server.specs.Server.{ledger}
use Rattle.script_lines.specs.declared.forms.Campaign.{Campaign}
use Rattle.campaign_world.specs.World.{first_world}
use Rattle.campaign_laws.specs.Ledger.{Runs}
use Rattle.pair_run.specs.Pair.{PairState, side}
use Rattle.pair_run.specs.PairLines.{image_of}
use Rattle.pair_laws.specs.EachCampaign.{own_lines}
use Rattle.isolation_laws.specs.Isolation.{IsScriptOfTwo}
use Rattle.exchange_laws.specs.Updating.{Fits, HasExchanges, exchanges_for}

-- for any two images and any accepted script: a device of either that suits its campaign's plan and answers as many requests as that
-- campaign has is updated, and runs that campaign's image
abbrev pub EachAnswersUpdate : Type 0
EachAnswersUpdate = (x : Campaign) (image_a image_b : List ℕ) (lines : List (List ℕ)) (pair : PairState) (id : ℕ) (device : DeviceState)
    → IsScriptOfTwo image_a image_b lines pair → is_image (image_of x image_a image_b) ≡ true
    → numbered (side pair x).devices id ≡ Some device → Fits (image_of x image_a image_b) (side pair x).server.plan device.config
    → HasExchanges id (exchanges_for (side pair x).server.plan) (first_world (image_of x image_a image_b)) (own_lines x image_a image_b lines)
    → (ledger (side pair x).server id ≡ Some Updated) × Runs (image_of x image_a image_b) (side pair x).devices id
