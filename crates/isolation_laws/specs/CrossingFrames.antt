-- A payload of one campaign that reaches a device of the other on the air is heard as the payload itself would be (this project's
-- profile): the device hears no group with that address.
use Rattle.std.specs.Prelude.{◌≡◌, ℕ, List, ◌∷◌, ◌++◌, Some, Ok}
use Rattle.wire_base.specs.Numbered.{numbered}
use Rattle.script_lines.specs.declared.forms.Campaign.{Campaign}
use Rattle.script_lines.specs.declared.forms.PairForm.{PairForm}
use Rattle.script_lines.specs.PairForms.{pair_form_of}
use Rattle.device_core.specs.Device.{DeviceState}
use Rattle.device_core.specs.Events.{Receives, HearsBytes, event_step}
use Rattle.campaign_server.specs.Framing.{frame_for}
use Rattle.campaign_world.specs.declared.numbered.SentPayload.{SentPayload}
use Rattle.pair_run.specs.declared.targets.Way.TheVariants as way
use Rattle.pair_run.specs.Targets.{Across}
use Rattle.pair_run.specs.Pair.{PairState, first_pair, side, other}
use Rattle.pair_run.specs.PairCauses.{target_in}
use Rattle.pair_run.specs.PairScript.{read_pair_lines}
use Rattle.isolation_laws.specs.Isolation.{IsScriptOfTwo}

-- a line of an accepted script by which a payload of a campaign reaches a device of the other on the air, and the lines before it
pub record CrossesOnAir (x : Campaign) (image_a image_b : List ℕ) (before after : List (List ℕ)) (line : List ℕ) (pair so_far : PairState)
    (sent : SentPayload) (device : DeviceState) : Type 0 where
  pub script : IsScriptOfTwo image_a image_b (before ++ line ∷ after) pair
  pub read : read_pair_lines (Ok (first_pair image_a image_b)) before ≡ Ok so_far
  pub pair_form : PairForm
  pub number : ℕ
  pub id : ℕ
  pub word : ℕ
  pub spells : pair_form_of line ≡ Some pair_form
  pub says : target_in so_far pair_form ≡ Across x way.Air number id word
  pub sent_is : numbered (side so_far x).sent number ≡ Some sent
  pub device_is : numbered (side so_far (other x)).devices id ≡ Some device

-- its frame does to the device what the payload does
abbrev pub FramesCrossInScripts : Type 0
FramesCrossInScripts = (x : Campaign) (image_a image_b : List ℕ) (before after : List (List ℕ)) (line : List ℕ) (pair so_far : PairState)
    (sent : SentPayload) (device : DeviceState) → CrossesOnAir x image_a image_b before after line pair so_far sent device
    → (t word mark : ℕ)
    → event_step device (HearsBytes t word mark (frame_for (side so_far x).server.plan.group sent.down))
    ≡ event_step device (Receives t word mark sent.down)
