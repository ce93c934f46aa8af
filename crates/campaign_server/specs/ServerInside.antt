-- What a server's fields keep true.
use Rattle.std.specs.Prelude.{◌≡◌, ℕ, ◌+◌, ◌^◌, ◌<◌, ◌≤◌, List, length, Option, Some, None, true}
use Rattle.frag_model.specs.Limits.{max_pieces, max_frag_size}
use Rattle.frag_encoder.specs.Encoding.{Encoding, nb_frag_of}
use Rattle.image_slots.specs.Image.{is_image}
use Rattle.campaign_server.specs.declared.plan.Kind.{Kind}
use Rattle.campaign_server.specs.declared.plan.Kind.TheVariants as kind
use Rattle.campaign_server.specs.declared.plan.PlanGroup.{PlanGroup}
use Rattle.campaign_server.specs.declared.plan.PlanWindow.{PlanWindow}
use Rattle.campaign_server.specs.declared.stage.LastStatus.{LastStatus}
use Rattle.campaign_server.specs.declared.stage.Stage.{Stage}
use Rattle.campaign_server.specs.Plan.{Plan, max_parity, max_devices, max_index}
use Rattle.campaign_server.specs.Server.{IsCount}

-- the fields of a window are within their bits
abbrev pub KindFits : Kind → Type 0
KindFits kind.C = Unit {0}
KindFits (kind.B periodicity) = periodicity < 8

abbrev pub WindowFits : Option PlanWindow → Type 0
WindowFits None = Unit {0}
WindowFits (Some window) = (window.timeout < 16) × (window.freq < 2 ^ 24) × KindFits window.kind

-- the counts of a group begin before its end, and its id is within its bits
abbrev pub GroupFits : Option PlanGroup → Type 0
GroupFits None = Unit {0}
GroupFits (Some group) = (group.min < group.max) × (group.id ≤ max_index)

-- a plan without a wrong field, for a file of this length
pub record IsPlan (len : ℕ) (plan : Plan) : Type 0 where
  pub some : 1 ≤ plan.frag_size
  pub fits : plan.frag_size ≤ max_frag_size
  pub number : nb_frag_of len plan.frag_size ≤ max_pieces
  pub few : plan.parity ≤ max_parity
  pub indexed : plan.index ≤ max_index
  pub group_fits : GroupFits plan.group
  pub window_fits : WindowFits plan.window
  pub devices : length plan.devices ≤ max_devices

-- an encoder of an image file, cut as the plan says
pub record IsCut (plan : Plan) (encoder : Encoding) : Type 0 where
  pub image_is : is_image encoder.file ≡ true
  pub fine : IsPlan (length encoder.file) plan
  pub cuts : encoder.frag_size ≡ plan.frag_size

-- each device has a stage and a place for its status, and the next fragment is one of those that are sent, or after them
pub record IsServer (plan : Plan) (encoder : Encoding) (stages : List Stage) (statuses : List (Option LastStatus))
    (next count : ℕ) : Type 0 where
  pub cut : IsCut plan encoder
  pub staged : length stages ≡ length plan.devices
  pub told : length statuses ≡ length plan.devices
  pub low : 1 ≤ next
  pub high : next ≤ nb_frag_of (length encoder.file) plan.frag_size + plan.parity + 1
  pub counted : IsCount plan.group count
