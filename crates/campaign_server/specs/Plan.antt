-- What a server has to do, and which field of it is wrong (this project's profile).
use Rattle.std.specs.Prelude.{ℕ, ◌^◌, Bool, true, false, ◌&&◌, not, nat_le, nat_lt, if◌then◌else◌, List, length, Option, Some, None}
use Rattle.frag_model.specs.Limits.{max_pieces, max_frag_size}
use Rattle.frag_encoder.specs.Encoding.{nb_frag_of}
use Rattle.campaign_server.specs.declared.plan.PlanGroup.{PlanGroup}
use Rattle.campaign_server.specs.declared.plan.PlanWindow.{PlanWindow}
use Rattle.campaign_server.specs.declared.plan.PlanDevice.{PlanDevice}
use Rattle.campaign_server.specs.declared.plan.Kind.{Kind}
use Rattle.campaign_server.specs.declared.plan.Kind.TheVariants as kind
use Rattle.campaign_server.specs.declared.plan.Field.{Field}
use Rattle.campaign_server.specs.declared.plan.Field.TheVariants.{FragSize, Parity, Index, Group, Window, Devices}

-- how the image is cut and how many coded fragments follow; the index of its session, the same on every device; the group with
-- its window, or neither; the devices in order
pub record Plan : Type 0 where
  pub frag_size : ℕ
  pub parity : ℕ
  pub index : ℕ
  pub group : Option PlanGroup
  pub window : Option PlanWindow
  pub devices : List PlanDevice

-- the id of the group that there is; without one no command that has an id is sent, and none is taken
abbrev pub own_id : Option PlanGroup → ℕ
own_id None = 0
own_id (Some group) = group.id

-- the most coded fragments, and the most devices
abbrev pub max_parity : ℕ
max_parity = 512

abbrev pub max_devices : ℕ
max_devices = 64

-- the last index of a session, and the last id of a group
abbrev pub max_index : ℕ
max_index = 3

-- ---- wrong fields

-- so many bytes a fragment cut a file of this length into at most 4,096 fragments
abbrev pub is_frag_size : (len frag_size : ℕ) → Bool
is_frag_size len frag_size = nat_le 1 frag_size && nat_le frag_size max_frag_size && nat_le (nb_frag_of len frag_size) max_pieces

-- a group has a count to send with
abbrev pub is_group : Option PlanGroup → Bool
is_group None = true
is_group (Some group) = nat_lt group.min group.max && nat_le group.id max_index

-- a class B session has a periodicity of the standard
abbrev pub is_kind : Kind → Bool
is_kind kind.C = true
is_kind (kind.B periodicity) = nat_le periodicity 7

-- each field within its bits
abbrev pub fits_bits : PlanWindow → Bool
fits_bits window =
    is_kind window.kind && nat_lt window.start (2 ^ 32) && nat_le window.timeout 15 && nat_lt window.freq (2 ^ 24)
    && nat_le window.dr 255

-- a group has a window within its bits, and there is none without a group
abbrev pub is_window : Option PlanGroup → Option PlanWindow → Bool
is_window None None = true
is_window None (Some window) = false
is_window (Some group) None = false
is_window (Some group) (Some window) = fits_bits window

-- the first field that is wrong, for an image of this length
unfoldable pub bad_field : (len : ℕ) → Plan → Option Field
bad_field len plan =
    if not (is_frag_size len plan.frag_size) then Some FragSize
    else if nat_lt max_parity plan.parity then Some Parity
    else if nat_lt max_index plan.index then Some Index
    else if not (is_group plan.group) then Some Group
    else if not (is_window plan.group plan.window) then Some Window
    else if not (nat_le 1 (length plan.devices) && nat_le (length plan.devices) max_devices) then Some Devices
    else None
