-- What a server knows, as bytes (this project's profile). They have neither plan nor image: the digest after them says to which
-- they belong. Numbers of several bytes have the lowest first.
--    0  FUSS, and the format, 1
--    5  the number of the fragment that is sent next, of 2 bytes
--    7  the group's next frame count, of 4 bytes; without a group 0
--   11  the number of devices
--   12  two bytes a device: its stage, and the bits of a refusal, else 0
-- then  four bytes a device: 1 where it told its status, 3 where it had too little memory too, else 0; the fragments that it
--       heard, of 2 bytes; the pieces that it missed
-- then  SHA-256 of all before it, the plan and the image, 32 bytes
use Rattle.std.specs.Prelude.{◌≡◌, ℕ, ◌+◌, ◌/◌, ◌%◌, ◌^◌, ◌<◌, ◌≤◌, List, [], ◌∷◌, ◌++◌, length, codes, Option, Some, None}
use Rattle.std.specs.List.{flat_map}
use Rattle.sha2.specs.Sha256.{sha256}
use Rattle.wire_base.specs.Numbers.{number_bytes, flag_value}
use Rattle.mc_keys.specs.declared.root_kind.RootKind.{RootKind}
use Rattle.mc_keys.specs.declared.root_kind.RootKind.TheVariants.{V10, V11}
use Rattle.campaign_server.specs.declared.plan.PlanGroup.{PlanGroup}
use Rattle.campaign_server.specs.declared.plan.PlanWindow.{PlanWindow}
use Rattle.campaign_server.specs.declared.plan.PlanDevice.{PlanDevice}
use Rattle.campaign_server.specs.declared.plan.Kind.{Kind}
use Rattle.campaign_server.specs.declared.plan.Kind.TheVariants as kind
use Rattle.campaign_server.specs.declared.stage.LastStatus.{LastStatus}
use Rattle.campaign_server.specs.declared.stage.Stage.{Stage}
use Rattle.campaign_server.specs.declared.stage.Stage.TheVariants.{At, Updated, Refused}
use Rattle.campaign_server.specs.Plan.{Plan, bad_field}
use Rattle.campaign_server.specs.Asking.{request_rank}
use Rattle.campaign_server.specs.Server.{ServerState, IsCount}
use Rattle.campaign_server.specs.Fragments.{last_fragment}

-- ---- the plan, only for the digest

abbrev pub group_bytes : Option PlanGroup → List ℕ
group_bytes None = 0 ∷ []
group_bytes (Some group) =
    1 ∷ group.id ∷ number_bytes 4 group.addr ++ group.key ++ number_bytes 4 group.min ++ number_bytes 4 group.max

-- the class, and the periodicity of class B, else 0
abbrev pub kind_bytes : Kind → List ℕ
kind_bytes kind.C = 1 ∷ 0 ∷ []
kind_bytes (kind.B periodicity) = 2 ∷ periodicity ∷ []

abbrev pub window_bytes : Option PlanWindow → List ℕ
window_bytes None = 0 ∷ []
window_bytes (Some window) =
    kind_bytes window.kind ++ number_bytes 4 window.start ++ window.timeout ∷ number_bytes 4 window.freq ++ window.dr ∷ []

-- GenAppKey of LoRaWAN 1.0, or AppKey of LoRaWAN 1.1
abbrev pub root_byte : RootKind → ℕ
root_byte V10 = 10
root_byte V11 = 11

abbrev pub device_bytes : PlanDevice → List ℕ
device_bytes device = device.key ++ root_byte device.root ∷ []

-- the plan, which goes into the digest alone
unfoldable pub plan_bytes : Plan → List ℕ
plan_bytes plan =
    plan.frag_size ∷ number_bytes 2 plan.parity ++ plan.index ∷ group_bytes plan.group ++ window_bytes plan.window
    ++ length plan.devices ∷ flat_map device_bytes plan.devices

-- ---- what is known

-- a stage: below 8 what is asked, 8 updated, from 16 on what was refused, with its bits
abbrev pub stage_bytes : Stage → List ℕ
stage_bytes (At request) = request_rank request ∷ 0 ∷ []
stage_bytes Updated = 8 ∷ 0 ∷ []
stage_bytes (Refused request bits) = (16 + request_rank request) ∷ bits ∷ []

-- the last status: its first byte says whether there is one, and whether rows were missing
abbrev pub status_bytes : Option LastStatus → List ℕ
status_bytes None = 0 ∷ 0 ∷ 0 ∷ 0 ∷ []
status_bytes (Some told) =
    (1 + flag_value told.norows 2) ∷ told.received % 256 ∷ told.received / 256 ∷ told.missing ∷ []

-- the fields before the stages
abbrev pub head_bytes : (next count devices : ℕ) → List ℕ
head_bytes next count devices = codes "FUSS" ++ 1 ∷ number_bytes 2 next ++ number_bytes 4 count ++ devices ∷ []

-- all but the digest
unfoldable pub state_bytes : ServerState → List ℕ
state_bytes server =
    head_bytes server.next server.count (length server.stages) ++ flat_map stage_bytes server.stages
    ++ flat_map status_bytes server.statuses

-- all of it
unfoldable pub saved_of : ServerState → List ℕ
saved_of server =
    let state = state_bytes server in
    state ++ sha256 (state ++ plan_bytes server.plan ++ server.image)

-- ---- of which records

-- a record that a server of this plan and image can have: a stage and a status a device, the next fragment one of those that are
-- sent or after them, and the next frame count from the group's MIN to its MAX, a number of four bytes
pub record IsOver (plan : Plan) (image : List ℕ) (server : ServerState) : Type 0 where
  pub plan_is : server.plan ≡ plan
  pub image_is : server.image ≡ image
  pub fine : bad_field (length image) plan ≡ None
  pub staged : length server.stages ≡ length plan.devices
  pub told : length server.statuses ≡ length plan.devices
  pub low : 1 ≤ server.next
  pub high : server.next ≤ last_fragment server + 1
  pub counted : IsCount plan.group server.count
  pub four_bytes : server.count < 2 ^ 32
