-- What the fields of a world's phases keep true.
use Rattle.std.specs.Prelude.{◌≡◌, ℕ, ◌≤◌, ◌<◌, true, List, [], length, None, is_some}
use Rattle.std.specs.List.{AllByRecursion}
use Rattle.image_slots.specs.Image.{is_image}
use Rattle.device_core.specs.Sendable.{IsUplink}
use Rattle.campaign_server.specs.Plan.{Plan, is_frag_size, is_group, is_window, max_parity, max_devices, max_index}
use Rattle.campaign_server.specs.Server.{ServerState}
use Rattle.script_lines.specs.Limits.{max_time}
use Rattle.campaign_world.specs.HeldLate.{Late}
use Rattle.campaign_world.specs.declared.numbered.NumberedUplink.{NumberedUplink}
use Rattle.campaign_world.specs.declared.section.Section.{Section}
use Rattle.campaign_world.specs.declared.section.Section.TheVariants as section

-- the plan after the image's line: it cuts the image, and its group, if there is one, has frame counts
pub record IsSized (image : List ℕ) (plan : Plan) (devices : List Late) : Type 0 where
  pub size : is_frag_size (length image) plan.frag_size ≡ true
  pub few : plan.parity ≤ max_parity
  pub indexed : plan.index ≤ max_index
  pub grouped : is_group plan.group ≡ true
  pub numbers : length plan.devices ≡ length devices
  pub count : length devices ≤ max_devices

-- a group has its window
abbrev pub IsWindowed : Plan → Type 0
IsWindowed plan = is_window plan.group plan.window ≡ true

-- nothing is planned before the image's line, and events are none of the plan's
abbrev pub IsPlanned : (image : List ℕ) → Section → Plan → List Late → Type 0
IsPlanned image section.Header plan devices = (plan.group ≡ None) × (plan.window ≡ None) × (plan.devices ≡ []) × (devices ≡ [])
IsPlanned image section.Image plan devices = (plan.group ≡ None) × (plan.window ≡ None) × (plan.devices ≡ []) × (devices ≡ [])
IsPlanned image section.Group plan devices = IsSized image plan devices × (plan.group ≡ None) × (plan.window ≡ None)
-- after a group its window must come
IsPlanned image section.Window plan devices = IsSized image plan devices × (is_some plan.group ≡ true)
IsPlanned image section.Device plan devices = IsSized image plan devices × IsWindowed plan
IsPlanned image section.Devices plan devices = IsSized image plan devices × IsWindowed plan × (1 ≤ length devices)
IsPlanned image section.Events plan devices = ⊥
IsPlanned image section.Ended plan devices = ⊥

-- what is being planned
pub record IsPlanning (image : List ℕ) (section : Section) (plan : Plan) (devices : List Late) : Type 0 where
  pub image_is : is_image image ≡ true
  pub few : length devices ≤ max_devices
  pub planned : IsPlanned image section plan devices

-- when one device more may join
pub record IsToJoin (image : List ℕ) (plan : Plan) (devices : List Late) : Type 0 where
  pub sized : IsSized image plan devices
  pub windowed : IsWindowed plan
  pub room : length devices < max_devices

-- when its server is made
pub record IsToBegin (image : List ℕ) (plan : Plan) (devices : List Late) : Type 0 where
  pub image_is : is_image image ≡ true
  pub sized : IsSized image plan devices
  pub windowed : IsWindowed plan
  pub some : 1 ≤ length devices

-- an uplink is one of a device that there is, and one command in its canonical spelling
pub record IsMadeBy (count : ℕ) (made : NumberedUplink) : Type 0 where
  pub first : 1 ≤ made.device
  pub last : made.device ≤ count
  pub single : IsUplink made.uplink

-- and all are
abbrev pub AreMadeBy : (count : ℕ) → List NumberedUplink → Type 0
AreMadeBy count uplinks = AllByRecursion (IsMadeBy count) uplinks

-- what is numbered of a device that there is leaves them so
abbrev pub StayMade : (id : ℕ) → (old new : List NumberedUplink) → Type 0
StayMade id old new = (count : ℕ) → id ≤ count → AreMadeBy count old → AreMadeBy count new

-- what plays
pub record IsCampaign (time : ℕ) (server : ServerState) (devices : List Late) (uplinks : List NumberedUplink) : Type 0 where
  pub image_is : is_image server.image ≡ true
  pub timed : time ≤ max_time
  pub few : length devices ≤ max_devices
  pub numbers : length server.plan.devices ≡ length devices
  pub made : AreMadeBy (length devices) uplinks
