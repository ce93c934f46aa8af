-- What a server keeps of a device's last FragSessionStatusAns, worked out.
use Rattle.std.specs.Prelude.{◌≡◌, true, false, List, ℕ, [], ◌∷◌, Option, Some, None}
use Rattle.campaign_server.specs.declared.stage.LastStatus.{LastStatus}
use Rattle.campaign_server.specs.declared.stage.Stage.TheVariants.{At}
use Rattle.campaign_server.specs.declared.stage.Request.TheVariants.{Version, Status}
use Rattle.campaign_server.specs.Server.{ServerState, first_server}
use Rattle.campaign_server.specs.Uplinks.{uplink_step}
use Rattle.campaign_server.specs.WorkedSteps.{image, alone, elsewhere, two_devices, at_stage, versions}

abbrev pub tells : ServerState → (dev port : ℕ) → List ℕ → List (Option LastStatus)
tells server dev port payload = (uplink_step server dev port payload 0).server.statuses

-- 0x1234 fragments heard, 0x56 pieces missing
abbrev pub told : LastStatus
told = record { received = 0x1234; missing = 0x56; norows = false }

abbrev pub after_told : ServerState
after_told = record (at_stage alone (At Status)) { statuses = Some told ∷ [] }

pub record StatusSteps : Type 0 where
  pub kept : tells (at_stage alone (At Status)) 1 201 (0x01 ∷ 0x34 ∷ 0x12 ∷ 0x56 ∷ 0x00 ∷ []) ≡ Some told ∷ []
  -- at any stage, and with too little memory
  pub early : tells (at_stage alone (At Version)) 1 201 (0x01 ∷ 0x34 ∷ 0x12 ∷ 0x56 ∷ 0x01 ∷ [])
      ≡ Some (record told { norows = true }) ∷ []
  pub whole : tells (at_stage alone (At Status)) 1 201 (0x01 ∷ 0xff ∷ 0x3f ∷ 0x00 ∷ 0x00 ∷ [])
      ≡ Some (record { received = 16383; missing = 0; norows = false }) ∷ []
  -- only of the plan's session
  pub other_index : tells after_told 1 201 (0x01 ∷ 0x04 ∷ 0x40 ∷ 0x03 ∷ 0x00 ∷ []) ≡ Some told ∷ []
  pub own_index : tells (at_stage elsewhere (At Status)) 1 201 (0x01 ∷ 0x04 ∷ 0x80 ∷ 0x03 ∷ 0x00 ∷ [])
      ≡ Some (record { received = 4; missing = 3; norows = false }) ∷ []
  pub lower_index : tells (at_stage elsewhere (At Status)) 1 201 (0x01 ∷ 0x04 ∷ 0x40 ∷ 0x03 ∷ 0x00 ∷ []) ≡ None ∷ []
  -- the last of several, and another command changes nothing
  pub last : tells after_told 1 201 (0x01 ∷ 0x04 ∷ 0x00 ∷ 0x03 ∷ 0x00 ∷ 0x01 ∷ 0x05 ∷ 0x00 ∷ 0x02 ∷ 0x00 ∷ [])
      ≡ Some (record { received = 5; missing = 2; norows = false }) ∷ []
  pub other_command : tells after_told 1 203 (versions 0 1) ≡ Some told ∷ []
  pub refused : tells after_told 1 201 (0x01 ∷ 0x04 ∷ 0x00 ∷ 0x03 ∷ []) ≡ Some told ∷ []
  -- only of the device that sent it
  pub second : tells (first_server image two_devices) 2 201 (0x01 ∷ 0x34 ∷ 0x12 ∷ 0x56 ∷ 0x00 ∷ []) ≡ None ∷ Some told ∷ []
