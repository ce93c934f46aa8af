-- What acts where it comes by multicast (this project's profile).
use Rattle.std.specs.Prelude.{◌≡◌, ◌⊎◌, ◌↔◌, ℕ, Bool, true, false, List}
use Rattle.frag_session.specs.declared.answers.Via.TheVariants as via
use Rattle.package_grammar.specs.declared.command.Command.{Command}
use Rattle.package_grammar.specs.declared.command.Command.TheVariants.{Cast}
use Rattle.cast_wire.specs.declared.cmd.Cmd.TheVariants.{DataFragment, FragSessionStatusReq}
use Rattle.device_core.specs.declared.arrival.Arrival.{Arrival}
use Rattle.device_core.specs.Device.{DeviceState}
use Rattle.device_core.specs.Answers.{no_answer}
use Rattle.device_core.specs.Step.{acts, command_step, step}

-- a DataFragment
pub record IsFragment (command : Command) : Type 0 where
  pub index : ℕ
  pub n : ℕ
  pub part : List ℕ
  pub is : command ≡ Cast (DataFragment index n part)

-- a FragSessionStatusReq
pub record IsStatusRequest (command : Command) : Type 0 where
  pub index : ℕ
  pub all : Bool
  pub is : command ≡ Cast (FragSessionStatusReq index all)

pub record MulticastActs : Type 0 where
  -- by a group these two act, and no other
  pub exact : (group : ℕ) (command : Command)
      → (acts (via.Group group) command ≡ true) ↔ (IsFragment command ⊎ IsStatusRequest command)
  -- by unicast all act
  pub unicast : (command : Command) → acts via.Unicast command ≡ true
  -- what acts makes its step, and what does not is skipped without an answer
  pub acting : (here : Arrival) (device : DeviceState) (command : Command) → acts here.via command ≡ true
      → step here device command ≡ command_step here device command
  pub skipped : (here : Arrival) (device : DeviceState) (command : Command) → acts here.via command ≡ false
      → step here device command ≡ no_answer device
