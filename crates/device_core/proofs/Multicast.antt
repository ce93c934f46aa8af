-- What acts by multicast, by going over the commands.
use Rattle.std.proofs.Common.{◌≡◌, ◌⊎◌, inl, inr, ℕ, true, false, refl}
use Rattle.frag_session.specs.declared.answers.Via.TheVariants as via
use Rattle.package_grammar.specs.declared.command.Command.{Command}
use Rattle.package_grammar.specs.declared.command.Command.TheVariants.{Cast}
use Rattle.cast_wire.specs.declared.cmd.Cmd.TheVariants as c
use Rattle.device_core.specs.declared.arrival.Arrival.{Arrival}
use Rattle.device_core.specs.Device.{DeviceState}
use Rattle.device_core.specs.Answers.{no_answer}
use Rattle.device_core.specs.Step.{acts, command_step, step}
use Rattle.device_core.specs.Multicast.{IsFragment, IsStatusRequest, MulticastActs}

only : (group : ℕ) (command : Command) → acts (via.Group group) command ≡ true
    → IsFragment command ⊎ IsStatusRequest command
only group (Cast (c.DataFragment index n part)) is =
    inl (record { index = index; n = n; part = part; is = refl })
only group (Cast (c.FragSessionStatusReq index all)) is = inr (record { index = index; all = all; is = refl })
only group command is = absurd cc

both : (group : ℕ) (command : Command) → IsFragment command ⊎ IsStatusRequest command
    → acts (via.Group group) command ≡ true
both group command (inl f) = rw f.is refl
both group command (inr r) = rw r.is refl

acted : (here : Arrival) (device : DeviceState) (command : Command) → acts here.via command ≡ true
    → step here device command ≡ command_step here device command
unfolding step
acted here device command is = rw is refl

left : (here : Arrival) (device : DeviceState) (command : Command) → acts here.via command ≡ false
    → step here device command ≡ no_answer device
unfolding step
left here device command is = rw is refl

pub multicast_acts : MulticastActs
multicast_acts = record {
  exact = λ group command. (only group command, both group command);
  unicast = λ command. refl;
  acting = acted;
  skipped = left;
}
