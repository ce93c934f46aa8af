use Rattle.std.proofs.Common.{refl}
use Rattle.mc_keys.specs.Keys.{mc_ke_key}
use Rattle.mc_keys.specs.Roots.{root_of}
use Rattle.campaign_server.proofs.Wrapping.{wrapped_is}
use Rattle.campaign_server.proofs.laws.a_device_unwraps_the_key.Goals as goal

pub returns : goal.returns
returns c = λ device block group is unwraps only. rw (wrapped_is (mc_ke_key (root_of device.root device.key)) group.key block is unwraps only) refl
