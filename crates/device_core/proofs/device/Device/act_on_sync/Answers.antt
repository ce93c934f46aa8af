use Rattle.device_core.specs.Step.{command_step}
use Rattle.device_core.proofs.device.Device.act_on_sync.Goals as goal

pub returns-in-PackageVersionReq : goal.returns-in-PackageVersionReq
unfolding command_step
returns-in-PackageVersionReq g c = rw c.in-PackageVersionReq.is c.sync_package.ensures
