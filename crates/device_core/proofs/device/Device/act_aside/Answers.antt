use Rattle.device_core.specs.Step.{command_step}
use Rattle.device_core.proofs.Acting.{cast_stays}
use Rattle.device_core.proofs.device.Device.act_aside.Goals as goal

pub returns-in_default : goal.returns-in_default
returns-in_default g c = cast_stays c.args.here c.args.self.now c.args.cmd.now c.requires.aside (record {
  version = c.in_default.not-PackageVersionReq;
  groups = c.in_default.not-McGroupStatusReq;
  group_setup = c.in_default.not-McGroupSetupReq;
  group_delete = c.in_default.not-McGroupDeleteReq;
  class_c = c.in_default.not-McClassCSessionReq;
  class_b = c.in_default.not-McClassBSessionReq;
})

pub returns-in-PackageVersionReq : goal.returns-in-PackageVersionReq
unfolding command_step
returns-in-PackageVersionReq g c = rw c.in-PackageVersionReq.is c.cast_package.ensures
