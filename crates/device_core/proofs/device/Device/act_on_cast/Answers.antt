use Rattle.device_core.specs.Step.{command_step}
use Rattle.device_core.proofs.Acting.{is_aside, status_goes}
use Rattle.device_core.proofs.Keeping.{keeps_untouched}
use Rattle.device_core.proofs.Sending.{steps_aside, aside_sessions}
use Rattle.device_core.proofs.device.Device.act_on_cast.Goals as goal

pub act_aside-requires-clause-aside : goal.act_aside-requires-clause-aside
act_aside-requires-clause-aside g c = is_aside c.args.cmd.now (record {
  status = c.in_default.not-FragSessionStatusReq;
  setup = c.in_default.not-FragSessionSetupReq;
  delete = c.in_default.not-FragSessionDeleteReq;
  fragment = c.in_default.not-DataFragment;
})

pub returns-in_default : goal.returns-in_default
returns-in_default g c = record {
  steps = steps_aside _ _ _ _ c.act_aside.ensures;
  fails = tt;
  keeps = keeps_untouched g.F.Flash.seen c.args.self.now c.act_aside.new.self.sessions _ _ _
      c.act_aside.ensures.goes.untouched c.requires.up
      (λ device stands. aside_sessions c.args.self.now c.act_aside.new.self _ device c.act_aside.ensures.goes stands);
}

pub returns-in-FragSessionStatusReq : goal.returns-in-FragSessionStatusReq
unfolding command_step
returns-in-FragSessionStatusReq g c = rw c.in-FragSessionStatusReq.is (record {
  steps = c.status.ensures.steps;
  fails = tt;
  keeps = keeps_untouched g.F.Flash.seen c.args.self.now c.status.new.self.sessions _ _ _
      c.status.ensures.untouched c.requires.up
      (λ device stands. status_goes c.args.here device c.in-FragSessionStatusReq.index c.in-FragSessionStatusReq.all);
})
