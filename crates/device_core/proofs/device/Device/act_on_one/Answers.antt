use Rattle.device_core.proofs.Keeping.{keeps_untouched}
use Rattle.device_core.proofs.Sending.{steps_aside, aside_sessions}
use Rattle.device_core.proofs.device.Device.act_on_one.Goals as goal

pub returns-in-Sync : goal.returns-in-Sync
returns-in-Sync g c = rw c.in-Sync.is (record {
  steps = steps_aside _ _ _ _ c.act_on_sync.ensures;
  fails = tt;
  keeps = keeps_untouched g.F.Flash.seen c.args.self.now c.act_on_sync.new.self.sessions _ _ _
      c.act_on_sync.ensures.goes.untouched c.requires.up
      (λ device stands. aside_sessions c.args.self.now c.act_on_sync.new.self _ device c.act_on_sync.ensures.goes stands);
})
