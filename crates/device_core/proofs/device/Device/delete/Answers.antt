use Rattle.std.proofs.Common.{refl, None, sym, ap}
use Rattle.device_core.specs.HeldDevice.{HeldDevice}
use Rattle.device_core.specs.SessionTable.{SessionTable, with_session}
use Rattle.device_core.proofs.Heard.{delete_steps, not_some}
use Rattle.device_core.proofs.Keeping.{keeps_ok, keeps_err}
use Rattle.device_core.proofs.Stored.{keeps_at, delete_goes, delete_passes}
use Rattle.device_core.proofs.device.Device.delete.Goals as goal

pub returns-in-Ok : goal.returns-in-Ok
returns-in-Ok g c =
    let same = ap (λ (h : HeldDevice _). h.sessions) (sym c.self.view_is) in
    record {
      steps = rw (← c.self.view_is) (delete_steps c.args.here _ c.send.new.self c.delete.new.self c.args.index _ c.delete_answer.result
          (λ t stands. not_some _ c.in-Ok.lived (c.in-Ok.ensures.answer t stands)) c.in-Ok.ensures.serves.stands c.delete_answer.ensures.value c.send.ensures);
      fails = tt;
      keeps = keeps_at g.F.Flash.seen c.args.self.now c.delete.new.self c.send.new.self.sessions _ _ _
          (ap (λ (h : HeldDevice _). h.sessions) c.send.ensures)
          (keeps_ok g.F.Flash.seen c.args.self.now c.self.inside.sessions c.delete.new.self _ _ _ _
          (λ (t : SessionTable). with_session t c.args.index None) _ same
          (λ device stands. delete_goes c.args.here c.args.index device)
          (λ device b stands lies. delete_passes c.args.here c.self.inside.sessions c.args.index device b lies)
          c.in-Ok.ensures.serves);
    }

pub returns-in-Err : goal.returns-in-Err
returns-in-Err g c =
    let same = ap (λ (h : HeldDevice _). h.sessions) (sym c.self.view_is) in
    record {
      steps = tt;
      fails = rw (← c.self.view_is) (record { down = c.in-Err.ensures.serves.down; rest = λ table. refl });
      keeps = keeps_err g.F.Flash.seen c.args.self.now c.self.inside.sessions c.delete.new.self _ _ _ _
          (λ (t : SessionTable). with_session t c.args.index None) _ same
          (λ device b stands lies. delete_passes c.args.here c.self.inside.sessions c.args.index device b lies)
          c.in-Err.ensures.serves;
    }
