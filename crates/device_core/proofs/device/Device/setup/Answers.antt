use Rattle.std.proofs.Common.{refl, sym, ap}
use Rattle.session_store.specs.Size.{size_with}
use Rattle.device_core.specs.Configuration.{configured}
use Rattle.device_core.specs.HeldDevice.{HeldDevice}
use Rattle.device_core.proofs.Heard.{setup_steps}
use Rattle.device_core.proofs.Keeping.{keeps_ok, keeps_err}
use Rattle.device_core.proofs.Stored.{keeps_at, setup_goes, setup_passes, setup_table}
use Rattle.device_core.proofs.device.Device.setup.Goals as goal

pub returns-in-Ok : goal.returns-in-Ok
returns-in-Ok g c =
    let same = ap (λ (h : HeldDevice _). h.sessions) (sym c.self.view_is) in
    let config = ap (λ (h : HeldDevice _). h.config) (sym c.self.view_is) in
    record {
      steps = rw (← c.self.view_is) (setup_steps c.args.here _ c.send.new.self c.setup.new.self c.args.req c.in-Ok.bits c.setup_refusal.result
          c.self.invariant.layout c.self.invariant.held c.in-Ok.ensures.bits c.in-Ok.ensures.serves.stands c.setup_refusal.ensures.value c.send.ensures);
      fails = tt;
      keeps = keeps_at g.F.Flash.seen c.args.self.now c.setup.new.self c.send.new.self.sessions _ _ _
          (ap (λ (h : HeldDevice _). h.sessions) c.send.ensures)
          (keeps_ok g.F.Flash.seen c.args.self.now c.self.inside.sessions c.setup.new.self _ _ _ _
          (setup_table c.self.inside.sessions c.args.req) _ same
          (λ device stands. setup_goes c.args.here c.args.self.now c.self.inside.sessions (configured (size_with c.self.inside.size) c.self.inside.config) c.args.req device config c.self.invariant.layout c.self.invariant.held stands)
          (λ device b stands lies. setup_passes c.args.here c.args.self.now c.self.inside.sessions (configured (size_with c.self.inside.size) c.self.inside.config) c.args.req device b config c.self.invariant.layout c.self.invariant.held stands lies)
          c.in-Ok.ensures.serves);
    }

pub returns-in-Err : goal.returns-in-Err
returns-in-Err g c =
    let same = ap (λ (h : HeldDevice _). h.sessions) (sym c.self.view_is) in
    let config = ap (λ (h : HeldDevice _). h.config) (sym c.self.view_is) in
    record {
      steps = tt;
      fails = rw (← c.self.view_is) (record { down = c.in-Err.ensures.serves.down; rest = λ table. refl });
      keeps = keeps_err g.F.Flash.seen c.args.self.now c.self.inside.sessions c.setup.new.self _ _ _ _
          (setup_table c.self.inside.sessions c.args.req) _ same
          (λ device b stands lies. setup_passes c.args.here c.args.self.now c.self.inside.sessions (configured (size_with c.self.inside.size) c.self.inside.config) c.args.req device b config c.self.invariant.layout c.self.invariant.held stands lies)
          c.in-Err.ensures.serves;
    }
