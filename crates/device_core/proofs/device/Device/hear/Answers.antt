use Rattle.std.proofs.Common.{true, false, ap}
use Rattle.device_core.specs.declared.delivered.Delivered.{Delivered}
use Rattle.device_core.specs.Deliver.{Outcome}
use Rattle.device_core.specs.HeldDevice.{HeldDevice}
use Rattle.device_core.proofs.Counted.{heard_deaf, hears_as, made_deaf}
use Rattle.device_core.proofs.Keeping.{keeps_untouched}
use Rattle.device_core.proofs.Messages.{read_hears, arrives}
use Rattle.device_core.proofs.device.Device.hear.Goals as goal

pub returns-then-not-hears : goal.returns-then-not-hears
returns-then-not-hears g c =
    let m = c.args.moment in
    let deaf = hears_as c.args.self.now m.t c.to.result c.args.down.now c.hears.result false c.to.ensures c.hears.ensures c.if-not-hears.true in
    record {
      makes = made_deaf c.args.self.now c.count_deaf.new.self m.t m.word m.mark c.args.down.now deaf c.count_deaf.ensures;
      answers = tt;
      fails = tt;
      keeps = keeps_untouched g.F.Flash.seen c.args.self.now c.count_deaf.new.self.sessions _ _ _
          (ap (λ (h : HeldDevice _). h.sessions) c.count_deaf.ensures) c.requires.up
          (λ device stands. ap (λ (o : Outcome Delivered). o.device.sessions) (heard_deaf m.t m.word m.mark c.args.down.now device (deaf device stands)));
    }

pub returns : goal.returns
returns g c =
    let m = c.args.moment in
    read_hears g.F.Flash.seen c.args.self.now c.read.new.self c.read.result m.t m.word m.mark c.args.down.now
    (record { moment = m; via = c.via_of.result; port = c.port.result }) c.port.result c.bytes.result.now c.port.ensures c.bytes.ensures.value
    (hears_as c.args.self.now m.t c.to.result c.args.down.now c.hears.result true c.to.ensures c.hears.ensures c.if-not-hears.false)
    (arrives c.args.self.now m c.args.down.now c.self.inside.class_session c.to-2.result c.via_of.result c.port.result
    (ap (λ (h : HeldDevice _). h.class_session) c.self.view_is) c.to-2.ensures c.via_of.ensures c.port.ensures)
    c.read.ensures
