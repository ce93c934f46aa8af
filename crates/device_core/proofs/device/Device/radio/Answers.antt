use Rattle.std.proofs.Common.{sym, ap, subst}
use Rattle.device_core.specs.HeldDevice.{HeldDevice}
use Rattle.device_core.specs.HeldSessions.{HeldStore, IsUp}
use Rattle.device_core.proofs.Downs.{down_at, between_at}
use Rattle.device_core.proofs.Payloads.{serves_down, heard_no_fault, airs_heard, airs_foreign}
use Rattle.device_core.proofs.device.Device.radio.Goals as goal

pub returns-then-is_down : goal.returns-then-is_down
returns-then-is_down g c =
    serves_down g.F.Flash.seen c.args.self.now _ _ _ _ _ heard_no_fault
    (down_at c.args.self.now c.self.inside.sessions (ap (λ (h : HeldDevice _). h.sessions) c.self.view_is) (c.is_down.ensures.down c.if-is_down.true))

pub returns-in-Ok : goal.returns-in-Ok
returns-in-Ok g c =
    airs_heard g.F.Flash.seen c.args.self.now c.deliver.new.self c.deliver.result
    c.args.t c.args.word c.args.mark c.args.bytes.now c.in-Ok.down c.in-Ok.ensures c.deliver.ensures

pub returns-in-Err : goal.returns-in-Err
returns-in-Err g c =
    let at = ap (λ (h : HeldDevice _). h.sessions) (sym c.self.view_is) in
    airs_foreign g.F.Flash.seen c.args.self.now c.pass_over.new.self
    c.args.t c.args.word c.args.mark c.args.bytes.now c.in-Err.fault c.pass_over.ensures.untouched
    (subst (λ (s : HeldStore _). IsUp s.state) (sym at) (c.is_down.ensures.up c.if-is_down.false))
    (between_at g.F.Flash.seen c.args.self.now c.self.inside.sessions at c.is_down.ensures.between)
    c.in-Err.ensures c.pass_over.ensures.becomes
