use Rattle.std.proofs.Common.{sym, ap, subst}
use Rattle.device_core.specs.HeldDevice.{HeldDevice}
use Rattle.device_core.specs.HeldSessions.{HeldStore, IsUp}
use Rattle.device_core.proofs.Downs.{down_at, between_at}
use Rattle.device_core.proofs.Payloads.{serves_down, down_no_fault, delivers_ok, delivers_err}
use Rattle.device_core.proofs.device.Device.receive.Goals as goal

pub returns-then-is_down : goal.returns-then-is_down
returns-then-is_down g c =
    serves_down g.F.Flash.seen c.args.self.now _ _ _ _ _ down_no_fault
    (down_at c.args.self.now c.self.inside.sessions (ap (λ (h : HeldDevice _). h.sessions) c.self.view_is) (c.is_down.ensures.down c.if-is_down.true))

pub returns-in-Ok : goal.returns-in-Ok
returns-in-Ok g c =
    let at = ap (λ (h : HeldDevice _). h.sessions) (sym c.self.view_is) in
    delivers_ok g.F.Flash.seen c.args.self.now c.reboot_where_due.new.self c.hear.new.self c.reboot_where_due-in-Ok.new.self c.in-Ok.delivered
    c.args.t c.args.word c.args.mark c.args.down.now c.reboot_where_due.ensures.aside.untouched c.reboot_where_due-in-Ok.ensures.aside.untouched
    (subst (λ (s : HeldStore _). IsUp s.state) (sym at) (c.is_down.ensures.up c.if-is_down.false))
    (between_at g.F.Flash.seen c.args.self.now c.self.inside.sessions at c.is_down.ensures.between)
    c.reboot_where_due.ensures.becomes c.in-Ok.ensures c.reboot_where_due-in-Ok.ensures.becomes

pub returns-in-Err : goal.returns-in-Err
returns-in-Err g c =
    let at = ap (λ (h : HeldDevice _). h.sessions) (sym c.self.view_is) in
    delivers_err g.F.Flash.seen c.args.self.now c.reboot_where_due.new.self c.hear.new.self
    c.args.t c.args.word c.args.mark c.args.down.now c.reboot_where_due.ensures.aside.untouched
    (subst (λ (s : HeldStore _). IsUp s.state) (sym at) (c.is_down.ensures.up c.if-is_down.false))
    (between_at g.F.Flash.seen c.args.self.now c.self.inside.sessions at c.is_down.ensures.between)
    c.reboot_where_due.ensures.becomes c.in-Err.ensures
