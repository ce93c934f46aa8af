use Rattle.std.proofs.Common.{◌∙◌, refl, sym, ap, subst, arith, List}
use Rattle.package_grammar.specs.declared.command.Command.{Command}
use Rattle.package_grammar.specs.HeldMessage.{HeldMessage}
use Rattle.device_core.specs.Device.{DeviceState}
use Rattle.device_core.specs.HeldDevice.{DeviceStands}
use Rattle.device_core.specs.Step.{weights}
use Rattle.device_core.proofs.Acting.{HasActed, acted_none, acted_more, acted_all, keeps_all, failed_at, keeps_until}
use Rattle.device_core.proofs.Keeping.{on_err, not_ok, keeps_erring}
use Rattle.device_core.proofs.device.Device.act_on.Goals as goal

pub loop-command-init : goal.loop-command-init
loop-command-init g c = record {
  port = c.requires.port;
  direction = c.requires.direction;
  room = c.requires.room;
  up = c.requires.up;
  in_flash = λ flash. flash;
  laid = record { layout = refl; held = refl };
  quiet = λ memory. refl;
  later = omega arith;
  acted = λ device stands. acted_none g.F.Flash.seen c.args.here c.args.self.now device c.args.message.commands stands;
}

pub loop-command-preserved : goal.loop-command-preserved
loop-command-preserved g c =
    let takes = c.in-Some.ensures.takes in
    let was = c.loop-command.invariant in
    let steps = c.in_ok-act.ensures.steps in
    let keeps = c.in_ok-act.ensures.keeps in
    record {
      port = sym (ap (λ (m : HeldMessage). m.port) takes) ∙ was.port;
      direction = sym (ap (λ (m : HeldMessage). m.direction) takes) ∙ was.direction;
      room = omega (arith, steps.few, ap (λ (m : HeldMessage). weights m.commands) takes, was.room);
      up = keeps.up;
      in_flash = λ flash. keeps.in_flash (was.in_flash flash);
      laid = record { layout = keeps.laid.layout ∙ was.laid.layout; held = keeps.laid.held ∙ was.laid.held };
      quiet = λ memory. (keeps.quiet (was.laid.held ∙ memory)).1 ∙ was.quiet memory;
      later = omega (arith, was.later, keeps.cause.later);
      acted = λ device stands.
          let all = c.args.message.commands in
          let so_far = subst (λ (m : HeldMessage). HasActed g.F.Flash.seen c.args.here c.args.self.now c.loop-command.self device all m.commands) takes
          (was.acted device stands) in
          acted_more g.F.Flash.seen c.args.here c.args.self.now c.loop-command.self c.act.new.self _ device all c.in-Some.command c.next.new.self.commands
          was.in_flash was.laid so_far steps.stands keeps;
    }

pub returns-in_err-act : goal.returns-in_err-act
returns-in_err-act g c =
    let was = c.loop-command.invariant in
    let all = c.args.message.commands in
    let so_far = λ (device : DeviceState) (stands : DeviceStands c.args.self.now device). subst (λ (m : HeldMessage). HasActed g.F.Flash.seen c.args.here c.args.self.now c.loop-command.self device all m.commands) c.in-Some.ensures.takes
    (was.acted device stands) in
    record {
      becomes = not_ok _ c.from_residual.result c.from_residual.ensures.0;
      fails = on_err c.from_residual.result (λ device stands.
          failed_at g.F.Flash.seen c.args.here c.args.self.now c.loop-command.self c.act.new.self device all c.in-Some.command c.next.new.self.commands
          (so_far device stands) c.in_err-act.ensures.fails);
      keeps = keeps_erring {A = Unit {0}} g.F.Flash.seen c.args.self.now c.act.new.self.sessions (record {}) c.from_residual.result _ _ c.from_residual.ensures.0
          (keeps_until {B = Unit {0}} g.F.Flash.seen c.args.here c.args.self.now c.loop-command.self c.act.new.self.sessions _ _ all c.in-Some.command c.next.new.self.commands
          was.in_flash was.laid was.later so_far c.in_err-act.ensures.keeps);
    }

pub returns : goal.returns
returns g c =
    let was = c.loop-command.invariant in
    let all = c.args.message.commands in
    let acted = λ (device : DeviceState) (stands : DeviceStands c.args.self.now device). subst (λ (cs : List Command). HasActed g.F.Flash.seen c.args.here c.args.self.now c.loop-command.self device all cs) c.in_default.ensures.takes.0
    (was.acted device stands) in
    record {
      becomes = λ device stands. acted_all g.F.Flash.seen c.args.here c.args.self.now c.loop-command.self device all (acted device stands);
      fails = tt;
      keeps = keeps_all g.F.Flash.seen c.args.here c.args.self.now c.loop-command.self _ all was.up was.in_flash was.laid was.quiet was.later acted;
    }
